-- Bytes written at a place, piece by piece. Assumes nothing.
use mathlib.Core.Path.{◌≡◌, refl, sym, subst, ◌∙◌}
use mathlib.Core.List.{List, [], ◌∷◌, ◌++◌}
use Prim.Native.Nat.{ℕ, ◌+◌, ◌<◌, ◌≤◌}
use native.Mathlib.Nat.{le_refl, add_assoc, add-zero}
use native.Mathlib.Omega.{arith}
use lib.ListN.{length, set, take, drop, length-append}
use lib.Seq.{paste, paste-zero, sets-eq, take-take}
use Rattle.definition.specs.Bytes.{be2}
use Rattle.facts.proofs.Copies.{part_length}
use Rattle.writer.proofs.Laws.{paste-paste}
use Rattle.raw_const.specs.Entries.{Wrote}

-- bytes behind bytes
pub wrote_then :
    {d d₁ d₂ a b : List ℕ} {at m r : ℕ} →
    Wrote d at a d₁ m → at + length a ≤ length d → Wrote d₁ m b d₂ r → Wrote d at (a ++ b) d₂ r
wrote_then {d} {a = a} {b} {at} first room second =
    record {
      out = rw (second.out, first.next, first.out, length-append) (paste-paste d a b at (length b) room);
      next = rw (second.next, first.next, length-append) (add_assoc at (length a) (length b));
    }

-- the same bytes
pub wrote_as : {d d₁ a b : List ℕ} {at r : ℕ} → a ≡ b → Wrote d at a d₁ r → Wrote d at b d₁ r
wrote_as {d} {d₁} {at = at} {r} e = subst (λ (l : List ℕ). Wrote d at l d₁ r) e

-- no bytes
pub wrote_nothing : (d : List ℕ) (at : ℕ) → Wrote d at [] d at
wrote_nothing d at = record { out = paste-zero d at []; next = sym (add-zero at) }

-- a stored byte
pub wrote_byte : (d : List ℕ) (at x : ℕ) {d₁ : List ℕ} → at < length d → d₁ ≡ set d at x → Wrote d at (x ∷ []) d₁ (at + 1)
wrote_byte d at x room e = record { out = e ∙ sets-eq (x ∷ []) d at (omega arith); next = refl }

-- a number of two bytes
pub wrote_short : (d : List ℕ) (at x : ℕ) {d₁ : List ℕ} → d₁ ≡ paste d at (be2 x) 2 → Wrote d at (be2 x) d₁ (at + 2)
unfolding be2
wrote_short d at x e = record { out = e; next = refl }

-- a copied part
pub wrote_part :
    (d s : List ℕ) (at from n : ℕ) {d₁ : List ℕ} → from + n ≤ length s → d₁ ≡ paste d at (drop from s) n →
    Wrote d at (take n (drop from s)) d₁ (at + n)
wrote_part d s at from n room e =
    record {
      out = rw (e, part_length s from n room, take-take n n (drop from s) (le_refl n));
      next = rw (part_length s from n room);
    }
