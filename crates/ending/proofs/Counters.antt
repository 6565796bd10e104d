-- Counters that one more write leaves alone. Assumes nothing.
use mathlib.Core.Bool.{false}
use mathlib.Core.List.{List, [], ◌∷◌, ◌++◌}
use mathlib.Core.Path.{◌≡◌, refl, sym}
use Prim.Native.Nat.{ℕ}
use lib.ListN.{set}
use lib.Seq.{get_or-set_other}
use borrow.Author.Tests.{ne_eqb}
use Rattle.store.specs.Store.{among}
use Rattle.store.specs.Regions.{GAP-COUNT, ODD, WIDE, PLAIN}
use Rattle.pool.proofs.Words.{not-among}
use Rattle.pool.proofs.Giving.{SameGaps}

-- none of some is none of the first of them, and not the last
pub among-last : (c x : ℕ) (l : List ℕ) → among c (l ++ x ∷ []) ≡ false → (c ≡ x → ⊥) × (among c l ≡ false)
among-last c x [] f = ((not-among c x [] f).0, refl)
among-last c x (y ∷ l) f =
    let (a, g) = not-among c y (l ++ x ∷ []) f in
    let (b, d) = among-last c x l g in
    (b, rw (ne_eqb c y a) d)

-- a counter that the gaps don't go by
pub gaps_set : (counts : List ℕ) (k n : ℕ) → among k (GAP-COUNT ∷ ODD ∷ WIDE ∷ PLAIN ∷ []) ≡ false → SameGaps counts (set counts k n)
gaps_set counts k n f =
    let (a, x) = not-among k GAP-COUNT (ODD ∷ WIDE ∷ PLAIN ∷ []) f in
    let (b, y) = not-among k ODD (WIDE ∷ PLAIN ∷ []) x in
    let (c, z) = not-among k WIDE (PLAIN ∷ []) y in
    let (d, _) = not-among k PLAIN [] z in
    record {
      count = get_or-set_other counts k GAP-COUNT n 0 (λ e. a (sym e));
      odd = get_or-set_other counts k ODD n 0 (λ e. b (sym e));
      wide = get_or-set_other counts k WIDE n 0 (λ e. c (sym e));
      plain = get_or-set_other counts k PLAIN n 0 (λ e. d (sym e));
    }
