-- Slots that were read stand one behind the other, and a table that has their places is a note of them. Assumes nothing.
use mathlib.Core.Bool.{Bool, true, false}
use mathlib.Core.List.{List, [], ◌∷◌}
use mathlib.Core.Option.{some}
use mathlib.Core.Path.{◌≡◌, refl, ap, ◌∙◌}
use Prim.Native.Nat.{ℕ, zero, suc, ◌+◌, ◌<◌, ◌≤◌}
use native.Mathlib.Omega.{arith}
use lib.ListN.{length, drop, get_or, get_elem?, set, replicate, length-set, length-replicate}
use lib.Seq.{get_or-set_same, get_or-set_other}
use Rattle.jvms.specs.Pool.{◌>>=◌, u2, Constant, cp_info_lem, takes_two, Slot, usable, unusable, slots, constant_pool}
use Rattle.jvms.specs.Written.{constant_bytes}
use Rattle.writer.specs.Numbers.{number2}
use Rattle.facts.proofs.Lists.{none≢some, replicate-either}
use Rattle.places.specs.Standing.{slot_of, ConstantAt, Noted}
use Rattle.places.specs.Noting.{Blank, placed, PoolNoted}
use Rattle.std.specs.Prelude.{Some}
use Rattle.places.proofs.Finding.{Finds, finds_fail, finds_return, finds_bind, finds_itself, finds_u2, Stands, finds_constant}
use Rattle.places.proofs.Passing.{length-placed}

-- constants stand one behind the other from a place on
abbrev pub InRow : List ℕ → ℕ → List Slot → Type 0
InRow s p [] = Unit {0}
InRow s p (usable c ∷ l) = ConstantAt s p c × InRow s (p + length (constant_bytes c)) l
InRow s p (unusable ∷ l) = InRow s p l

-- slots that are read do, and there are as many as were asked for
finds_slots : (n : ℕ) (w : Bool) (s : List ℕ) (p : ℕ) → p ≤ length s → Finds (λ l e. (length l ≡ n) × InRow s p l) (slots n w) s p
unfolding slots
finds_slots zero false s p inside = finds_return _ [] s p inside (refl, tt)
finds_slots zero true s p inside = finds_fail _ s p
finds_slots (suc n) false s p inside =
    let first = finds_itself (Stands s p) cp_info_lem s p (finds_constant s p) in
    finds_bind (λ c e. (cp_info_lem (drop p s) ≡ some (c, drop e s)) × Stands s p c e) _ cp_info_lem _ s p first λ c e in₁ h.
    finds_bind (λ l e'. (length l ≡ n) × InRow s e l) _ (slots n (takes_two c)) _ s e (finds_slots n (takes_two c) s e in₁) λ l e' in₂ k.
    finds_return _ (usable c ∷ l) s e' in₂ (ap suc k.0, ((drop e s, h.0), rw (← h.1.behind) k.1))
finds_slots (suc n) true s p inside =
    finds_bind (λ l e. (length l ≡ n) × InRow s p l) _ (slots n false) _ s p (finds_slots n false s p inside) λ l e in₁ k.
    finds_return _ (unusable ∷ l) s e in₁ (ap suc k.0, k.1)

pub slots-size :
    (n : ℕ) (w : Bool) (s : List ℕ) (p : ℕ) → p ≤ length s → (l : List Slot) (rest : List ℕ) → slots n w (drop p s) ≡ some (l, rest) →
    length l ≡ n
slots-size n w s p inside l rest read = let (e, low, left, is) = finds_slots n w s p inside l rest read in is.0

-- before the first slot's index the table is as it was
placed_below : (l : List Slot) (p i : ℕ) (table : List ℕ) (n : ℕ) → n < i → get_or (placed l p i table) n 0 ≡ get_or table n 0
unfolding placed
placed_below [] p i table n low = refl
placed_below (usable c ∷ l) p i table n low =
    placed_below l (p + length (constant_bytes c)) (suc i) (set table i p) n (omega arith) ∙ get_or-set_other table i n p 0 (λ e. omega arith)
placed_below (unusable ∷ l) p i table n low = placed_below l p (suc i) table n (omega arith)

-- at a constant's index it has a place where the constant stands
placed-there :
    (s : List ℕ) (l : List Slot) (p i : ℕ) (table : List ℕ) → i + length l ≤ length table → InRow s p l →
    (k : ℕ) (c : Constant) → get_elem? l k ≡ some (usable c) →
    (p ≤ get_or (placed l p i table) (i + k) 0) × ConstantAt s (get_or (placed l p i table) (i + k) 0) c
unfolding placed
placed-there s [] p i table room row k c is = none≢some is
placed-there s (usable x ∷ l) p i table room row zero c is =
    let index : i + 0 ≡ i = omega arith in
    let low : i < length table = omega arith in
    let here : get_or (placed l (p + length (constant_bytes x)) (suc i) (set table i p)) i 0 ≡ p =
    placed_below l (p + length (constant_bytes x)) (suc i) (set table i p) i (omega arith) ∙ get_or-set_same table i p 0 low in
    let same : x ≡ c = cc in
    rw (index, here, ← same) (omega arith, row.0)
placed-there s (usable x ∷ l) p i table room row (suc k) c is =
    let index : i + suc k ≡ suc i + k = omega arith in
    let (low, there) = placed-there s l (p + length (constant_bytes x)) (suc i) (set table i p) (simp length-set (omega arith)) row.1 k c is in
    rw index (omega arith, there)
placed-there s (unusable ∷ l) p i table room row zero c is = let z : ◌≡◌ {A = ℕ} 0 1 = cc in absurd (omega arith)
placed-there s (unusable ∷ l) p i table room row (suc k) c is =
    let index : i + suc k ≡ suc i + k = omega arith in
    rw index (placed-there s l p (suc i) table (omega arith) row k c is)

-- and elsewhere it is as it was
placed-else :
    (l : List Slot) (p i : ℕ) (table : List ℕ) (k : ℕ) → ((c : Constant) → get_elem? l k ≡ some (usable c) → ⊥) →
    get_or (placed l p i table) (i + k) 0 ≡ get_or table (i + k) 0
unfolding placed
placed-else [] p i table k not = refl
placed-else (usable x ∷ l) p i table zero not = absurd (not x refl)
placed-else (usable x ∷ l) p i table (suc k) not =
    let index : i + suc k ≡ suc i + k = omega arith in
    rw index (placed-else l (p + length (constant_bytes x)) (suc i) (set table i p) k not ∙ get_or-set_other table i (suc i + k) p 0 (λ e. omega arith))
placed-else (unusable ∷ l) p i table zero not =
    let index : i + 0 ≡ i = omega arith in
    rw index (placed_below l p (suc i) table i (omega arith))
placed-else (unusable ∷ l) p i table (suc k) not =
    let index : i + suc k ≡ suc i + k = omega arith in
    rw index (placed-else l p (suc i) table k not)

finds_pool : (s : List ℕ) (p : ℕ) → Finds (λ l e. InRow s (p + 2) l) (u2 >>= constant_pool) s p
unfolding constant_pool
finds_pool s p = finds_bind (λ n e. (n ≡ number2 s p) × (e ≡ p + 2)) _ u2 constant_pool s p (finds_u2 s p) λ n e inside h. behind n e inside h.1
  where
    behind : (n e : ℕ) → e ≤ length s → e ≡ p + 2 → Finds (λ l e. InRow s (p + 2) l) (constant_pool n) s e
    behind zero e inside is = finds_fail _ s e
    behind (suc n) e inside is = λ l rest read.
        let (e', low, left, k) = finds_slots n false s e inside l rest read in
        (e', low, left, rw (← is) k.1)

-- zeros are a table with no place in it
pub blank_zeros : Blank (replicate 65536 0)
blank_zeros = (length-replicate {0} {A = ℕ} 65536 0, λ n. replicate-either (λ x. x ≡ 0) 65536 n 0 0 refl refl)

-- a pool that was noted in such a table is what the table notes
pub pool_table :
    (bytes : List ℕ) (at : ℕ) (before after : List ℕ) (next : ℕ) → Blank before → (h : PoolNoted bytes at before after (Some next)) →
    Noted bytes h.0 after
unfolding slot_of
pool_table bytes at before after next blank h =
    let (found, read, from, to, few, is) = h in
    let (e, low, left, row) = finds_pool bytes at found (drop next bytes) read in
    record {
      size = ap length is ∙ length-placed found (at + 2) 1 before ∙ blank.0;
      begins = λ n c there. rw is (begins found row (omega (arith, blank.0)) n c there);
      no_more = λ n not. rw is (no_more found n not);
    }
  where
    begins :
        (l : List Slot) → InRow bytes (at + 2) l → 1 + length l ≤ length before → (n : ℕ) (c : Constant) → slot_of l n ≡ some (usable c) →
        (0 < get_or (placed l (at + 2) 1 before) n 0) × ConstantAt bytes (get_or (placed l (at + 2) 1 before) n 0) c
    begins l row room zero c there = none≢some there
    begins l row room (suc i) c there =
        let index : suc i ≡ 1 + i = omega arith in
        let (low, stands) = placed-there bytes l (at + 2) 1 before room row i c there in
        rw index (omega arith, stands)

    no_more : (l : List Slot) (n : ℕ) → ((c : Constant) → slot_of l n ≡ some (usable c) → ⊥) → get_or (placed l (at + 2) 1 before) n 0 ≡ 0
    no_more l zero not = placed_below l (at + 2) 1 before 0 (omega arith) ∙ blank.1 0
    no_more l (suc i) not =
        let index : suc i ≡ 1 + i = omega arith in
        rw index (placed-else l (at + 2) 1 before i not ∙ blank.1 (1 + i))
