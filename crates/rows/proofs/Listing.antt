-- Lists that are searched from the last item on, and numbers that aren't 0. Assumes nothing.
use mathlib.Core.Bool.{Bool, true, false, cond}
use mathlib.Core.List.{List, [], ◌∷◌, reverse, reverse_aux, reverse-reverse}
use mathlib.Core.Logic.{⊎_elim}
use mathlib.Core.Option.{none, some}
use mathlib.Core.Path.{◌≡◌, refl, sym, ap, ◌∙◌}
use Prim.Native.Nat.{ℕ, zero, suc, ◌+◌, ◌≤◌, ◌<◌}
use native.Mathlib.Omega.{arith}
use lib.Dec.{eqb}
use lib.ListN.{length, get_or, set}
use borrow.Author.Tests.{eq-eqb, ne_eqb}
use Rattle.definition.specs.Basics.{same, from}
use Rattle.definition.specs.Building.{Row, index_of}
use Rattle.facts.proofs.Lists.{same_true, same_refl, equal}
use Rattle.rows.specs.Rowed.{backwards, filled}

pub backwards-same : {A : Type 0} (f g : ℕ → A) (n : ℕ) → ((i : ℕ) → i < n → f i ≡ g i) → backwards f n ≡ backwards g n
unfolding backwards
backwards-same f g zero h = refl
backwards-same f g (suc n) h = rw (h n (omega arith), backwards-same f g n (λ i l. h i (omega arith)))

-- a list the other way round
turned : {A : Type 0} (f : ℕ → A) (m i : ℕ) → reverse_aux (from f i m) (backwards f i) ≡ backwards f (i + m)
unfolding backwards from
turned f zero i = let e : i + 0 ≡ i = omega arith in rw e
turned f (suc m) i = let e : i + suc m ≡ suc i + m = omega arith in rw e (turned f m (suc i))

pub reverse-from : {A : Type 0} (f : ℕ → A) (n : ℕ) → reverse (from f 0 n) ≡ backwards f n
unfolding backwards
reverse-from f n = let e : 0 + n ≡ n = omega arith in rw e at (turned f n 0)

pub reverse-backwards : {A : Type 0} (f : ℕ → A) (n : ℕ) → reverse (backwards f n) ≡ from f 0 n
reverse-backwards f n = ap reverse (sym (reverse-from f n)) ∙ reverse-reverse (from f 0 n)

-- THE INDEX of a row

pub index-here : (row row' : Row) (x : ℕ) (l : List (Row × ℕ)) → row ≡ row' → index_of row ((row', x) ∷ l) ≡ some x
unfolding index_of
index-here row row' x l e = let q : same row row' ≡ true = rw e (same_refl row') in rw (q, index_of)

pub index-later : (row row' : Row) (x : ℕ) (l : List (Row × ℕ)) → (row ≡ row' → ⊥) → index_of row ((row', x) ∷ l) ≡ index_of row l
unfolding index_of
index-later row row' x l e = ways (same row row') refl
  where
    ways : (b : Bool) → same row row' ≡ b → elim b [ true ↦ some x | false ↦ index_of row l ] ≡ index_of row l
    ways true q = absurd (e (same_true row row' q))
    ways false q = refl

module _ (row : Row) (f : ℕ → Row × ℕ) where
  pub index-none : (n : ℕ) → ((i : ℕ) → i < n → (f i).0 ≡ row → ⊥) → index_of row (backwards f n) ≡ none
  unfolding backwards index_of
  index-none zero h = refl
  index-none (suc n) h =
      index-later row (f n).0 (f n).1 (backwards f n) (λ e. h n (omega arith) (sym e)) ∙ index-none n (λ i l. h i (omega arith))

  -- the one that has it, if the later ones haven't
  pub index-some : (n i : ℕ) → i < n → (f i).0 ≡ row → ((j : ℕ) → i < j → j < n → (f j).0 ≡ row → ⊥) → index_of row (backwards f n) ≡ some (f i).1
  unfolding backwards
  index-some zero i l e h = absurd (omega arith)
  index-some (suc n) i l e h =
      ⊎_elim
      (λ (z : i ≡ n). rw (← z) (index-here row (f i).0 (f i).1 (backwards f i) (sym e)))
      (λ (z : i ≡ n → ⊥).
      index-later row (f n).0 (f n).1 (backwards f n) (λ q. h n (omega arith) (omega arith) (sym q))
      ∙ index-some n i (omega arith) e (λ j a b. h j a (omega arith)))
      (equal i n)

-- NUMBERS THAT AREN'T 0

filled-le : (l : List ℕ) → filled l ≤ length l
unfolding filled
filled-le [] = omega arith
filled-le (x ∷ l) = ways (eqb x 0) (filled-le l)
  where
    ways : (b : Bool) → filled l ≤ length l → cond b (filled l) (suc (filled l)) ≤ suc (length l)
    ways true h = omega arith
    ways false h = omega arith

pub filled_more : (l : List ℕ) (i x : ℕ) → i < length l → get_or l i 0 ≡ 0 → 0 < x → filled (set l i x) ≡ suc (filled l)
unfolding filled
filled_more [] i x h e p = absurd (omega arith)
filled_more (y ∷ l) zero x h e p = rw (ne_eqb x 0 (λ z. omega arith), eq-eqb y 0 e)
filled_more (y ∷ l) (suc i) x h e p = ways (eqb y 0) (filled_more l i x (omega arith) e p)
  where
    ways : (b : Bool) → filled (set l i x) ≡ suc (filled l) → cond b (filled (set l i x)) (suc (filled (set l i x))) ≡ suc (cond b (filled l) (suc (filled l)))
    ways true q = q
    ways false q = ap suc q

pub filled_keeps : (l : List ℕ) (i x : ℕ) → 0 < x → filled l ≤ filled (set l i x)
unfolding filled
filled_keeps [] i x p = omega arith
filled_keeps (y ∷ l) zero x p = rw (ne_eqb x 0 (λ z. omega arith)) (ways (eqb y 0))
  where
    ways : (b : Bool) → cond b (filled l) (suc (filled l)) ≤ suc (filled l)
    ways true = omega arith
    ways false = omega arith
filled_keeps (y ∷ l) (suc i) x p = ways (eqb y 0) (filled_keeps l i x p)
  where
    ways : (b : Bool) → filled l ≤ filled (set l i x) → cond b (filled l) (suc (filled l)) ≤ cond b (filled (set l i x)) (suc (filled (set l i x)))
    ways true q = q
    ways false q = omega arith

-- one that is 0 leaves room
pub filled-room : (l : List ℕ) (i : ℕ) → i < length l → get_or l i 0 ≡ 0 → filled l < length l
unfolding filled
filled-room [] i h e = absurd (omega arith)
filled-room (y ∷ l) zero h e = rw (eq-eqb y 0 e) (omega (arith, filled-le l))
filled-room (y ∷ l) (suc i) h e = ways (eqb y 0) (filled-room l i (omega arith) e)
  where
    ways : (b : Bool) → filled l < length l → cond b (filled l) (suc (filled l)) < suc (length l)
    ways true q = omega arith
    ways false q = omega arith

pub few_room : (l : List ℕ) (n : ℕ) → n ≤ filled l → n ≤ length l
few_room l n h = omega (arith, filled-le l)
