-- The arguments of a bootstrap method, one by one. Assumes nothing.
use mathlib.Core.List.{List, [], ◌∷◌, ◌++◌, append-nil, append_assoc}
use mathlib.Core.Path.{◌≡◌, refl, sym, ap, ap₂, ◌∙◌}
use Prim.Native.Nat.{ℕ, zero, suc, ◌+◌, ◌-◌, ◌*◌, ◌≤◌, ◌<◌}
use native.Mathlib.Numerals.{add-one}
use native.Mathlib.Omega.{arith}
use lib.ListN.{length, get_or}
use borrow.Author.Tests.{eq-eqb, ne_eqb}
use Rattle.definition.specs.Ascii.{ascii}
use Rattle.writer.specs.Numbers.{number2}
use Rattle.listing.specs.Listing.{Opening, slot, arguments}
use Rattle.listing.specs.Opening.{numbers_at, arguments_at, comma}

-- numbers that stand one behind the other
pub as_numbers :
    (l s : List ℕ) (at : ℕ) → ((k : ℕ) → k < length l → get_or l k 0 ≡ number2 s (at + 2 * k)) → l ≡ numbers_at s at (length l)
unfolding numbers_at
as_numbers [] s at each = refl
as_numbers (a ∷ l) s at each =
    let here : at + 2 * 0 ≡ at = omega arith in
    let behind : (k : ℕ) → at + 2 * suc k ≡ at + 2 + 2 * k = λ k. omega arith in
    ap₂ (λ (a : ℕ) (l : List ℕ). a ∷ l) (each 0 (omega arith) ∙ ap (number2 s) here)
    (as_numbers l s (at + 2) (λ k h. each (suc k) (omega arith) ∙ ap (number2 s) (behind k)))

-- before the first there is no comma
pub no_comma : (k : ℕ) → k ≡ 0 → [] ≡ comma k
unfolding comma
no_comma k h = rw (eq-eqb k 0 h, comma) refl

pub a_comma : (k : ℕ) → (k ≡ 0 → ⊥) → ascii ", " ≡ comma k
unfolding comma
a_comma k h = rw (ne_eqb k 0 h, comma) refl

module _ (show : Opening) where
  -- each with a comma before it
  abbrev behind : List ℕ → List ℕ
  behind [] = []
  behind (a ∷ l) = ascii ", " ++ (show (slot a) ++ behind l)

  next-argument : (a b : ℕ) (l : List ℕ) → arguments show (a ∷ b ∷ l) ≡ show (slot a) ++ ascii ", " ++ arguments show (b ∷ l)
  unfolding arguments
  next-argument a b l = refl

  last-argument : (a : ℕ) → arguments show (a ∷ []) ≡ show (slot a)
  unfolding arguments
  last-argument a = refl

  first_behind : (a : ℕ) (l : List ℕ) → arguments show (a ∷ l) ≡ show (slot a) ++ behind l
  first_behind a [] = last-argument a ∙ sym (append-nil (show (slot a)))
  first_behind a (b ∷ l) =
      next-argument a b l
      ∙ append_assoc (show (slot a)) (ascii ", ") (arguments show (b ∷ l))
      ∙ ap (λ t. show (slot a) ++ (ascii ", " ++ t)) (first_behind b l)

  -- those that are left where k are put
  abbrev from_on : ℕ → List ℕ → List ℕ
  from_on zero l = arguments show l
  from_on (suc k) l = behind l

  from-on_next : (k a : ℕ) (l : List ℕ) → from_on k (a ∷ l) ≡ comma k ++ (show (slot a) ++ from_on (suc k) l)
  from-on_next zero a l = first_behind a l ∙ ap (λ t. t ++ (show (slot a) ++ behind l)) (no_comma 0 refl)
  from-on_next (suc k) a l = ap (λ t. t ++ (show (slot a) ++ behind l)) (a_comma (suc k) (λ h. omega arith))

  from-on_none : (k : ℕ) → from_on k [] ≡ []
  unfolding arguments
  from-on_none zero = refl
  from-on_none (suc k) = refl

  abbrev pub Remaining : List ℕ → ℕ → ℕ → ℕ → List ℕ
  Remaining s at size k = from_on k (numbers_at s (at + 2 * k) (size - k))

  pub all_remaining : (s : List ℕ) (p size : ℕ) → size ≡ number2 s (p + 2) → arguments_at show s p ≡ Remaining s (p + 4) size 0
  unfolding arguments_at
  all_remaining s p size is =
      let here : p + 4 ≡ p + 4 + 2 * 0 = omega arith in
      let whole : size ≡ size - 0 = omega arith in
      ap₂ (λ at n. arguments show (numbers_at s at n)) here (sym is ∙ whole)

  pub next-remaining :
      (s : List ℕ) (at size k : ℕ) → k < size
      → Remaining s at size k ≡ comma k ++ (show (slot (number2 s (at + 2 * k))) ++ Remaining s at size (k + 1))
  unfolding numbers_at
  next-remaining s at size k h =
      let some' : size - k ≡ suc (size - (k + 1)) = omega arith in
      let there : at + 2 * k + 2 ≡ at + 2 * (k + 1) = omega arith in
      let rest = numbers_at s (at + 2 * k + 2) (size - (k + 1)) in
      ap (λ n. from_on k (numbers_at s (at + 2 * k) n)) some'
      ∙ from-on_next k (number2 s (at + 2 * k)) rest
      ∙ (λ i. comma k ++ (show (slot (number2 s (at + 2 * k))) ++ from_on (sym (add-one k) i) (numbers_at s (there i) (size - (k + 1)))))

  pub none-remaining : (s : List ℕ) (at size k : ℕ) → size ≤ k → Remaining s at size k ≡ []
  unfolding numbers_at
  none-remaining s at size k h =
      let none' : size - k ≡ 0 = omega arith in
      ap (λ n. from_on k (numbers_at s (at + 2 * k) n)) none' ∙ from-on_none k
