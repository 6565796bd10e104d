-- How a flag changes at a step. Assumes nothing.
use mathlib.Core.Bool.{Bool, true, false, ◌&&◌, ◌||◌, and-true, and-false}
use mathlib.Core.List.{List}
use mathlib.Core.Path.{◌≡◌, refl, sym, ap, ◌∙◌}
use Prim.Native.Nat.{ℕ, zero, suc}
use native.Mathlib.Omega.{arith}
use lib.Dec.{eqb, eqb-suc-zero}
use borrow.Author.Tests.{eq-eqb, ne_eqb}
use Rattle.trace.specs.Trace.{some-from, behind-last, action, slot, clears-at, left, right, finds_at, flag}
use Rattle.trace.specs.Step.{next, flag_behind}
use Rattle.trace.proofs.Counting.{from_more, none-behind, behind-le, behind-here, behind-before}

-- A flag by whether a step cleared it, whether one behind the last of those found its tag, and its byte at the start
abbrev pub flag_of : Bool → Bool → ℕ → ℕ
flag_of cleared found x =
    elim (eqb (elim cleared [ true ↦ 0 | false ↦ x ]) 0 && found) [ true ↦ 1 | false ↦ elim cleared [ true ↦ 0 | false ↦ x ] ]

pub not_found : (x : ℕ) → flag_of false false x ≡ x
not_found x = rw (and-false (eqb x 0), flag_of)

pub set_before : (found : Bool) (x : ℕ) → eqb x 0 ≡ false → flag_of false found x ≡ x
set_before found x e = rw (e, flag_of)

pub set-stays : (x : ℕ) → eqb x 0 ≡ false → next false true x ≡ x
unfolding next
set-stays x e = rw (e, next)

found_more : (cleared found : Bool) (x : ℕ) → flag_of cleared true x ≡ next false true (flag_of cleared found x)
unfolding next
found_more true true x = refl
found_more true false x = refl
found_more false true zero = refl
found_more false false zero = refl
found_more false found (suc x) =
    let e = eqb-suc-zero x in set_before true (suc x) e ∙ sym (ap (next false true) (set_before found (suc x) e) ∙ set-stays (suc x) e)

module _ (clears finds : ℕ → Bool) (x : ℕ) where
  abbrev flag_at : ℕ → ℕ
  flag_at i = flag_of (some-from clears 0 i) (some-from finds (behind-last clears i) i) x

  flag_more : (i : ℕ) → flag_at (suc i) ≡ next (clears i) (finds i) (flag_at i)
  unfolding next
  flag_more i = ways (clears i) (finds i) refl refl
    where
      cleared : some-from clears 0 (suc i) ≡ clears i || some-from clears 0 i
      cleared = from_more clears 0 i (omega arith)

      found : some-from finds (behind-last clears i) (suc i) ≡ finds i || some-from finds (behind-last clears i) i
      found = from_more finds (behind-last clears i) i (behind-le clears i)

      stays : (f : Bool) → clears i ≡ false → finds i ≡ f → flag_at (suc i) ≡ flag_of (some-from clears 0 i) (f || some-from finds (behind-last clears i) i) x
      stays f e e' = rw (cleared, behind-before clears i e, found, e, e')

      ways : (c f : Bool) → clears i ≡ c → finds i ≡ f → flag_at (suc i) ≡ next c f (flag_at i)
      ways true f e e' = rw (cleared, e, behind-here clears i e, none-behind finds (suc i))
      ways false true e e' = stays true e e' ∙ found_more (some-from clears 0 i) (some-from finds (behind-last clears i) i) x
      ways false false e e' = stays false e e'

module _ (holds : ℕ → ℕ → Bool) (trace : List ℕ) (start : ℕ → ℕ) where
  pub flag_is : (s i : ℕ) →
      flag holds trace start s i
      ≡ flag_of (some-from (clears-at trace s) 0 i) (some-from (finds_at holds trace s) (behind-last (clears-at trace s) i) i) (start s)
  unfolding flag left
  flag_is s i = refl

  pub flag_first : (s : ℕ) → flag holds trace start s 0 ≡ start s
  unfolding flag left some-from
  flag_first s = not_found (start s)

  flag_step : (s i : ℕ) →
      flag holds trace start s (suc i) ≡ next (clears-at trace s i) (finds_at holds trace s i) (flag holds trace start s i)
  unfolding flag left
  flag_step s i = flag_more (clears-at trace s) (finds_at holds trace s) (start s) i

  clears-here : (i : ℕ) → clears-at trace (slot trace i) i ≡ eqb (action trace i) 1
  unfolding clears-at
  clears-here i = rw (eq-eqb (slot trace i) (slot trace i) refl, and-true)

  finds_here : (i : ℕ) → finds_at holds trace (slot trace i) i ≡ (eqb (action trace i) 0 && right holds trace i)
  unfolding finds_at
  finds_here i = rw (eq-eqb (slot trace i) (slot trace i) refl, and-true)

  clears-there : (s i : ℕ) → (slot trace i ≡ s → ⊥) → clears-at trace s i ≡ false
  unfolding clears-at
  clears-there s i h = rw (ne_eqb (slot trace i) s h, and-false)

  finds_there : (s i : ℕ) → (slot trace i ≡ s → ⊥) → finds_at holds trace s i ≡ false
  unfolding finds_at
  finds_there s i h = rw (ne_eqb (slot trace i) s h, and-false)

  -- the flag of the step's own slot, and of another
  pub flag_here : (i : ℕ) →
      flag holds trace start (slot trace i) (suc i) ≡ flag_behind (action trace i) (right holds trace i) (flag holds trace start (slot trace i) i)
  flag_here i = flag_step (slot trace i) i ∙ rw (clears-here i, finds_here i)

  pub flag_there : (s i : ℕ) → (slot trace i ≡ s → ⊥) → flag holds trace start s (suc i) ≡ flag holds trace start s i
  unfolding next
  flag_there s i h = flag_step s i ∙ rw (clears-there s i h, finds_there s i h)
