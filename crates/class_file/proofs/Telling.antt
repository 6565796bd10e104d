-- Tests that tell whether something is so. Assumes nothing.
use mathlib.Core.Bool.{Bool, true, false, not}
use mathlib.Core.Path.{◌≡◌, refl, sym, ◌∙◌}
use Prim.Native.Nat.{ℕ}
use lib.Dec.{eqb}
use borrow.Author.Tests.{eqb-true, eq-eqb}
use Rattle.facts.proofs.Lists.{true≢false}
use Rattle.class_file.specs.Answers.{Tells}

pub tells_equal : {P : Type 0} (a b : ℕ) → (a ≡ b → P) → (P → a ≡ b) → Tells (eqb a b) P
tells_equal {P} a b forth back = go (eqb a b) refl
  where
    go : (t : Bool) → eqb a b ≡ t → Tells t P
    go true e = forth (eqb-true a b e)
    go false e = λ p. true≢false (sym (eq-eqb a b (back p)) ∙ e)

pub tells_no : {P : Type 0} (t : Bool) → Tells t P → not t ≡ true → P → ⊥
tells_no true told e p = true≢false (sym e)
tells_no false told e p = told p

pub tells_yes : {P : Type 0} (t : Bool) → Tells t P → not t ≡ false → P
tells_yes true told e = told
tells_yes false told e = true≢false e
