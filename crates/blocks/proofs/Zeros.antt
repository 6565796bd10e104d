-- Bytes are all zero for the definition exactly if they are for std. Assumes nothing.
use mathlib.Core.Path.{◌≡◌, refl, sym}
use mathlib.Core.Bool.{Bool, true, false}
use mathlib.Core.List.{List, [], ◌∷◌}
use Prim.Native.Nat.{ℕ}
use borrow.Author.Tests.{eqb-true, eq-eqb}
use lib.Dec.{eqb}
use Rattle.std.specs.Prelude.{IsTrue, All, ◌↔◌}
use Rattle.std.proofs.lemmas.List.Elements.{All-nil, All-cons, All-head, All-tail}
use Rattle.definition.specs.Basics.{every}
use Rattle.definition.specs.Blocks.{all_zero}
use Rattle.facts.proofs.Lists.{both_true}

all_of : (bytes : List ℕ) → every (λ b. eqb b 0) bytes ≡ true → All (λ b. b ≡ 0) bytes
unfolding every
all_of [] h = All-nil (λ b. b ≡ 0)
all_of (b ∷ bytes) h =
    let both = both_true (eqb b 0) (every (λ x. eqb x 0) bytes) h in
    All-cons (λ x. x ≡ 0) b bytes (eqb-true b 0 both.0) (all_of bytes both.1)

of_all : (bytes : List ℕ) → All (λ b. b ≡ 0) bytes → every (λ b. eqb b 0) bytes ≡ true
unfolding every
of_all [] h = refl
of_all (b ∷ bytes) h =
    let first : eqb b 0 ≡ true = eq-eqb b 0 (All-head (λ x. x ≡ 0) b bytes h) in
    rw first (of_all bytes (All-tail (λ x. x ≡ 0) b bytes h))

pub zeros_tested : (r : Bool) (bytes : List ℕ) → IsTrue r ↔ All (λ b. b ≡ 0) bytes → r ≡ all_zero bytes
unfolding all_zero
zeros_tested true bytes h = sym (of_all bytes (h.0 refl))
zeros_tested false bytes h = go (every (λ b. eqb b 0) bytes) refl
  where
    go : (v : Bool) → every (λ b. eqb b 0) bytes ≡ v → false ≡ v
    go true e = h.1 (all_of bytes e)
    go false e = refl
