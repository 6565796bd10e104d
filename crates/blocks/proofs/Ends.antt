-- What a call answers and leaves behind, once the definition's result is known. Assumes nothing.
use mathlib.Core.Path.{◌≡◌, ap, ◌∙◌}
use mathlib.Core.List.{List}
use Prim.Native.Nat.{ℕ}
use lib.ListN.{length}
use Rattle.definition.specs.Basics.{Result, good, bad, Refusal}
use Rattle.definition.specs.Run.{overwrite}
use Rattle.definition.specs.Blocks.{blocks_after}
use Rattle.blocks.specs.Answers.{length_of, numbers_of, Told}
use Rattle.blocks.specs.declared.Numbers.{Numbers}

module _ (result : Result Refusal (List ℕ)) (before : List ℕ) where
  pub ends-bad : (r : Refusal) → result ≡ bad r → (bad r ≡ length_of result) × (before ≡ blocks_after result before)
  unfolding length_of blocks_after
  ends-bad r e = (rw e, rw e)

  pub ends-good :
      (new after : List ℕ) (n : ℕ) → result ≡ good new → length new ≡ n → after ≡ overwrite new before →
      (good n ≡ length_of result) × (after ≡ blocks_after result before)
  unfolding length_of blocks_after
  ends-good new after n e size written = (rw (e, size), rw e written)

-- the forms for Rust and C
pub told :
    (result : Result Refusal (List ℕ)) (before after : List ℕ) (answer : Result Refusal ℕ) (numbers : Numbers) →
    (answer ≡ length_of result) × (after ≡ blocks_after result before) → numbers ≡ numbers_of answer →
    Told result numbers.code numbers.place numbers.size before after
told result before after answer numbers ended e =
    let all : numbers ≡ numbers_of (length_of result) = e ∙ ap numbers_of ended.0 in
    record {
      code_is = ap (λ n. n.code) all;
      place_is = ap (λ n. n.place) all;
      size_is = ap (λ n. n.size) all;
      after_is = ended.1;
    }
