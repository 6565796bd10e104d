-- What the two answers mean in document 01: the length written, or a refusal's number and place. Assumes nothing.
use Rattle.std.specs.Prelude.{◌≡◌, List, ℕ, length}
use Rattle.definition.specs.Basics.{Result, good, bad, Refusal}
use Rattle.definition.specs.Blocks.{blocks_after}
use Rattle.blocks.specs.declared.Numbers.{Numbers}

-- the definition's result, with its bytes told by their length
unfoldable pub length_of : Result Refusal (List ℕ) → Result Refusal ℕ
length_of (good bytes) = good (length bytes)
length_of (bad r) = bad r

-- the same as numbers: 0 for success, and 0 for whatever isn't there
unfoldable pub numbers_of : Result Refusal ℕ → Numbers
numbers_of (good n) = record { code = 0; place = 0; size = n }
numbers_of (bad r) = record { code = r.code; place = r.place; size = 0 }

-- what the forms for Rust and C return and leave in their places, after the definition's result
pub record Told (result : Result Refusal (List ℕ)) (code place size : ℕ) (before after : List ℕ) : Type 0 where
  pub code_is : code ≡ (numbers_of (length_of result)).code
  pub place_is : place ≡ (numbers_of (length_of result)).place
  pub size_is : size ≡ (numbers_of (length_of result)).size
  pub after_is : after ≡ blocks_after result before
