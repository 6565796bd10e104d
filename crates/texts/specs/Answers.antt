-- What the answers mean in document 02: the length written, or a refusal's number and place. Assumes nothing.
use Rattle.std.specs.Prelude.{◌≡◌, List, ℕ, Ok, Err, length}
use Rattle.std.specs.Prelude.{Result as Outcome}
use Rattle.definition.specs.Basics.{Result, good, bad, Refusal}
use Rattle.definition.specs.Run.{overwrite}
use Rattle.refusal.specs.Numbers.{number}
use Rattle.refusal.specs.declared.Refusal as by_name

-- an answer as the definition has it: the place of a refusal is 0
unfoldable pub answer : Outcome ℕ by_name.Refusal → Result Refusal ℕ
answer (Ok n) = good n
answer (Err r) = bad (record { code = number r; place = 0 })

-- the length that was answered, 0 if there is none
unfoldable pub size_of : Outcome ℕ by_name.Refusal → ℕ
size_of (Ok n) = n
size_of (Err r) = 0

-- the definition's result, with its units or bytes told by their number
unfoldable pub length_of : Result Refusal (List ℕ) → Result Refusal ℕ
length_of (good l) = good (length l)
length_of (bad r) = bad r

-- the output afterwards: success writes a prefix and nothing behind it, refusal nothing
unfoldable pub out_after : Result Refusal (List ℕ) → List ℕ → List ℕ
out_after (good new) before = overwrite new before
out_after (bad r) before = before

-- the same as numbers, code and size: 0 for success, and 0 for whatever isn't there
unfoldable pub numbers_of : Result Refusal ℕ → ℕ × ℕ
numbers_of (good n) = (0, n)
numbers_of (bad r) = (r.code, 0)

-- what the forms for Rust and C return and leave in their places, after the definition's result
pub record Told (result : Result Refusal (List ℕ)) (code size : ℕ) (before after : List ℕ) : Type 0 where
  pub code_is : code ≡ (numbers_of (length_of result)).0
  pub size_is : size ≡ (numbers_of (length_of result)).1
  pub after_is : after ≡ out_after result before
