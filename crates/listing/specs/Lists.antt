-- What `list` does with its output (document 02, No. 1). Assumes nothing.
use Rattle.std.specs.Prelude.{List, [], ◌++◌, ◌≡◌, ℕ, length, drop}
use Rattle.std.proofs.Math.Option.{Option, none, some}
use Rattle.definition.specs.Basics.{Result, good, bad}
use Rattle.jvms.specs.Pool.{Slot}
use Rattle.listing.specs.Listing.{Finished, line, listing}
use Rattle.std.specs.Prelude.{Result as Outcome}
use Rattle.refusal.specs.declared.Refusal.{Refusal}
use Rattle.refusal.specs.Numbers.{answer_of}

-- the line of a slot, and none where there is no slot
unfoldable pub line_of : Finished → ℕ → Option Slot → List ℕ
line_of f n none = []
line_of f n (some s) = line f n s

-- a text stands in front, with what was behind it; a refusal leaves everything
unfoldable pub Answers : Result ℕ (List ℕ) → List ℕ → List ℕ → Outcome ℕ Refusal → Type 0
Answers (bad code) before after r = (answer_of r ≡ bad code) × (after ≡ before)
Answers (good text) before after r = (answer_of r ≡ good (length text)) × (after ≡ text ++ drop (length text) before)

unfoldable pub Lists : List ℕ → ℕ → List ℕ → List ℕ → List ℕ → Outcome ℕ Refusal → Type 0
Lists pool count methods before after r = Answers (listing (length before) pool count methods) before after r
