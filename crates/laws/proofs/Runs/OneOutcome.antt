-- ONE OUTCOME: no second outcome or contents of a buffer meets the definition's statement of a run or of the block file's two functions.
-- Assumes nothing.
use mathlib.Core.Path.{sym, ap, ◌∙◌}
use lib.ListN.{length}
use Rattle.definition.specs.Run.{lent_of, run, memory_after}
use Rattle.definition.specs.Blocks.{read_blocks, write_blocks, blocks_after}
use Rattle.laws.specs.Statements.{OnlyOne, OneOutcome}

-- whatever is stated, and however the memory goes by the outcome
only_one_lem : {O M : Type 0} (stated : O) (afterwards : O → M → M) (before : M) → OnlyOne stated afterwards before
only_one_lem stated afterwards before o₁ o₂ after₁ after₂ m₁ m₂ =
    let same = m₁.0 ∙ sym m₂.0 in
    (same, m₁.1 ∙ ap (λ o. afterwards o before) same ∙ sym m₂.1)

pub one_outcome : OneOutcome
one_outcome = (
  λ job before. only_one_lem (run (lent_of before) job) memory_after before,
  λ file before. only_one_lem (read_blocks (length before) file) blocks_after before,
  λ job before. only_one_lem (write_blocks (length before) job) blocks_after before,
)
