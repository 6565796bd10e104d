-- `poolrun_text::put_answers` meets its contract. The loop keeps: the lines of the answers so far are put. Assumes nothing.
use Rattle.std.proofs.Common.{◌+◌, ◌*◌, ◌≤◌, length, take}
use Rattle.definition.specs.Blocks.{answer_lines}
use Rattle.poolrun_text.specs.Page.{Prints}
use Rattle.poolrun_text.proofs.put_answers.Given as goal

abbrev pub invariant-loop-answer : goal.invariant-loop-answer
invariant-loop-answer l = (l.page.at ≤ l.initial.page.at + 25 * length l.yielded) × Prints l.initial.page l.page (answer_lines (take (length l.yielded) l.answers) (take (length l.yielded) l.marks))
