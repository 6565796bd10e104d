-- `job::skip_references`: so many references are passed. Assumes nothing.
use Rattle.std.specs.Prelude.{◌≡◌, ◌+◌, ◌≤◌, length}
use Rattle.definition.specs.Form.{Counts}
use Rattle.job.proofs.Several.{Passed}
use Rattle.job.proofs.skip_references.Given as goal

abbrev pub invariant-loop : goal.invariant-loop
invariant-loop l = (l.at + l.counter ≤ l.next) × (l.next ≤ length l.job) × ((c : Counts) → c.constants ≡ l.entries → Passed c l.job l.at l.n l.counter l.next l.cited)
