-- `job::form_definitions`: what is left of the definitions comes to the whole, and the last is nearer to the end. Assumes nothing.
use Rattle.std.specs.Prelude.{◌≡◌, [], ℕ, ◌-◌, ◌≤◌, length}
use Rattle.std.proofs.Math.Option.{Option}
use Rattle.definition.specs.Form.{nothing_yet, form_definitions}
use Rattle.job.specs.Forms.{counts_of, Bounded, tallied, DefinitionsLeft}
use Rattle.job.proofs.form_definitions.Given as goal

abbrev pub invariant-loop-step : goal.invariant-loop-step
invariant-loop-step l =
    (l.so_far.next ≤ length l.job)
    × Bounded l.so_far.next l.so_far.counts
    × (b : Option ℕ)
    × (DefinitionsLeft l.job l.so_far.next l.so_far.counts b ≡ tallied (counts_of [] 0) (form_definitions (length l.job) nothing_yet 0 l.job))

abbrev pub decreases-loop-step : goal.decreases-loop-step
decreases-loop-step l = length l.job - l.so_far.next
