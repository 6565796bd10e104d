-- `job::form_requests` meets its contract. Assumes nothing.
use Rattle.job.proofs.Passes.{RequestsLeft}
use Rattle.job.specs.Forms.{Bounded}
use lib.ListN.{length}
use mathlib.Core.Path.{◌≡◌}
use Prim.Native.Nat.{◌-◌, ◌≤◌}
use Rattle.job.proofs.form_requests.Given as goal

abbrev pub invariant-loop-at : goal.invariant-loop-at
invariant-loop-at l = (l.at ≤ length l.job) × Bounded l.at l.counts × (RequestsLeft l.job l.at l.counts ≡ RequestsLeft l.job l.start l.initial.counts)

abbrev pub decreases-loop-at : goal.decreases-loop-at
decreases-loop-at l = length l.job - l.at
