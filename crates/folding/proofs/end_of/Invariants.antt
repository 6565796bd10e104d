-- `folding::end_of` meets its contract. Assumes nothing.
use Rattle.folding.specs.Folding.{parts}
use lib.ListN.{length, drop}
use Prim.Native.Nat.{◌+◌, ◌-◌, ◌<◌, ◌≤◌}
use mathlib.Core.Path.{◌≡◌}
use Rattle.folding.proofs.end_of.Given as goal

abbrev pub invariant-loop-left : goal.invariant-loop-left
invariant-loop-left l = (l.start ≤ l.at) × (l.at ≤ length l.job) × (l.left ≤ l.at + 1) × (l.start < l.at + l.left) × (parts (length l.job) 1 (drop l.start l.job) ≡ parts (length l.job) l.left (drop l.at l.job))

abbrev pub decreases-loop-left : goal.decreases-loop-left
decreases-loop-left l = length l.job - l.at
