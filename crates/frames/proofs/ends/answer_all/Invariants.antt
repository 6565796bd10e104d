-- `frames::ends::answer_all` meets its contract: what is left of the frames that can be counted falls. Assumes nothing.
use Rattle.std.proofs.Common.{◌-◌}
use Rattle.frames.proofs.ends.answer_all.Given as goal

abbrev pub invariant-loop-end : goal.invariant-loop-end
invariant-loop-end g l = goal.F-IsAlwaysCallable g l.next

abbrev pub decreases-loop-end : goal.decreases-loop-end
decreases-loop-end g l = 18446744073709551615 - l.frames
