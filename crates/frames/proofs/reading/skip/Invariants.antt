-- `frames::reading::skip` meets its contract. What is left to read falls by the room, which isn't empty. Assumes nothing.
use Rattle.std.proofs.Common.{◌≡◌, ◌<◌, length}
use Rattle.frames.proofs.reading.skip.Given as goal

abbrev pub invariant-loop-left : goal.invariant-loop-left
invariant-loop-left g l = (0 < l.room) × (length l.s ≡ length l.initial.s) × (l.room ≡ length l.s)

abbrev pub decreases-loop-left : goal.decreases-loop-left
decreases-loop-left g l = l.left
