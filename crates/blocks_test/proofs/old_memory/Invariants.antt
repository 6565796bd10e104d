-- `blocks_test::old_memory` meets its contract. The loop keeps: the count's bound. Assumes nothing.
use Prim.Native.Nat.{◌≤◌, ◌*◌}
use Rattle.blocks_test.proofs.old_memory.Given as goal

abbrev pub invariant-loop-place : goal.invariant-loop-place
invariant-loop-place g l = l.refused ≤ 255 * l.place
