-- `blocks_test::refused_values` meets its contract. The loop keeps: fewer are refused than values come up to this one, and the sum's bound. Assumes nothing.
use Prim.Native.Nat.{◌≤◌, ◌<◌, ◌+◌, ◌*◌}
use Rattle.blocks_test.proofs.refused_values.Given as goal

abbrev pub invariant-loop-value : goal.invariant-loop-value
invariant-loop-value l = (l.refused < l.value) × (l.sum ≤ 4294967295 + 508 * l.value)
