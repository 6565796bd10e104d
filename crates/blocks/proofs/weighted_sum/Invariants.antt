-- `blocks::weighted_sum` meets its contract. The loop keeps: what is summed and what is left come to the definition's sum. Assumes nothing.
use mathlib.Core.Path.{◌≡◌}
use Prim.Native.Nat.{◌≤◌, ◌+◌, ◌*◌}
use lib.ListN.{drop}
use Rattle.definition.specs.Blocks.{weighted}
use Rattle.blocks.proofs.weighted_sum.Given as goal

abbrev pub invariant-loop-i : goal.invariant-loop-i
invariant-loop-i l = (weighted 0 l.s ≡ l.sum + weighted l.i (drop l.i l.s)) × (l.sum ≤ 129540 * l.i)
