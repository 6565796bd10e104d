-- `output::pool_length` meets its contract: the loop has measured the slots behind. Assumes nothing.
use mathlib.Core.Path.{◌≡◌}
use Prim.Native.Nat.{◌+◌, ◌*◌, ◌≤◌}
use lib.ListN.{length}
use Rattle.store.specs.Store.{store}
use Rattle.output.specs.Contents.{slot_in, Walks}
use Rattle.output.proofs.Pools.{below}
use Rattle.output.proofs.pool_length.Given as goal

abbrev pub invariant-loop-slot : goal.invariant-loop-slot
invariant-loop-slot l = Walks l.job (store l.p l.w) l.slot l.walk × (l.size ≡ 2 + length (below (slot_in l.job (store l.p l.w)) l.slot)) × (l.size ≤ 2 + 65538 * l.slot) × (l.walk.name ≤ l.walk.last)
