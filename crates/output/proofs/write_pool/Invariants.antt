-- `output::write_pool` meets its contract: the loop has written the slots behind. Assumes nothing.
use Prim.Native.Nat.{◌≤◌}
use Rattle.store.specs.Store.{store}
use Rattle.raw_const.specs.Entries.{Wrote}
use Rattle.output.specs.Contents.{slot_in, Walks}
use Rattle.output.proofs.Pools.{below}
use Rattle.output.proofs.write_pool.Given as goal

abbrev pub invariant-loop-slot : goal.invariant-loop-slot
invariant-loop-slot l = Walks l.job (store l.p l.w) l.slot l.walk × Wrote l.initial.pool 2 (below (slot_in l.job (store l.p l.w)) l.slot) l.pool l.at × (l.walk.name ≤ l.walk.last)
