-- `pool::push_raws` meets its contract. The loop keeps that the nodes of the places passed are on the stack. Assumes nothing.
use Rattle.store.specs.Store.{store}
use Rattle.raws.specs.Raws.{held_count}
use Rattle.pool.specs.Starting.{RawsPushed}
use lib.ListN.{length}
use mathlib.Core.Path.{◌≡◌}
use Prim.Native.Nat.{◌≤◌}
use Rattle.pool.proofs.push_raws.Given as goal

abbrev pub invariant-loop-i : goal.invariant-loop-i
invariant-loop-i l = (length l.w ≡ length l.initial.w) × (l.i ≤ held_count (store l.p l.initial.w)) × RawsPushed (store l.p l.initial.w) (store l.p l.w) l.i
