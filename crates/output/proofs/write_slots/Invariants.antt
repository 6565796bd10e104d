-- `output::write_slots` meets its contract: the loop has written the slots before i. Assumes nothing.
use Prim.Native.Nat.{◌+◌, ◌*◌}
use Rattle.store.specs.Store.{store}
use Rattle.store.specs.Regions.{GIVEN, CHILDREN}
use Rattle.raw_const.specs.Entries.{Wrote}
use Rattle.output.specs.Rows.{slots_from}
use Rattle.output.proofs.Rowing.{shorts}
use Rattle.output.proofs.write_slots.Given as goal

abbrev pub invariant-loop-i : goal.invariant-loop-i
invariant-loop-i l = Wrote l.initial.out l.start (shorts (slots_from (store l.p l.w GIVEN) (store l.p l.w CHILDREN) l.first l.i)) l.out (l.start + 2 * l.i)
