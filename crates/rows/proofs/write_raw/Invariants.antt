-- `rows::write_raw` meets its contract. Each turn writes the raw row whose index is next. Assumes nothing.
use Prim.Native.Nat.{◌-◌}
use Rattle.store.specs.Store.{store}
use Rattle.rows.specs.Rowed.{raw_rows}
use Rattle.rows.proofs.Writing.{WritingIn}
use Rattle.rows.proofs.write_raw.Given as goal

abbrev pub invariant-loop-rows : goal.invariant-loop-rows
invariant-loop-rows l = WritingIn l.p (store l.p l.w) l.rows l.written

abbrev pub decreases-loop-rows : goal.decreases-loop-rows
decreases-loop-rows l = raw_rows (store l.p l.w) - l.written
