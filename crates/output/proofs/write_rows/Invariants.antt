-- `output::write_rows` meets its contract: the loop has written the rows behind. Assumes nothing.
use Rattle.facts.proofs.Chunks.{joined}
use Rattle.raw_const.specs.Entries.{Wrote}
use Rattle.store.specs.Store.{store}
use Rattle.output.specs.Rows.{row_at_in, constants_for, Filled}
use Rattle.output.proofs.write_rows.Given as goal

abbrev pub invariant-loop-index : goal.invariant-loop-index
invariant-loop-index l = Filled l.p (store l.p l.w) l.walk.inline l.walk.raws l.index × Wrote l.initial.bootstraps 0 (joined (row_at_in (constants_for l.p) (store l.p l.w)) l.index) l.bootstraps l.at
