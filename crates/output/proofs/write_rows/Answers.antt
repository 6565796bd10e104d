-- `output::write_rows` meets its contract: the loop has written the rows behind. Assumes nothing.
use native.Mathlib.Omega.{arith}
use Rattle.store.specs.Store.{store}
use Rattle.output.specs.Rows.{row_at_in, constants_for}
use Rattle.output.proofs.Filling.{filled-begin, row_ready, row_room, row_written, rows_written, wrote_start}
use Rattle.output.proofs.write_rows.Goals as goal

pub loop-index-init : goal.loop-index-init
loop-index-init c = let a = c.args in let t = store a.p.now a.w.now in (filled-begin a.p.now t, wrote_start (row_at_in (constants_for a.p.now) t) a.bootstraps.now)

pub write_row-at-requires : goal.write_row-at-requires
write_row-at-requires c = let a = c.args in let q = c.requires in let l = c.loop-index in let t = store a.p.now a.w.now in let less = rw c.row_count-index-end.ensures at c.loop-index-test.true in (q.0, row_ready a.p.now t q.1 l.walk.inline l.walk.raws l.index l.invariant.0 less c.next-k.result c.next-k.ensures.0, omega (arith, row_room a.p.now t q.1 l.walk.inline l.walk.raws l.index l.invariant.0 less c.next-k.result c.next-k.ensures.0 l.at (omega (arith, l.invariant.1.next)), q.2, l.auto.bootstraps))

pub loop-index-preserved : goal.loop-index-preserved
loop-index-preserved c = let a = c.args in let q = c.requires in let l = c.loop-index in let t = store a.p.now a.w.now in let less = rw c.row_count-index-end.ensures at c.loop-index-test.true in (c.next-k.ensures.1, row_written a.p.now t q.1 l.walk.inline l.walk.raws l.index l.invariant.0 less c.next-k.result c.next-k.ensures.0 (omega (arith, row_room a.p.now t q.1 l.walk.inline l.walk.raws l.index l.invariant.0 less c.next-k.result c.next-k.ensures.0 l.at (omega (arith, l.invariant.1.next)), q.2, l.invariant.1.next)) l.invariant.1 c.write_row-at.ensures)

pub returns : goal.returns
returns c = let a = c.args in let l = c.loop-index in rows_written a.p.now (store a.p.now a.w.now) l.walk.inline l.walk.raws l.index l.invariant.0 (rw c.row_count-index-end.ensures at c.loop-index-test.false) a.bootstraps.now l.bootstraps l.at l.invariant.1
