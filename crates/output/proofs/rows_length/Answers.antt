-- `output::rows_length` meets its contract: the loop has measured the rows behind. Assumes nothing.
use native.Mathlib.Omega.{arith}
use Rattle.store.specs.Store.{store}
use Rattle.output.proofs.Filling.{filled-begin, row_ready, row_adds, row_bound, rows_size, joined-start}
use Rattle.output.specs.Rows.{row_at_in, constants_for}
use Rattle.output.proofs.rows_length.Goals as goal

pub loop-index-init : goal.loop-index-init
loop-index-init c = let a = c.args in let t = store a.p.now a.w.now in (filled-begin a.p.now t, rw (joined-start (row_at_in (constants_for a.p.now) t)), omega arith)

pub child_count-requires : goal.child_count-requires
child_count-requires c = let a = c.args in let q = c.requires in let l = c.loop-index in let r = row_ready a.p.now (store a.p.now a.w.now) q.1 l.walk.inline l.walk.raws l.index l.invariant.0 (rw c.row_count-index-end.ensures at c.loop-index-test.true) c.next-k.result c.next-k.ensures.0 in (q.0, r.node, r.count)

pub row_length-size-requires : goal.row_length-size-requires
row_length-size-requires c = let a = c.args in let q = c.requires in let l = c.loop-index in let r = row_ready a.p.now (store a.p.now a.w.now) q.1 l.walk.inline l.walk.raws l.index l.invariant.0 (rw c.row_count-index-end.ensures at c.loop-index-test.true) c.next-k.result c.next-k.ensures.0 in (omega (arith, r.some, c.child_count.ensures.word), omega (arith, r.few, c.child_count.ensures.word))

pub overflow_add-size : goal.overflow_add-size
overflow_add-size c = let a = c.args in let q = c.requires in let l = c.loop-index in omega (arith, row_bound a.p.now (store a.p.now a.w.now) q.1 l.walk.inline l.walk.raws l.index l.invariant.0 (rw c.row_count-index-end.ensures at c.loop-index-test.true) c.next-k.result c.next-k.ensures.0 c.child_count.result c.row_length-size.result c.child_count.ensures.word c.row_length-size.ensures, l.invariant.2, q.1.few, c.row_count-index-end.ensures, c.loop-index-test.true)

pub loop-index-preserved : goal.loop-index-preserved
loop-index-preserved c = let a = c.args in let q = c.requires in let l = c.loop-index in let t = store a.p.now a.w.now in let less = rw c.row_count-index-end.ensures at c.loop-index-test.true in (c.next-k.ensures.1, row_adds a.p.now t q.1 l.walk.inline l.walk.raws l.index l.invariant.0 less c.next-k.result c.next-k.ensures.0 l.size c.child_count.result c.row_length-size.result l.invariant.1 c.child_count.ensures.word c.row_length-size.ensures, omega (arith, row_bound a.p.now t q.1 l.walk.inline l.walk.raws l.index l.invariant.0 less c.next-k.result c.next-k.ensures.0 c.child_count.result c.row_length-size.result c.child_count.ensures.word c.row_length-size.ensures, l.invariant.2))

pub returns : goal.returns
returns c = let a = c.args in let l = c.loop-index in rows_size a.p.now (store a.p.now a.w.now) l.walk.inline l.walk.raws l.index l.invariant.0 (rw c.row_count-index-end.ensures at c.loop-index-test.false) l.size l.invariant.1
