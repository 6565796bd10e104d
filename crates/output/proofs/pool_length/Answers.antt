-- `output::pool_length` meets its contract: the loop has measured the slots behind. Assumes nothing.
use mathlib.Core.Path.{◌∙◌}
use native.Mathlib.Omega.{arith}
use Rattle.std.specs.Prelude.{unwrap_or}
use Rattle.store.specs.Store.{store}
use Rattle.output.specs.Contents.{slot_in}
use Rattle.output.proofs.Shown.{content_bound}
use Rattle.output.proofs.Pools.{below_none, content_good, walked_next, size-next, size-end}
use Rattle.output.proofs.pool_length.Goals as goal

pub loop-slot-init : goal.loop-slot-init
loop-slot-init c = let a = c.args in (c.begin-walk.ensures.0 a.job.now c.requires.2, rw (below_none (slot_in a.job.now (store a.p.now a.w.now))), omega arith, c.begin-walk.ensures.1)

pub content_length-size-requires : goal.content_length-size-requires
content_length-size-requires c = let a = c.args in let q = c.requires in let l = c.loop-slot in let t = store a.p.now a.w.now in let inside = rw c.load-slot-end.ensures.word at c.loop-slot-test.true in (q.0, q.1, q.2.owned.made, content_good a.job.now a.p.now t q.2 q.1 l.slot l.walk.raws (unwrap_or l.walk.held 65536) l.walk.wide l.invariant.0.walked inside c.content-holds.result c.content-holds.ensures.0)

pub overflow_add-size : goal.overflow_add-size
overflow_add-size c = let a = c.args in let q = c.requires in let l = c.loop-slot in let t = store a.p.now a.w.now in let inside = rw c.load-slot-end.ensures.word at c.loop-slot-test.true in let good = content_good a.job.now a.p.now t q.2 q.1 l.slot l.walk.raws (unwrap_or l.walk.held 65536) l.walk.wide l.invariant.0.walked inside c.content-holds.result c.content-holds.ensures.0 in omega (arith, c.content_length-size.ensures, content_bound a.job.now t c.content-holds.result (λ i. (c.type_inv.job i).fits) q.2.owned.made good, l.invariant.2, q.2.high, c.loop-slot-test.true, c.load-slot-end.ensures.word)

pub is_wide-requires : goal.is_wide-requires
is_wide-requires c = let a = c.args in let q = c.requires in let l = c.loop-slot in let t = store a.p.now a.w.now in let inside = rw c.load-slot-end.ensures.word at c.loop-slot-test.true in (q.0, q.1, q.2.owned.made, content_good a.job.now a.p.now t q.2 q.1 l.slot l.walk.raws (unwrap_or l.walk.held 65536) l.walk.wide l.invariant.0.walked inside c.content-holds.result c.content-holds.ensures.0)

pub loop-slot-preserved : goal.loop-slot-preserved
loop-slot-preserved c = let a = c.args in let q = c.requires in let l = c.loop-slot in let t = store a.p.now a.w.now in let inside = rw c.load-slot-end.ensures.word at c.loop-slot-test.true in let e = c.content-holds.ensures in let n = c.content-holds.new.self in let good = content_good a.job.now a.p.now t q.2 q.1 l.slot l.walk.raws (unwrap_or l.walk.held 65536) l.walk.wide l.invariant.0.walked inside c.content-holds.result c.content-holds.ensures.0 in (record { name = e.2 ∙ l.invariant.0.name; last = rw e.3 l.invariant.0.last; walked = walked_next a.job.now a.p.now t q.2 q.1 l.slot l.walk.raws (unwrap_or l.walk.held 65536) l.walk.wide l.invariant.0.walked inside c.content-holds.result c.content-holds.ensures.0 n.raws (unwrap_or n.held 65536) c.is_wide.result c.is_wide.ensures e.1 }, size-next a.job.now a.p.now t q.2 q.1 l.slot l.walk.raws (unwrap_or l.walk.held 65536) l.walk.wide l.invariant.0.walked inside c.content-holds.result c.content-holds.ensures.0 l.size c.content_length-size.result l.invariant.1 c.content_length-size.ensures, omega (arith, c.content_length-size.ensures, content_bound a.job.now t c.content-holds.result (λ i. (c.type_inv.job i).fits) q.2.owned.made good, l.invariant.2), rw (e.2, e.3) l.invariant.3)

pub returns : goal.returns
returns c = let a = c.args in let q = c.requires in let l = c.loop-slot in size-end a.job.now a.p.now (store a.p.now a.w.now) q.2 l.slot l.walk.raws (unwrap_or l.walk.held 65536) l.walk.wide l.invariant.0.walked (rw c.load-slot-end.ensures.word at c.loop-slot-test.false) l.size l.invariant.1
