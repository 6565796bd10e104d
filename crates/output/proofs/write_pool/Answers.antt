-- `output::write_pool` meets its contract: the loop has written the slots behind. Assumes nothing.
use mathlib.Core.Path.{◌∙◌}
use native.Mathlib.Omega.{arith}
use Rattle.std.specs.Prelude.{unwrap_or}
use Rattle.store.specs.Store.{store}
use Rattle.raw_const.proofs.Writes.{wrote_nothing}
use Rattle.output.specs.Contents.{slot_in}
use Rattle.output.proofs.Pools.{below_none, content_good, content_room, walked_next, pool_next, pool_end, pool_begins}
use Rattle.output.proofs.write_pool.Goals as goal

pub put-requires : goal.put-requires
put-requires c = let a = c.args in omega (arith, c.requires.3, pool_begins a.job.now (store a.p.now a.w.now))

pub loop-slot-init : goal.loop-slot-init
loop-slot-init c = let a = c.args in (c.begin-walk.ensures.0 a.job.now c.requires.2, rw (below_none (slot_in a.job.now (store a.p.now a.w.now))) (wrote_nothing c.put.new.d 2), c.begin-walk.ensures.1)

pub write_content-at-requires : goal.write_content-at-requires
write_content-at-requires c = let a = c.args in let q = c.requires in let l = c.loop-slot in let t = store a.p.now a.w.now in let inside = rw c.load-end.ensures.word at c.loop-slot-test.true in (q.0, q.1, q.2.owned.made, content_good a.job.now a.p.now t q.2 q.1 l.slot l.walk.raws (unwrap_or l.walk.held 65536) l.walk.wide l.invariant.0.walked inside c.content-holds.result c.content-holds.ensures.0, omega (arith, content_room a.job.now a.p.now t q.2 q.1 l.slot l.walk.raws (unwrap_or l.walk.held 65536) l.walk.wide l.invariant.0.walked inside c.content-holds.result c.content-holds.ensures.0 l.at l.invariant.1.next, q.3, l.auto.pool, c.put.auto.d))

pub is_wide-requires : goal.is_wide-requires
is_wide-requires c = let a = c.args in let q = c.requires in let l = c.loop-slot in let t = store a.p.now a.w.now in let inside = rw c.load-end.ensures.word at c.loop-slot-test.true in (q.0, q.1, q.2.owned.made, content_good a.job.now a.p.now t q.2 q.1 l.slot l.walk.raws (unwrap_or l.walk.held 65536) l.walk.wide l.invariant.0.walked inside c.content-holds.result c.content-holds.ensures.0)

pub loop-slot-preserved : goal.loop-slot-preserved
loop-slot-preserved c = let a = c.args in let q = c.requires in let l = c.loop-slot in let t = store a.p.now a.w.now in let inside = rw c.load-end.ensures.word at c.loop-slot-test.true in let e = c.content-holds.ensures in let n = c.content-holds.new.self in let room = content_room a.job.now a.p.now t q.2 q.1 l.slot l.walk.raws (unwrap_or l.walk.held 65536) l.walk.wide l.invariant.0.walked inside c.content-holds.result c.content-holds.ensures.0 l.at l.invariant.1.next in (record { name = e.2 ∙ l.invariant.0.name; last = rw e.3 l.invariant.0.last; walked = walked_next a.job.now a.p.now t q.2 q.1 l.slot l.walk.raws (unwrap_or l.walk.held 65536) l.walk.wide l.invariant.0.walked inside c.content-holds.result c.content-holds.ensures.0 n.raws (unwrap_or n.held 65536) c.is_wide.result c.is_wide.ensures e.1 }, pool_next a.job.now a.p.now t q.2 q.1 l.slot l.walk.raws (unwrap_or l.walk.held 65536) l.walk.wide l.invariant.0.walked inside c.content-holds.result c.content-holds.ensures.0 (omega (arith, room, q.3, c.put.auto.d, l.invariant.1.next)) l.invariant.1 c.write_content-at.ensures, rw (e.2, e.3) l.invariant.2)

pub returns : goal.returns
returns c = let a = c.args in let q = c.requires in let l = c.loop-slot in let t = store a.p.now a.w.now in pool_end a.job.now a.p.now t q.2 l.slot l.walk.raws (unwrap_or l.walk.held 65536) l.walk.wide l.invariant.0.walked (rw c.load-end.ensures.word at c.loop-slot-test.false) a.pool.now c.put.new.d l.pool c.load-end.result l.at c.load-end.ensures.word c.put.ensures (omega (arith, q.3, pool_begins a.job.now t)) l.invariant.1
