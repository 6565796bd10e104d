use mathlib.Core.Path.{sym, ap, ◌∙◌}
use Rattle.store.proofs.Stores.{length-store}
use Rattle.store.specs.Store.{store}
use Rattle.store.specs.Regions.{NODES}
use Rattle.pool.proofs.Children.{slotting_end, slotting_refused, slotting_next, kids_count, kids_room, child_is, child_asks, child_tells}
use Rattle.refusal.specs.Numbers.{number, code_of}
use Rattle.pool.proofs.Codes.{code-bad, code-kept}
use Rattle.pool.proofs.Nodal.{node_place_lem, entry_places}
use borrow.Author.Rules.{rules}
use Rattle.pool.proofs.slots_of.Goals as goal
-- `pool::slots_of` meets its contract. The loop keeps that what the rest of the children gives, behind what those passed have, is the whole. Assumes nothing.
use native.Mathlib.Omega.{arith}

pub first_child-first-requires : goal.first_child-first-requires
first_child-first-requires c = let a = c.args in let q = c.requires in let t = store a.p.now a.w.now in (search rules, node_place_lem a.job.now a.p.now t q.1 a.k q.3, (entry_places a.job.now a.p.now t q.1 a.k q.3).firsts)

pub child_count-i-end-requires : goal.child_count-i-end-requires
child_count-i-end-requires c = let a = c.args in let q = c.requires in let t = store a.p.now a.w.now in (search rules, node_place_lem a.job.now a.p.now t q.1 a.k q.3, (entry_places a.job.now a.p.now t q.1 a.k q.3).sizes)

pub overflow_add-first : goal.overflow_add-first
overflow_add-first c = omega (arith, c.first_child-first.ensures.small, c.child_count-i-end.ensures.small)

pub load-child-requires : goal.load-child-requires
load-child-requires c = let a = c.args in let q = c.requires in let t = store a.p.now a.w.now in let r = kids_room a.job.now a.p.now t q.1 a.k q.3 (length-store a.p.now a.w.now NODES) c.first_child-first.result c.child_count-i-end.result c.first_child-first.ensures.word c.child_count-i-end.ensures.word in (search rules, omega (arith, r, c.loop-i-test.true))

pub slot_of-requires : goal.slot_of-requires
slot_of-requires c = let a = c.args in let q = c.requires in let t = store a.p.now a.w.now in let l = c.loop-i in let r = child_asks a.job.now a.p.now t q.1 a.k q.3 (length-store a.p.now a.w.now NODES) c.first_child-first.result c.child_count-i-end.result c.first_child-first.ensures.word c.child_count-i-end.ensures.word q.4 a.gaps.now l.gaps (store a.p.now l.w) l.i l.invariant.2 c.loop-i-test.true c.load-child.result c.load-child.ensures.word q.2 in (search rules, r.0, r.1, r.2)

pub overflow_sub-child : goal.overflow_sub-child
overflow_sub-child c = let a = c.args in
    let q = c.requires in
    let s = a.job.now in
    let p = a.p.now in
    let t = store p a.w.now in
    let long = length-store p a.w.now NODES in
    let first = c.first_child-first in
    let n = c.child_count-i-end in
    let l = c.loop-i in
    let u = store p l.w in
    let more = c.loop-i-test.true in
    let child = c.load-child in
    let slot = c.slot_of in
    let code = code_of slot.result in
    let v = store p slot.new.w in
    let o = slot.new.gaps in
    let slotted = slot.ensures.slotted in
    (child_tells s p t q.1 a.k q.3 long first.result n.result first.ensures.word n.ensures.word q.4 a.gaps.now l.gaps u l.i l.invariant.2 more child.result child.ensures.word q.2 v o code slotted (code-bad slot.result _ c.in-Err.is)).0

pub refuse_at-requires : goal.refuse_at-requires
refuse_at-requires c = let a = c.args in
    let q = c.requires in
    let s = a.job.now in
    let p = a.p.now in
    let t = store p a.w.now in
    let long = length-store p a.w.now NODES in
    let first = c.first_child-first in
    let n = c.child_count-i-end in
    let l = c.loop-i in
    let u = store p l.w in
    let more = c.loop-i-test.true in
    let child = c.load-child in
    let slot = c.slot_of in
    let code = code_of slot.result in
    let v = store p slot.new.w in
    let o = slot.new.gaps in
    let slotted = slot.ensures.slotted in
    let tells = child_tells s p t q.1 a.k q.3 long first.result n.result first.ensures.word n.ensures.word q.4 a.gaps.now l.gaps u l.i l.invariant.2 more child.result child.ensures.word q.2 v o code slotted (code-bad slot.result _ c.in-Err.is) in
    (search rules, tells.1, tells.2, tells.3)

pub returns-in-Err : goal.returns-in-Err
unfolding code_of
returns-in-Err c = let a = c.args in
    let q = c.requires in
    let s = a.job.now in
    let p = a.p.now in
    let t = store p a.w.now in
    let long = length-store p a.w.now NODES in
    let first = c.first_child-first in
    let n = c.child_count-i-end in
    let l = c.loop-i in
    let u = store p l.w in
    let more = c.loop-i-test.true in
    let child = c.load-child in
    let slot = c.slot_of in
    let code = code_of slot.result in
    let v = store p slot.new.w in
    let o = slot.new.gaps in
    let slotted = slot.ensures.slotted in
    let told = c.refuse_at in
    let many = kids_count s p t q.1 a.k q.3 long first.result n.result first.ensures.word n.ensures.word in
    let is = child_is s p t q.1 a.k q.3 long first.result n.result first.ensures.word n.ensures.word q.4 a.gaps.now l.gaps u l.i l.invariant.2 more child.result child.ensures.word in
    let asks = child_asks s p t q.1 a.k q.3 long first.result n.result first.ensures.word n.ensures.word q.4 a.gaps.now l.gaps u l.i l.invariant.2 more child.result child.ensures.word q.2 in
    slotting_refused s a.k t u a.gaps.now l.gaps l.i l.invariant.2 (omega (arith, more, many)) child.result code is v o slotted
    (code-bad slot.result _ c.in-Err.is)
    asks.2
    (store p told.new.w)
    (number told.result)
    (ap number told.ensures.0 ∙ sym (ap code_of c.in-Err.is), told.ensures.1)

pub loop-i-preserved : goal.loop-i-preserved
loop-i-preserved c = let a = c.args in let q = c.requires in let t = store a.p.now a.w.now in let l = c.loop-i in let u = store a.p.now l.w in let o = length-store a.p.now a.w.now NODES in let first = c.first_child-first in let n = c.child_count-i-end in (search rules, search rules, slotting_next a.job.now a.k t u a.gaps.now l.gaps l.i l.invariant.2 (omega (arith, c.loop-i-test.true, kids_count a.job.now a.p.now t q.1 a.k q.3 o first.result n.result first.ensures.word n.ensures.word)) c.load-child.result (code_of c.slot_of.result) (child_is a.job.now a.p.now t q.1 a.k q.3 o first.result n.result first.ensures.word n.ensures.word q.4 a.gaps.now l.gaps u l.i l.invariant.2 c.loop-i-test.true c.load-child.result c.load-child.ensures.word) _ _ c.slot_of.ensures.slotted (code-kept c.slot_of.result c.in_default.not-Err))

pub returns : goal.returns
unfolding code_of
returns c = let a = c.args in let q = c.requires in let t = store a.p.now a.w.now in let l = c.loop-i in let o = length-store a.p.now a.w.now NODES in let first = c.first_child-first in let n = c.child_count-i-end in slotting_end a.job.now a.k t (store a.p.now l.w) a.gaps.now l.gaps l.i l.invariant.2 (omega (arith, c.loop-i-test.false, kids_count a.job.now a.p.now t q.1 a.k q.3 o first.result n.result first.ensures.word n.ensures.word))
