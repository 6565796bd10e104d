-- `rows::same_row` meets its contract. The slots behind are the same. Assumes nothing.
use native.Mathlib.Omega.{arith}
use mathlib.Core.Path.{refl}
use lib.ListN.{length}
use Rattle.store.specs.Store.{store}
use Rattle.rows.proofs.Slotting.{matching_begin, matching_next, rows_differ, rows_unlike, rows_alike}
use Rattle.rows.proofs.Reading.{node_place_lem, size-place, first_place_lem, kid_place, kid_add, kid_small}
use Rattle.rows.proofs.same_row.Goals as goal

pub child_count-n-requires : goal.child_count-n-requires
child_count-n-requires c = let a = c.args in let q = c.requires in let t = store a.p.now a.w.now in (q.0, node_place_lem a.p.now t q.1 q.2 a.k q.3, size-place a.p.now t q.1 q.2 a.k q.3 _ refl)

pub child_count-requires : goal.child_count-requires
child_count-requires c = let a = c.args in let q = c.requires in let t = store a.p.now a.w.now in (q.0, node_place_lem a.p.now t q.1 q.2 a.l q.4, size-place a.p.now t q.1 q.2 a.l q.4 _ refl)

pub first_child-a-requires : goal.first_child-a-requires
first_child-a-requires c = let a = c.args in let q = c.requires in let t = store a.p.now a.w.now in (q.0, node_place_lem a.p.now t q.1 q.2 a.k q.3, first_place_lem a.p.now t q.1 q.2 a.k q.3 _ refl)

pub first_child-b-requires : goal.first_child-b-requires
first_child-b-requires c = let a = c.args in let q = c.requires in let t = store a.p.now a.w.now in (q.0, node_place_lem a.p.now t q.1 q.2 a.l q.4, first_place_lem a.p.now t q.1 q.2 a.l q.4 _ refl)

pub returns-then-child_count-n : goal.returns-then-child_count-n
returns-then-child_count-n c = rows_differ _ _ _ _ _ _ _ c.child_count-n.ensures.word c.child_count.result c.child_count.ensures.word c.if-child_count-n.true

pub loop-i-init : goal.loop-i-init
loop-i-init c = matching_begin _ _ _

pub overflow_add-a : goal.overflow_add-a
overflow_add-a c = let a = c.args in let q = c.requires in omega (arith, kid_add a.p.now (store a.p.now a.w.now) q.1 q.2 a.k q.3 c.first_child-a.result c.child_count-n.result c.loop-i.i c.first_child-a.ensures.word c.child_count-n.result c.child_count-n.ensures.word refl c.loop-i-test.true (length a.w.now) q.0)

pub load-requires : goal.load-requires
load-requires c = let a = c.args in let q = c.requires in (q.0, kid_place a.p.now (store a.p.now a.w.now) q.1 q.2 a.k q.3 c.first_child-a.result c.child_count-n.result c.loop-i.i c.first_child-a.ensures.word c.child_count-n.result c.child_count-n.ensures.word refl c.loop-i-test.true)

pub child_slot-slot-requires : goal.child_slot-slot-requires
child_slot-slot-requires c = let a = c.args in let q = c.requires in (q.0, kid_small a.p.now (store a.p.now a.w.now) q.1 q.2 a.k q.3 c.first_child-a.result c.child_count-n.result c.loop-i.i c.first_child-a.ensures.word c.child_count-n.result c.child_count-n.ensures.word refl c.loop-i-test.true c.load.result c.load.ensures.word)

pub overflow_add-b : goal.overflow_add-b
overflow_add-b c = let a = c.args in let q = c.requires in omega (arith, kid_add a.p.now (store a.p.now a.w.now) q.1 q.2 a.l q.4 c.first_child-b.result c.child_count-n.result c.loop-i.i c.first_child-b.ensures.word c.child_count.result c.child_count.ensures.word c.if-child_count-n.false c.loop-i-test.true (length a.w.now) q.0)

pub load-requires-in-loop-i : goal.load-requires-in-loop-i
load-requires-in-loop-i c = let a = c.args in let q = c.requires in (q.0, kid_place a.p.now (store a.p.now a.w.now) q.1 q.2 a.l q.4 c.first_child-b.result c.child_count-n.result c.loop-i.i c.first_child-b.ensures.word c.child_count.result c.child_count.ensures.word c.if-child_count-n.false c.loop-i-test.true)

pub child_slot-requires : goal.child_slot-requires
child_slot-requires c = let a = c.args in let q = c.requires in (q.0, kid_small a.p.now (store a.p.now a.w.now) q.1 q.2 a.l q.4 c.first_child-b.result c.child_count-n.result c.loop-i.i c.first_child-b.ensures.word c.child_count.result c.child_count.ensures.word c.if-child_count-n.false c.loop-i-test.true c.load-in-loop-i.result c.load-in-loop-i.ensures.word)

pub returns-then-child_slot-slot : goal.returns-then-child_slot-slot
returns-then-child_slot-slot c = rows_unlike _ _ _ _ _ _ _ c.child_count-n.ensures.word c.child_count.result c.child_count.ensures.word c.if-child_count-n.false c.loop-i.i c.loop-i-test.true c.child_slot-slot.result c.child_slot.result (rw (← c.first_child-a.ensures.word, ← c.load.ensures.word) c.child_slot-slot.ensures.0) (rw (← c.first_child-b.ensures.word, ← c.load-in-loop-i.ensures.word) c.child_slot.ensures.0) c.if-child_slot-slot.true

pub loop-i-preserved : goal.loop-i-preserved
loop-i-preserved c = matching_next _ _ _ c.loop-i.i c.loop-i.invariant c.loop-i-test.true c.child_slot-slot.result c.child_slot.result (rw (← c.first_child-a.ensures.word, ← c.load.ensures.word) c.child_slot-slot.ensures.0) (rw (← c.first_child-b.ensures.word, ← c.load-in-loop-i.ensures.word) c.child_slot.ensures.0) c.if-child_slot-slot.false

pub returns : goal.returns
returns c = rows_alike _ _ _ _ _ _ _ c.child_count-n.ensures.word c.child_count.result c.child_count.ensures.word c.if-child_count-n.false c.loop-i.i c.loop-i.invariant c.loop-i-test.false
