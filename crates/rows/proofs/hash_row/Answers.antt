-- `rows::hash_row` meets its contract. The hash is that of the slots behind. Assumes nothing.
use native.Mathlib.Omega.{arith}
use mathlib.Core.Path.{refl}
use lib.ListN.{length}
use Rattle.store.specs.Store.{store}
use Rattle.rows.proofs.Slotting.{folding_begin, folding_next, folding_end, hashed_row}
use Rattle.rows.proofs.Reading.{node_place_lem, size-place, first_place_lem, kid_place, kid_add, kid_small}
use Rattle.rows.proofs.hash_row.Goals as goal

pub child_count-n-requires : goal.child_count-n-requires
child_count-n-requires c = let a = c.args in let q = c.requires in let t = store a.p.now a.w.now in (q.0, node_place_lem a.p.now t q.1 q.2 a.k q.3, size-place a.p.now t q.1 q.2 a.k q.3 _ refl)

pub first_child-first-requires : goal.first_child-first-requires
first_child-first-requires c = let a = c.args in let q = c.requires in let t = store a.p.now a.w.now in (q.0, node_place_lem a.p.now t q.1 q.2 a.k q.3, first_place_lem a.p.now t q.1 q.2 a.k q.3 _ refl)

pub loop-i-init : goal.loop-i-init
loop-i-init c = folding_begin _ _ _ c.child_count-n.ensures.small

pub overflow_add-first : goal.overflow_add-first
overflow_add-first c = let a = c.args in let q = c.requires in omega (arith, kid_add a.p.now (store a.p.now a.w.now) q.1 q.2 a.k q.3 c.first_child-first.result c.child_count-n.result c.loop-i.i c.first_child-first.ensures.word c.child_count-n.result c.child_count-n.ensures.word refl c.loop-i-test.true (length a.w.now) q.0)

pub load-requires : goal.load-requires
load-requires c = let a = c.args in let q = c.requires in (q.0, kid_place a.p.now (store a.p.now a.w.now) q.1 q.2 a.k q.3 c.first_child-first.result c.child_count-n.result c.loop-i.i c.first_child-first.ensures.word c.child_count-n.result c.child_count-n.ensures.word refl c.loop-i-test.true)

pub child_slot-requires : goal.child_slot-requires
child_slot-requires c = let a = c.args in let q = c.requires in (q.0, kid_small a.p.now (store a.p.now a.w.now) q.1 q.2 a.k q.3 c.first_child-first.result c.child_count-n.result c.loop-i.i c.first_child-first.ensures.word c.child_count-n.result c.child_count-n.ensures.word refl c.loop-i-test.true c.load.result c.load.ensures.word)

pub loop-i-preserved : goal.loop-i-preserved
loop-i-preserved c = folding_next _ _ _ c.loop-i.hash c.loop-i.i c.loop-i.invariant c.loop-i-test.true c.mix-hash.result c.child_slot.result (rw (← c.first_child-first.ensures.word, ← c.load.ensures.word) c.child_slot.ensures.0) c.mix-hash.ensures.0 c.mix-hash.ensures.1

pub returns : goal.returns
returns c = let a = c.args in let h = folding_end _ _ _ c.loop-i.hash c.loop-i.i c.loop-i.invariant c.loop-i-test.false in (hashed_row _ _ _ _ _ c.child_count-n.result _ c.child_count-n.ensures.word h.0, h.1)
