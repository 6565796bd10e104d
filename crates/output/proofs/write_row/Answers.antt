-- `output::write_row` meets its contract. Assumes nothing.
use mathlib.Core.Path.{◌∙◌}
use native.Mathlib.Omega.{arith}
use Rattle.store.specs.Store.{store}
use Rattle.store.specs.Regions.{GIVEN, CHILDREN}
use Rattle.output.proofs.Rowing.{slots_length, row_long, handle_asks, arguments-ask, wrote_row}
use Rattle.output.proofs.write_row.Goals as goal

pub first_child-first-requires : goal.first_child-first-requires
first_child-first-requires c = let q = c.requires in (q.0, q.1.node, q.1.first)

pub child_count-n-requires : goal.child_count-n-requires
child_count-n-requires c = let q = c.requires in (q.0, q.1.node, q.1.count)

pub overflow_sub-n : goal.overflow_sub-n
overflow_sub-n c = omega (arith, c.requires.1.some, c.child_count-n.ensures.word)

pub write_slots-behind-requires : goal.write_slots-behind-requires
write_slots-behind-requires c = let a = c.args in let q = c.requires in let t = store a.p.now a.w.now in let h = handle_asks a.p.now t a.k q.1 c.first_child-first.result c.child_count-n.result c.first_child-first.ensures.word c.child_count-n.ensures.word in (q.0, h.0, h.1, omega (arith, row_long a.p.now t a.k q.1 c.first_child-first.result c.child_count-n.result c.first_child-first.ensures.word c.child_count-n.ensures.word, q.2))

pub overflow_cast-n : goal.overflow_cast-n
overflow_cast-n c = record { fits = omega (arith, c.requires.1.few, c.child_count-n.ensures.word) }

pub put-requires : goal.put-requires
put-requires c = let a = c.args in let q = c.requires in let t = store a.p.now a.w.now in omega (arith, row_long a.p.now t a.k q.1 c.first_child-first.result c.child_count-n.result c.first_child-first.ensures.word c.child_count-n.ensures.word, q.2, c.write_slots-behind.ensures.next, slots_length (t GIVEN) (t CHILDREN) c.first_child-first.result 1, c.write_slots-behind.auto.out)

pub overflow_add-behind : goal.overflow_add-behind
overflow_add-behind c = let a = c.args in let q = c.requires in let t = store a.p.now a.w.now in omega (arith, row_long a.p.now t a.k q.1 c.first_child-first.result c.child_count-n.result c.first_child-first.ensures.word c.child_count-n.ensures.word, q.2, c.write_slots-behind.ensures.next, slots_length (t GIVEN) (t CHILDREN) c.first_child-first.result 1, c.write_slots-behind.auto.out)

pub overflow_add-first : goal.overflow_add-first
overflow_add-first c = omega (arith, c.first_child-first.ensures.small)

pub write_slots-requires : goal.write_slots-requires
write_slots-requires c = let a = c.args in let q = c.requires in let t = store a.p.now a.w.now in let h = arguments-ask a.p.now t a.k q.1 c.first_child-first.result c.child_count-n.result c.first_child-first.ensures.word c.child_count-n.ensures.word in (q.0, h.0, h.1, omega (arith, row_long a.p.now t a.k q.1 c.first_child-first.result c.child_count-n.result c.first_child-first.ensures.word c.child_count-n.ensures.word, q.2, c.write_slots-behind.ensures.next, slots_length (t GIVEN) (t CHILDREN) c.first_child-first.result 1, c.write_slots-behind.auto.out, c.put.auto.d))

pub shape_of-out : goal.shape_of-out
shape_of-out c = c.write_slots.auto.out ∙ c.put.auto.d ∙ c.write_slots-behind.auto.out

pub returns : goal.returns
returns c = let a = c.args in let q = c.requires in let t = store a.p.now a.w.now in wrote_row a.p.now t a.k q.1 c.first_child-first.result c.child_count-n.result c.first_child-first.ensures.word c.child_count-n.ensures.word q.2 c.write_slots-behind.ensures c.put.ensures c.write_slots.ensures
