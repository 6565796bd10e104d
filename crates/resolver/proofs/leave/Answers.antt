-- `resolver::leave` meets its contract: the children are written, the node is made, then the mark tells it. Assumes nothing.
use native.Mathlib.Omega.{arith}
use Rattle.resolver.proofs.Stepping.{places, few_of}
use Rattle.resolver.proofs.Leaving.{entered_still, nodes_still, room_still, mark_fits, leaves}
use Rattle.resolver.proofs.leave.Goals as goal

pub write_children-requires : goal.write_children-requires
write_children-requires c = let q = c.requires in (q.0, places _ _ _ _ q.1 q.2 q.5, q.4)

pub intern-k-requires : goal.intern-k-requires
intern-k-requires c = let q = c.requires in let z = c.write_children.ensures in ((q.0.0, omega (arith, q.0.1, c.write_children.auto.w)), q.1, entered_still _ _ _ _ _ q.5 q.2 q.3 q.4 z, nodes_still _ _ _ _ _ q.5 q.2 q.3 q.4 z, q.5, room_still _ _ _ _ _ q.5 q.2 q.3 q.4 z)

pub overflow_add-k : goal.overflow_add-k
overflow_add-k c = let q = c.requires in omega (arith, mark_fits _ _ _ _ _ q.5 q.2 q.3 q.4 c.write_children.ensures _ _ c.intern-k.ensures (few_of _ _ q.1).entries)

pub save-requires : goal.save-requires
save-requires c = let q = c.requires in ((q.0.0, omega (arith, q.0.1, c.write_children.auto.w, c.intern-k.auto.w)), (places _ _ _ _ q.1 q.2 q.5).mark, mark_fits _ _ _ _ _ q.5 q.2 q.3 q.4 c.write_children.ensures _ _ c.intern-k.ensures (few_of _ _ q.1).entries)

pub returns : goal.returns
returns c = let q = c.requires in rw c.save.ensures (leaves _ _ _ _ _ q.5 q.2 q.3 q.4 c.write_children.ensures _ _ c.intern-k.ensures)
