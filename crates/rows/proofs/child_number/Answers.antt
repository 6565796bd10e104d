-- `rows::child_number` meets its contract. By the test for a bootstrap. Assumes nothing.
use native.Mathlib.Omega.{arith}
use Rattle.store.specs.Regions.{INDEXES}
use Rattle.store.specs.Store.{store}
use Rattle.store.proofs.Stores.{length-store}
use Rattle.rows.proofs.Numbers.{boot_node, boot_is, number-there, number-boot, number-slot, slot-inside}
use Rattle.rows.proofs.child_number.Goals as goal

pub overflow_sub-child : goal.overflow_sub-child
overflow_sub-child c = let a = c.args in boot_node a.p.now (store a.p.now a.w.now) a.child c.is_bootstrap.result c.is_bootstrap.ensures c.if-is_bootstrap.true

pub index_word-requires : goal.index_word-requires
index_word-requires c = let a = c.args in let q = c.requires in (q.0, q.1, q.2, boot_is a.p.now (store a.p.now a.w.now) a.child c.is_bootstrap.result c.is_bootstrap.ensures c.if-is_bootstrap.true q.1 q.2 q.3 (length-store a.p.now a.w.now INDEXES))

pub overflow_sub-result : goal.overflow_sub-result
overflow_sub-result c = let a = c.args in let q = c.requires in omega (arith, number-there a.p.now (store a.p.now a.w.now) a.child c.is_bootstrap.result c.is_bootstrap.ensures c.if-is_bootstrap.true q.4, c.index_word.ensures.0)

pub returns-then-is_bootstrap : goal.returns-then-is_bootstrap
returns-then-is_bootstrap c = let a = c.args in number-boot a.p.now (store a.p.now a.w.now) a.child c.is_bootstrap.result c.is_bootstrap.ensures c.if-is_bootstrap.true c.index_word.result c.index_word.ensures.0

pub child_slot-requires : goal.child_slot-requires
child_slot-requires c = let a = c.args in let q = c.requires in (q.0, slot-inside a.p.now (store a.p.now a.w.now) a.child q.1 q.2 q.3)

pub returns : goal.returns
returns c = let a = c.args in number-slot a.p.now (store a.p.now a.w.now) a.child c.is_bootstrap.result c.is_bootstrap.ensures c.if-is_bootstrap.false c.child_slot.result c.child_slot.ensures.0
