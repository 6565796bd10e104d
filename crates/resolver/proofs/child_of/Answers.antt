-- `resolver::child_of` meets its contract: a raw number is its own child, and an entry's child is the node of its mark. Assumes nothing.
use Prim.Native.Nat.{◌+◌, ◌-◌}
use native.Mathlib.Omega.{arith}
use lib.ListN.{get_or}
use Rattle.store.specs.Words.{ENTRY}
use Rattle.store.specs.Regions.{MARKS}
use Rattle.store.specs.Store.{store}
use Rattle.store.proofs.Stores.{length-store, at_store}
use Rattle.resolver.proofs.Meanings.{there, child_raw, child_entry}
use Rattle.resolver.proofs.child_of.Goals as goal

pub node_of-requires : goal.node_of-requires
node_of-requires c = let a = c.args in let m = c.requires.1.ready c.if-goal-lt-ENTRY.false in (c.requires.0, omega (arith, there (store a.p.now a.w.now MARKS) (a.goal - ENTRY) (omega arith), length-store a.p.now a.w.now MARKS), m)

pub overflow_add-result : goal.overflow_add-result
overflow_add-result c = let a = c.args in let m = c.requires.1.ready c.if-goal-lt-ENTRY.false in let i = a.goal - ENTRY in let l = there (store a.p.now a.w.now MARKS) i (omega arith) in omega (arith, c.node_of.ensures, at_store a.p.now a.w.now MARKS i (omega (arith, length-store a.p.now a.w.now MARKS)), c.type_inv.w (get_or a.p.now 1 0 + i))

pub returns-then-goal-lt-ENTRY : goal.returns-then-goal-lt-ENTRY
returns-then-goal-lt-ENTRY c = let a = c.args in child_raw (store a.p.now a.w.now MARKS) a.goal c.if-goal-lt-ENTRY.true

pub returns-else-goal-lt-ENTRY : goal.returns-else-goal-lt-ENTRY
returns-else-goal-lt-ENTRY c = let a = c.args in child_entry (store a.p.now a.w.now MARKS) a.goal c.node_of.result c.if-goal-lt-ENTRY.false c.requires.1.low c.node_of.ensures
