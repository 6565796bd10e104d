-- `rows::child_slot` meets its contract. A raw number is itself, a node has the slot that GIVEN has. Assumes nothing.
use native.Mathlib.Omega.{arith}
use Rattle.store.specs.Regions.{GIVEN}
use Rattle.store.specs.Store.{store}
use Rattle.rows.proofs.Slotting.{slot-raw, slot-node}
use Rattle.rows.proofs.child_slot.Goals as goal

pub load-requires : goal.load-requires
load-requires c = (c.requires.0, omega arith)

pub returns-then-child-lt-ENTRY : goal.returns-then-child-lt-ENTRY
returns-then-child-lt-ENTRY c = let a = c.args in (slot-raw (store a.p.now a.w.now GIVEN) a.child c.if-child-lt-ENTRY.true, omega arith)

pub returns-else-child-lt-ENTRY : goal.returns-else-child-lt-ENTRY
returns-else-child-lt-ENTRY c = let a = c.args in (slot-node (store a.p.now a.w.now GIVEN) a.child c.load.result c.if-child-lt-ENTRY.false c.load.ensures.word, c.load.ensures.small)
