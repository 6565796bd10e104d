-- `ending::attribute_slot` meets its contract: past the nodes there is no slot. Assumes nothing.
use Rattle.ending.proofs.Finding.{slot-past, slot_read}
use Rattle.interner.specs.Nodes.{nodes_in}
use Rattle.store.proofs.Stores.{length-store}
use Rattle.store.specs.Regions.{GIVEN}
use Rattle.store.specs.Store.{size, store}
use Rattle.definition.specs.Building.{attribute_text}
use Rattle.definition.specs.Resolving.{same_node}
use Rattle.definition.specs.Basics.{position}
use native.Mathlib.Omega.{arith}
use mathlib.Core.Path.{sym, ◌∙◌}
use Rattle.ending.proofs.attribute_slot.Goals as goal

pub find_attribute-k-requires : goal.find_attribute-k-requires
find_attribute-k-requires c = let q = c.requires in (q.0, q.1.0, q.1.1, q.1.2)

pub size_of-requires : goal.size_of-requires
size_of-requires c = (c.requires.0.0, omega arith)

pub returns-then-size_of-k : goal.returns-then-size_of-k
returns-then-size_of-k c = let a = c.args in let t = store a.p.now a.w.now in (slot-past (t GIVEN) c.find_attribute-k.result (position (same_node attribute_text) (nodes_in a.job.now t)) (size a.p.now GIVEN) c.find_attribute-k.ensures (length-store a.p.now a.w.now GIVEN) (omega (arith, c.if-size_of-k.true, c.size_of.ensures)), omega arith, tt)

pub load-slot-requires : goal.load-slot-requires
load-slot-requires c = (c.requires.0, omega (arith, c.if-size_of-k.false, c.size_of.ensures))

pub returns-then-slot-eq0 : goal.returns-then-slot-eq0
returns-then-slot-eq0 c = let a = c.args in let t = store a.p.now a.w.now in (slot_read (t GIVEN) c.find_attribute-k.result (position (same_node attribute_text) (nodes_in a.job.now t)) 0 c.find_attribute-k.ensures (sym c.if-slot-eq0.true ∙ c.load-slot.ensures.word), omega arith, tt)

pub returns-else-slot-eq0 : goal.returns-else-slot-eq0
returns-else-slot-eq0 c = let a = c.args in let t = store a.p.now a.w.now in (slot_read (t GIVEN) c.find_attribute-k.result (position (same_node attribute_text) (nodes_in a.job.now t)) c.load-slot.result c.find_attribute-k.ensures c.load-slot.ensures.word, c.load-slot.ensures.small, omega (arith, c.if-slot-eq0.false))
