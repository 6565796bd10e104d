-- `output::write_content` meets its contract. Assumes nothing.
use mathlib.Core.List.{[]}
use native.Mathlib.Omega.{arith}
use Rattle.definition.specs.Numbering.{attribute_name}
use Rattle.output.specs.Contents.{finished_in, shown_in, text_entry}
use Rattle.store.specs.Store.{store}
use Rattle.raw_const.proofs.Writes.{wrote_nothing}
use Rattle.output.proofs.Shown.{shown-node, shown-nothing, shown-empty, shown-attribute, slot-some, slot-none, empty_length, attribute-length}
use Rattle.output.proofs.write_content.Goals as goal

pub write_node-requires : goal.write_node-requires
write_node-requires c = let a = c.args in let q = c.requires in let t = store a.p.now a.w.now in let n = rw c.in-Node.is at q.3 in (q.0, q.1, q.2, n.0, n.1, rw (slot-some (shown_in a.job.now t a.content) (finished_in a.job.now t c.in-Node.k) (shown-node (finished_in a.job.now t) a.content c.in-Node.k c.in-Node.is)) at q.4)

pub returns-in-Node : goal.returns-in-Node
returns-in-Node c = let a = c.args in let t = store a.p.now a.w.now in rw (slot-some (shown_in a.job.now t a.content) (finished_in a.job.now t c.in-Node.k) (shown-node (finished_in a.job.now t) a.content c.in-Node.k c.in-Node.is)) c.write_node.ensures

pub returns-in-Nothing : goal.returns-in-Nothing
returns-in-Nothing c = let a = c.args in let t = store a.p.now a.w.now in rw (slot-none (shown_in a.job.now t a.content) (shown-nothing (finished_in a.job.now t) a.content c.in-Nothing.is)) (wrote_nothing a.pool.now a.at)

pub write_empty-requires : goal.write_empty-requires
write_empty-requires c = let a = c.args in let q = c.requires in let t = store a.p.now a.w.now in omega (arith, rw (slot-some (shown_in a.job.now t a.content) (text_entry []) (shown-empty (finished_in a.job.now t) a.content c.in-Empty.is)) at q.4, empty_length)

pub returns-in-Empty : goal.returns-in-Empty
returns-in-Empty c = let a = c.args in let t = store a.p.now a.w.now in rw (slot-some (shown_in a.job.now t a.content) (text_entry []) (shown-empty (finished_in a.job.now t) a.content c.in-Empty.is)) c.write_empty.ensures

pub write_attribute-requires : goal.write_attribute-requires
write_attribute-requires c = let a = c.args in let q = c.requires in let t = store a.p.now a.w.now in omega (arith, rw (slot-some (shown_in a.job.now t a.content) (text_entry attribute_name) (shown-attribute (finished_in a.job.now t) a.content c.in-Attribute.is)) at q.4, attribute-length)

pub returns-in-Attribute : goal.returns-in-Attribute
returns-in-Attribute c = let a = c.args in let t = store a.p.now a.w.now in rw (slot-some (shown_in a.job.now t a.content) (text_entry attribute_name) (shown-attribute (finished_in a.job.now t) a.content c.in-Attribute.is)) c.write_attribute.ensures
