-- `output::content_length` meets its contract. Assumes nothing.
use mathlib.Core.Path.{sym, ap, ◌∙◌}
use mathlib.Core.List.{[]}
use lib.ListN.{length}
use Rattle.definition.specs.Numbering.{attribute_name}
use Rattle.store.specs.Store.{store}
use Rattle.output.specs.Contents.{finished_in, shown_in, text_entry}
use Rattle.output.proofs.Shown.{shown-node, shown-nothing, shown-empty, shown-attribute, slot-some, slot-none, empty_length, attribute-length}
use Rattle.output.proofs.content_length.Goals as goal

pub node_length-requires : goal.node_length-requires
node_length-requires c = let q = c.requires in (q.0, q.1, q.2, (rw c.in-Node.is at q.3).0)

pub returns-in-Node : goal.returns-in-Node
returns-in-Node c = let a = c.args in let t = store a.p.now a.w.now in c.node_length.ensures ∙ sym (ap length (slot-some (shown_in a.job.now t a.content) (finished_in a.job.now t c.in-Node.k) (shown-node (finished_in a.job.now t) a.content c.in-Node.k c.in-Node.is)))

pub returns-in-Nothing : goal.returns-in-Nothing
returns-in-Nothing c = let a = c.args in let t = store a.p.now a.w.now in sym (ap length (slot-none (shown_in a.job.now t a.content) (shown-nothing (finished_in a.job.now t) a.content c.in-Nothing.is)))

pub returns-in-Empty : goal.returns-in-Empty
returns-in-Empty c = let a = c.args in let t = store a.p.now a.w.now in sym (ap length (slot-some (shown_in a.job.now t a.content) (text_entry []) (shown-empty (finished_in a.job.now t) a.content c.in-Empty.is)) ∙ empty_length)

pub returns-in-Attribute : goal.returns-in-Attribute
returns-in-Attribute c = let a = c.args in let t = store a.p.now a.w.now in sym (ap length (slot-some (shown_in a.job.now t a.content) (text_entry attribute_name) (shown-attribute (finished_in a.job.now t) a.content c.in-Attribute.is)) ∙ attribute-length)
