-- `output::text_in` meets its contract. Assumes nothing.
use mathlib.Core.Path.{refl, ap, ◌∙◌}
use mathlib.Core.List.{[]}
use native.Mathlib.Omega.{arith}
use Rattle.definition.specs.Numbering.{attribute_name}
use Rattle.store.specs.Store.{store}
use Rattle.output.specs.Names.{text_of}
use Rattle.output.specs.Contents.{finished_in, shown_in, text_entry}
use Rattle.output.proofs.Classes.{text_some, text_nothing}
use Rattle.output.proofs.Shown.{shown-node, shown-nothing, shown-empty, shown-attribute}
use Rattle.output.proofs.text_in.Goals as goal

pub node_text-requires : goal.node_text-requires
node_text-requires c = let q = c.requires in (q.0, q.1, q.2, (rw c.in-Node.is at q.3).0)

pub returns-in-Node : goal.returns-in-Node
returns-in-Node c = let a = c.args in let t = store a.p.now a.w.now in rw (shown-node (finished_in a.job.now t) a.content c.in-Node.k c.in-Node.is) c.node_text.ensures

pub returns-in-Nothing : goal.returns-in-Nothing
returns-in-Nothing c = let a = c.args in let t = store a.p.now a.w.now in text_nothing (shown_in a.job.now t a.content) (shown-nothing (finished_in a.job.now t) a.content c.in-Nothing.is)

pub returns-in-Empty : goal.returns-in-Empty
returns-in-Empty c = let a = c.args in let t = store a.p.now a.w.now in (omega arith, ap text_of (shown-empty (finished_in a.job.now t) a.content c.in-Empty.is) ∙ text_some (text_entry []) refl)

pub returns-in-Attribute : goal.returns-in-Attribute
returns-in-Attribute c = let a = c.args in let t = store a.p.now a.w.now in ap text_of (shown-attribute (finished_in a.job.now t) a.content c.in-Attribute.is) ∙ text_some (text_entry attribute_name) refl
