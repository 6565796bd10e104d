-- `output::class_name` meets its contract: the class slot's content is a Class or not, and its first child's slot is read as any slot is. Assumes nothing.
use mathlib.Core.Path.{ap, ◌∙◌}
use Rattle.store.specs.Store.{store}
use Rattle.output.specs.Contents.{content_in}
use Rattle.output.proofs.Classes.{name_missing, class_node, name_there, any_content}
use Rattle.output.proofs.Shown.{kids_room, kid_ready, kid_number}
use Rattle.output.proofs.Showing.{node_places}
use Rattle.output.proofs.class_name.Goals as goal

pub class_node-requires : goal.class_node-requires
class_node-requires c = let a = c.args in let q = c.requires in let t = store a.p.now a.w.now in (q.0, q.1, q.3.made, rw c.content_of.ensures (any_content a.job.now a.p.now t q.1 q.2 q.3 c.class_slot.result))

pub returns-in_err-class : goal.returns-in_err-class
returns-in_err-class c = let a = c.args in let q = c.requires in let t = store a.p.now a.w.now in rw c.from_residual.ensures (name_missing a.job.now t c.content_of.result (c.content_of.ensures ∙ ap (content_in a.job.now t) c.class_slot.ensures.0) c.in_err-class.ensures)

pub child_count-n-requires : goal.child_count-n-requires
child_count-n-requires c = let a = c.args in let q = c.requires in let t = store a.p.now a.w.now in let k = c.in_ok-class.class in let h = c.in_ok-class.ensures in let is = c.content_of.ensures ∙ ap (content_in a.job.now t) c.class_slot.ensures.0 in let n = class_node a.job.now t c.content_of.result is k h a.p.now q.1 q.2 q.3 in let z = node_places a.job.now t k q.3.made n.0 a.p.now q.1 in (q.0, z.node, z.count)

pub first_child-requires : goal.first_child-requires
first_child-requires c = let a = c.args in let q = c.requires in let t = store a.p.now a.w.now in let k = c.in_ok-class.class in let h = c.in_ok-class.ensures in let is = c.content_of.ensures ∙ ap (content_in a.job.now t) c.class_slot.ensures.0 in let n = class_node a.job.now t c.content_of.result is k h a.p.now q.1 q.2 q.3 in let z = node_places a.job.now t k q.3.made n.0 a.p.now q.1 in (q.0, z.node, z.first)

pub number_at-text-requires : goal.number_at-text-requires
number_at-text-requires c = let a = c.args in let q = c.requires in let t = store a.p.now a.w.now in let k = c.in_ok-class.class in let h = c.in_ok-class.ensures in let is = c.content_of.ensures ∙ ap (content_in a.job.now t) c.class_slot.ensures.0 in let n = class_node a.job.now t c.content_of.result is k h a.p.now q.1 q.2 q.3 in (q.0, kids_room a.job.now a.p.now t k q.1 q.3.made n.0 c.first_child.result c.child_count-n.result c.first_child.ensures.word c.child_count-n.ensures.word, kid_ready a.job.now a.p.now t k q.1 q.3.made n.0 c.first_child.result c.child_count-n.result c.first_child.ensures.word c.child_count-n.ensures.word n.1 0)

pub text_in-requires : goal.text_in-requires
text_in-requires c = let a = c.args in let q = c.requires in let t = store a.p.now a.w.now in (q.0, q.1, q.3.made, rw c.content_of-2.ensures (any_content a.job.now a.p.now t q.1 q.2 q.3 c.number_at-text.result))

pub returns : goal.returns
returns c = let a = c.args in let q = c.requires in let t = store a.p.now a.w.now in let k = c.in_ok-class.class in let h = c.in_ok-class.ensures in let is = c.content_of.ensures ∙ ap (content_in a.job.now t) c.class_slot.ensures.0 in let n = class_node a.job.now t c.content_of.result is k h a.p.now q.1 q.2 q.3 in name_there a.job.now t c.content_of.result is k h c.number_at-text.result (kid_number a.job.now a.p.now t k q.1 q.3.made n.0 c.first_child.result c.child_count-n.result c.first_child.ensures.word c.child_count-n.ensures.word 0 c.number_at-text.result c.number_at-text.ensures) c.content_of-2.result c.content_of-2.ensures c.text_in.result c.text_in.ensures
