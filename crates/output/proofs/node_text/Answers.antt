-- `output::node_text` meets its contract. Assumes nothing.
use mathlib.Core.Path.{sym, ap, ◌∙◌}
use mathlib.Core.Option.{some}
use native.Mathlib.Omega.{arith}
use Rattle.store.specs.Store.{store}
use Rattle.output.specs.Contents.{finished_in}
use Rattle.interner.proofs.Words.{text_plain}
use Rattle.output.proofs.Classes.{text_none, text_some}
use Rattle.output.proofs.Showing.{node_places, node_stands, tag_read, literal_read}
use Rattle.output.proofs.node_text.Goals as goal

pub node_at-at-requires : goal.node_at-at-requires
node_at-at-requires c = let a = c.args in let q = c.requires in let z = node_places a.job.now (store a.p.now a.w.now) a.k q.2 q.3 a.p.now q.1 in (q.0, z.node, z.offset)

pub tag_at-requires : goal.tag_at-requires
tag_at-requires c = let a = c.args in let q = c.requires in node_stands a.job.now (store a.p.now a.w.now) a.k q.2 q.3 c.node_at-at.result c.node_at-at.ensures.word

pub returns-then-tag_at-ne1 : goal.returns-then-tag_at-ne1
returns-then-tag_at-ne1 c = let a = c.args in let q = c.requires in let t = store a.p.now a.w.now in let tag = tag_read a.job.now t a.k q.2 q.3 c.node_at-at.result c.node_at-at.ensures.word c.tag_at.result c.tag_at.ensures in text_none (finished_in a.job.now t a.k) (λ z. c.if-tag_at-ne1.true (tag ∙ z))

pub literal_at-s-requires : goal.literal_at-s-requires
literal_at-s-requires c = let a = c.args in let q = c.requires in let h = node_stands a.job.now (store a.p.now a.w.now) a.k q.2 q.3 c.node_at-at.result c.node_at-at.ensures.word in (h, text_plain a.job.now c.node_at-at.result c.tag_at.result c.tag_at.ensures h c.if-tag_at-ne1.false)

pub overflow_sub-result : goal.overflow_sub-result
overflow_sub-result c = let a = c.args in let q = c.requires in (literal_read a.job.now (store a.p.now a.w.now) a.k q.2 q.3 c.node_at-at.result c.node_at-at.ensures.word c.literal_at-s.result c.literal_at-s.ensures).rising

pub returns : goal.returns
returns c = let a = c.args in let q = c.requires in let t = store a.p.now a.w.now in let l = literal_read a.job.now t a.k q.2 q.3 c.node_at-at.result c.node_at-at.ensures.word c.literal_at-s.result c.literal_at-s.ensures in let tag = tag_read a.job.now t a.k q.2 q.3 c.node_at-at.result c.node_at-at.ensures.word c.tag_at.result c.tag_at.ensures in (omega (arith, l.rising, l.within), text_some (finished_in a.job.now t a.k) (sym tag ∙ c.if-tag_at-ne1.false) ∙ ap some (sym l.are))
