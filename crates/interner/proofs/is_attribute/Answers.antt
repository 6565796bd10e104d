-- `interner::is_attribute` meets its contract: a text of 16 bytes that are those of the name. Assumes nothing.
use Rattle.interner.proofs.Attribute.{other_tag, by_bytes}
use Rattle.interner.proofs.Words.{text_plain}
use Rattle.interner.proofs.is_attribute.Goals as goal

pub returns-then-tag_at-ne1 : goal.returns-then-tag_at-ne1
returns-then-tag_at-ne1 c = λ x next f. other_tag x.tag x.literal c.tag_at.result (c.tag_at.ensures x next f) c.if-tag_at-ne1.true

pub literal_at-s-requires : goal.literal_at-s-requires
literal_at-s-requires c = let a = c.args in let q = c.requires in (q, text_plain a.job.now a.at c.tag_at.result c.tag_at.ensures q c.if-tag_at-ne1.false)

pub returns : goal.returns
returns c = λ x next f. by_bytes x.tag x.literal c.args.job.now c.literal_at-s.result (c.literal_at-s.ensures x next f) c.tag_at.result (c.tag_at.ensures x next f) c.if-tag_at-ne1.false c.attribute_name.result c.attribute_name.ensures c.eq.result c.eq.ensures
