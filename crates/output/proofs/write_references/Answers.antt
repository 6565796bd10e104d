-- `output::write_references` meets its contract: the numbers of the first two children are those of the entry shown. Assumes nothing.
use Rattle.store.specs.Store.{store}
use Rattle.output.proofs.Shown.{kids_room, kid_ready, references-bytes, references-fit}
use Rattle.output.proofs.Showing.{node_places, node_stands, tag_read, byte_read}
use Rattle.output.proofs.write_references.Goals as goal

pub node_at-from-requires : goal.node_at-from-requires
node_at-from-requires c = let a = c.args in let q = c.requires in let z = node_places a.job.now (store a.p.now a.w.now) a.k q.2 q.3 a.p.now q.1 in (q.0, z.node, z.offset)

pub tag_at-tag-requires : goal.tag_at-tag-requires
tag_at-tag-requires c = let a = c.args in let q = c.requires in node_stands a.job.now (store a.p.now a.w.now) a.k q.2 q.3 c.node_at-from.result c.node_at-from.ensures.word

pub kind_byte-kind-requires : goal.kind_byte-kind-requires
kind_byte-kind-requires c = let a = c.args in let q = c.requires in node_stands a.job.now (store a.p.now a.w.now) a.k q.2 q.3 c.node_at-from.result c.node_at-from.ensures.word

pub first_child-children-requires : goal.first_child-children-requires
first_child-children-requires c = let a = c.args in let q = c.requires in let z = node_places a.job.now (store a.p.now a.w.now) a.k q.2 q.3 a.p.now q.1 in (q.0, z.node, z.first)

pub number_at-first-requires : goal.number_at-first-requires
number_at-first-requires c = let a = c.args in let q = c.requires in let t = store a.p.now a.w.now in (q.0, kids_room a.job.now a.p.now t a.k q.1 q.2 q.3 c.first_child-children.result a.n c.first_child-children.ensures.word q.5, kid_ready a.job.now a.p.now t a.k q.1 q.2 q.3 c.first_child-children.result a.n c.first_child-children.ensures.word q.5 q.4 0)

pub number_at-second-requires : goal.number_at-second-requires
number_at-second-requires c = let a = c.args in let q = c.requires in let t = store a.p.now a.w.now in (q.0, kids_room a.job.now a.p.now t a.k q.1 q.2 q.3 c.first_child-children.result a.n c.first_child-children.ensures.word q.5, kid_ready a.job.now a.p.now t a.k q.1 q.2 q.3 c.first_child-children.result a.n c.first_child-children.ensures.word q.5 q.4 1)

pub write_entry-requires : goal.write_entry-requires
write_entry-requires c = let a = c.args in let q = c.requires in let t = store a.p.now a.w.now in let tag = tag_read a.job.now t a.k q.2 q.3 c.node_at-from.result c.node_at-from.ensures.word c.tag_at-tag.result c.tag_at-tag.ensures in let kind = byte_read a.job.now t a.k q.2 q.3 c.node_at-from.result c.node_at-from.ensures.word c.kind_byte-kind.result c.kind_byte-kind.ensures in record { literal_fits = references-fit a.job.now a.p.now t a.k q.1 q.2 q.3 c.first_child-children.result a.n c.first_child-children.ensures.word q.5 q.6 c.tag_at-tag.result c.kind_byte-kind.result c.node_at-from.result c.number_at-first.result c.number_at-second.result tag kind (λ i. (c.type_inv.job i).fits); entry_in_bounds = rw (references-bytes a.job.now a.p.now t a.k q.1 q.2 q.3 c.first_child-children.result a.n c.first_child-children.ensures.word q.5 q.6 c.tag_at-tag.result c.kind_byte-kind.result c.node_at-from.result c.number_at-first.result c.number_at-second.result tag kind c.number_at-first.ensures c.number_at-second.ensures) q.7 }

pub returns : goal.returns
returns c = let a = c.args in let q = c.requires in let t = store a.p.now a.w.now in let tag = tag_read a.job.now t a.k q.2 q.3 c.node_at-from.result c.node_at-from.ensures.word c.tag_at-tag.result c.tag_at-tag.ensures in let kind = byte_read a.job.now t a.k q.2 q.3 c.node_at-from.result c.node_at-from.ensures.word c.kind_byte-kind.result c.kind_byte-kind.ensures in rw (references-bytes a.job.now a.p.now t a.k q.1 q.2 q.3 c.first_child-children.result a.n c.first_child-children.ensures.word q.5 q.6 c.tag_at-tag.result c.kind_byte-kind.result c.node_at-from.result c.number_at-first.result c.number_at-second.result tag kind c.number_at-first.ensures c.number_at-second.ensures) at c.write_entry.ensures
