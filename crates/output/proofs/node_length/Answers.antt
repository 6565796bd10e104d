-- `output::node_length` meets its contract. Assumes nothing.
use Rattle.store.specs.Store.{store}
use Rattle.output.proofs.Showing.{node_places, node_stands, tag_read, size-read, shown-fits, has_kids, length-kids, length-literal}
use Rattle.output.proofs.node_length.Goals as goal

pub node_at-at-requires : goal.node_at-at-requires
node_at-at-requires c = let a = c.args in let q = c.requires in let z = node_places a.job.now (store a.p.now a.w.now) a.k q.2 q.3 a.p.now q.1 in (q.0, z.node, z.offset)

pub tag_at-tag-requires : goal.tag_at-tag-requires
tag_at-tag-requires c = let a = c.args in let q = c.requires in node_stands a.job.now (store a.p.now a.w.now) a.k q.2 q.3 c.node_at-at.result c.node_at-at.ensures.word

pub child_count-requires : goal.child_count-requires
child_count-requires c = let a = c.args in let q = c.requires in let z = node_places a.job.now (store a.p.now a.w.now) a.k q.2 q.3 a.p.now q.1 in (q.0, z.node, z.count)

pub entry_length-requires : goal.entry_length-requires
entry_length-requires c = let a = c.args in let q = c.requires in let t = store a.p.now a.w.now in rw (tag_read a.job.now t a.k q.2 q.3 c.node_at-at.result c.node_at-at.ensures.word c.tag_at-tag.result c.tag_at-tag.ensures) (rw (has_kids a.job.now t a.k q.2 q.3 c.child_count.result c.child_count.ensures.word c.if-child_count-gt0.true) at (shown-fits a.job.now t a.k q.2 q.3 (λ i. (c.type_inv.job i).fits)))

pub returns-then-child_count-gt0 : goal.returns-then-child_count-gt0
returns-then-child_count-gt0 c = let a = c.args in let q = c.requires in let t = store a.p.now a.w.now in length-kids a.job.now t a.k q.2 q.3 c.child_count.result c.tag_at-tag.result c.entry_length.result c.child_count.ensures.word c.if-child_count-gt0.true (tag_read a.job.now t a.k q.2 q.3 c.node_at-at.result c.node_at-at.ensures.word c.tag_at-tag.result c.tag_at-tag.ensures) c.entry_length.ensures

pub literal_size-requires : goal.literal_size-requires
literal_size-requires c = node_stands c.args.job.now (store c.args.p.now c.args.w.now) c.args.k c.requires.2 c.requires.3 c.node_at-at.result c.node_at-at.ensures.word

pub entry_length-requires-2 : goal.entry_length-requires-2
entry_length-requires-2 c = let size = c.literal_size in let tag = c.tag_at-tag in rw (tag_read c.args.job.now (store c.args.p.now c.args.w.now) c.args.k c.requires.2 c.requires.3 c.node_at-at.result c.node_at-at.ensures.word tag.result tag.ensures, size-read c.args.job.now (store c.args.p.now c.args.w.now) c.args.k c.requires.2 c.requires.3 c.node_at-at.result c.node_at-at.ensures.word size.result size.ensures) (shown-fits c.args.job.now (store c.args.p.now c.args.w.now) c.args.k c.requires.2 c.requires.3 (λ i. (c.type_inv.job i).fits))

pub returns : goal.returns
returns c = let size = c.literal_size in let tag = c.tag_at-tag in length-literal c.args.job.now (store c.args.p.now c.args.w.now) c.args.k c.requires.2 c.requires.3 tag.result c.entry_length-2.result size.result (tag_read c.args.job.now (store c.args.p.now c.args.w.now) c.args.k c.requires.2 c.requires.3 c.node_at-at.result c.node_at-at.ensures.word tag.result tag.ensures) (size-read c.args.job.now (store c.args.p.now c.args.w.now) c.args.k c.requires.2 c.requires.3 c.node_at-at.result c.node_at-at.ensures.word size.result size.ensures) c.entry_length-2.ensures
