-- `output::class_node` meets its contract. Assumes nothing.
use Rattle.store.specs.Store.{store}
use Rattle.output.specs.Contents.{finished_in}
use Rattle.output.proofs.Classes.{class_by_tag}
use Rattle.output.proofs.Showing.{node_places, node_stands, tag_read}
use Rattle.output.proofs.class_node.Goals as goal

pub node_at-requires : goal.node_at-requires
node_at-requires c = let a = c.args in let q = c.requires in let n = rw c.in-Node.is at q.3 in let z = node_places a.job.now (store a.p.now a.w.now) c.in-Node.k q.2 n.0 a.p.now q.1 in (q.0, z.node, z.offset)

pub tag_at-requires : goal.tag_at-requires
tag_at-requires c = let a = c.args in let q = c.requires in let n = rw c.in-Node.is at q.3 in node_stands a.job.now (store a.p.now a.w.now) c.in-Node.k q.2 n.0 c.node_at.result c.node_at.ensures.word

pub returns-in-Node : goal.returns-in-Node
returns-in-Node c = let a = c.args in let q = c.requires in let t = store a.p.now a.w.now in let n = rw c.in-Node.is at q.3 in (class_by_tag (finished_in a.job.now t) a.content c.in-Node.k c.in-Node.is c.tag_at.result (tag_read a.job.now t c.in-Node.k q.2 n.0 c.node_at.result c.node_at.ensures.word c.tag_at.result c.tag_at.ensures)).0 c.if-tag_at-eq7.true

pub returns-in_default : goal.returns-in_default
returns-in_default c = let a = c.args in let q = c.requires in let t = store a.p.now a.w.now in let n = rw c.in-Node.is at q.3 in (class_by_tag (finished_in a.job.now t) a.content c.in-Node.k c.in-Node.is c.tag_at.result (tag_read a.job.now t c.in-Node.k q.2 n.0 c.node_at.result c.node_at.ensures.word c.tag_at.result c.tag_at.ensures)).1 c.if-tag_at-eq7.false
