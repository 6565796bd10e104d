-- `pool::node_tag` meets its contract. The tag that stands in the job is the node's. Assumes nothing.
use Rattle.store.specs.Store.{store}
use Rattle.store.proofs.Stores.{length-store}
use Rattle.store.specs.Regions.{NODES}
use Rattle.pool.proofs.Nodal.{node_place_lem, entry_places, node_stands, node_tag}
use Rattle.pool.proofs.node_tag.Goals as goal

pub node_at-requires : goal.node_at-requires
node_at-requires c = let a = c.args in let q = c.requires in let t = store a.p.now a.w.now in (q.0, node_place_lem a.job.now a.p.now t q.1 a.k q.2, (entry_places a.job.now a.p.now t q.1 a.k q.2).offsets)

pub tag_at-requires : goal.tag_at-requires
tag_at-requires c = let a = c.args in let q = c.requires in let t = store a.p.now a.w.now in node_stands a.job.now a.p.now t q.1 a.k q.2 c.node_at.result c.node_at.ensures.word

pub returns : goal.returns
returns c = let a = c.args in let q = c.requires in let t = store a.p.now a.w.now in node_tag a.job.now a.p.now t q.1 a.k q.2 (length-store a.p.now a.w.now NODES) c.node_at.result c.tag_at.result c.node_at.ensures.word c.tag_at.ensures
