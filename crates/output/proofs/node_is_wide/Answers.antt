-- `output::node_is_wide` meets its contract. Assumes nothing.
use mathlib.Core.Path.{ap, ◌∙◌}
use Rattle.definition.specs.Shapes.{is_wide}
use Rattle.store.specs.Store.{store}
use Rattle.output.proofs.Showing.{node_places, node_stands, tag_read}
use Rattle.output.proofs.node_is_wide.Goals as goal

pub node_at-requires : goal.node_at-requires
node_at-requires c = let a = c.args in let q = c.requires in let z = node_places a.job.now (store a.p.now a.w.now) a.k q.2 q.3 a.p.now q.1 in (q.0, z.node, z.offset)

pub tag_at-requires : goal.tag_at-requires
tag_at-requires c = let a = c.args in let q = c.requires in node_stands a.job.now (store a.p.now a.w.now) a.k q.2 q.3 c.node_at.result c.node_at.ensures.word

pub is_long-requires : goal.is_long-requires
is_long-requires c = tt

pub returns : goal.returns
returns c = let a = c.args in let q = c.requires in c.is_long.ensures ∙ ap is_wide (tag_read a.job.now (store a.p.now a.w.now) a.k q.2 q.3 c.node_at.result c.node_at.ensures.word c.tag_at.result c.tag_at.ensures)
