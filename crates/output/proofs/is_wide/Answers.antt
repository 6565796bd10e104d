-- `output::is_wide` meets its contract. Assumes nothing.
use mathlib.Core.Path.{sym, ◌∙◌}
use Rattle.output.specs.Contents.{finished_in}
use Rattle.store.specs.Store.{store}
use Rattle.output.proofs.Holding.{wide_past, wide_node}
use Rattle.output.proofs.is_wide.Goals as goal

pub node_is_wide-requires : goal.node_is_wide-requires
node_is_wide-requires c = let a = c.args in let q = c.requires in (q.0, q.1, q.2, (rw c.in-Node.is at q.3).0)

pub returns-in-Node : goal.returns-in-Node
returns-in-Node c = let a = c.args in c.node_is_wide.ensures ∙ sym (wide_node (finished_in a.job.now (store a.p.now a.w.now)) a.content c.in-Node.k c.in-Node.is)

pub returns-in_default : goal.returns-in_default
returns-in_default c = let a = c.args in sym (wide_past (finished_in a.job.now (store a.p.now a.w.now)) a.content c.in_default.not-Node)
