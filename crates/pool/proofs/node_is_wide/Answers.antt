-- `pool::node_is_wide` meets its contract. Assumes nothing.
use mathlib.Core.Path.{ap, ◌∙◌}
use Rattle.definition.specs.Shapes.{is_wide}
use Rattle.pool.proofs.node_is_wide.Goals as goal

pub returns : goal.returns
returns c = c.is_long.ensures ∙ ap is_wide c.node_tag.ensures
