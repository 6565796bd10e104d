-- `raw_const::is_long` meets its contract: the tags that have this shape. Assumes nothing.
use mathlib.Core.Path.{◌∙◌}
use Rattle.raw_const.proofs.Table.{row_wide}
use Rattle.raw_const.proofs.is_long.Goals as goal

pub returns : goal.returns
returns c = c.eq.ensures ∙ row_wide c.args.tag c.shape_of.result c.shape_of.ensures
