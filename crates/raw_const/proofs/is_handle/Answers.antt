-- `raw_const::is_handle` meets its contract: the tags that have this shape. Assumes nothing.
use mathlib.Core.Path.{◌∙◌}
use Rattle.raw_const.proofs.Table.{row_handle}
use Rattle.raw_const.proofs.is_handle.Goals as goal

pub returns : goal.returns
returns c = c.eq.ensures ∙ row_handle c.args.tag c.shape_of.result c.shape_of.ensures
