-- `raw_const::is_text` meets its contract: the tags that have this shape. Assumes nothing.
use mathlib.Core.Path.{◌∙◌}
use Rattle.raw_const.proofs.Table.{row_text}
use Rattle.raw_const.proofs.is_text.Goals as goal

pub returns : goal.returns
returns c = c.eq.ensures ∙ row_text c.args.tag c.shape_of.result c.shape_of.ensures
