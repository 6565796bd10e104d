-- `blocks::zero_padding` meets its contract: the slice is the rest of the block's content. Assumes nothing.
use mathlib.Core.Path.{ap, ◌∙◌}
use native.Mathlib.Omega.{arith}
use Rattle.definition.specs.Blocks.{all_zero}
use Rattle.blocks.proofs.Right.{padding-is}
use Rattle.blocks.proofs.zero_padding.Goals as goal

pub returns : goal.returns
returns c = c.all_zero.ensures
    ∙ ap all_zero
    (padding-is c.args.file.now c.args.k c.used_in-used.result c.requires.0 c.used_in-used.ensures (omega (arith, c.used_in-used.ensures)))
