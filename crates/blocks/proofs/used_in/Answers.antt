-- `blocks::used_in` meets its contract. The use is read where the block has it. Assumes nothing.
use mathlib.Core.Path.{◌∙◌}
use Rattle.blocks.proofs.Right.{used_is}
use Rattle.blocks.proofs.used_in.Goals as goal

pub returns : goal.returns
returns c = c.get.ensures ∙ used_is c.args.file.now c.args.k
