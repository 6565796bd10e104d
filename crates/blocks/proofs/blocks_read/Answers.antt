-- `blocks::blocks_read` meets its contract. What read_blocks ensures, told by numbers. Assumes nothing.
use lib.ListN.{length}
use Rattle.definition.specs.Blocks.{read_blocks}
use Rattle.refusal.specs.Numbers.{told_of}
use Rattle.blocks.proofs.Ends.{told}
use Rattle.blocks.proofs.blocks_read.Goals as goal

pub returns : goal.returns
returns c = let args = c.args in
    told
    (read_blocks (length args.out.now) args.file.now)
    args.out.now
    c.read_blocks.new.out
    (told_of c.read_blocks.result)
    c.from-n.result
    (c.read_blocks.ensures.result_value, c.read_blocks.ensures.out_after)
    c.from-n.ensures
