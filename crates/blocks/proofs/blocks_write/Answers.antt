-- `blocks::blocks_write` meets its contract. What write_blocks ensures, told by numbers. Assumes nothing.
use lib.ListN.{length}
use Rattle.definition.specs.Blocks.{write_blocks}
use Rattle.refusal.specs.Numbers.{told_of}
use Rattle.blocks.proofs.Ends.{told}
use Rattle.blocks.proofs.blocks_write.Goals as goal

pub returns : goal.returns
returns c = let args = c.args in
    told
    (write_blocks (length args.out.now) args.job.now)
    args.out.now
    c.write_blocks.new.out
    (told_of c.write_blocks.result)
    c.from-n.result
    (c.write_blocks.ensures.result_value, c.write_blocks.ensures.out_after)
    c.from-n.ensures
