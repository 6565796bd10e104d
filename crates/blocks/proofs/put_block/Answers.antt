-- `blocks::put_block` meets its contract. Number, use, content, zeros and check are written one behind the other. Assumes nothing.
use Rattle.blocks.proofs.Written.{block_written}
use Rattle.blocks.proofs.put_block.Goals as goal

pub returns : goal.returns
returns c = block_written
    c.args.job.now
    c.args.out.now
    c.put.new.d
    c.put-2.new.d
    c.copy.new.dst
    c.pad.new.d
    c.put-3.new.d
    c.args.k
    c.in_block-used.result
    c.weighted_sum-check.result
    c.requires.2
    c.in_block-used.ensures
    c.put.ensures
    c.put-2.ensures
    c.copy.ensures
    c.pad.ensures
    c.weighted_sum-check.ensures
    c.put-3.ensures
