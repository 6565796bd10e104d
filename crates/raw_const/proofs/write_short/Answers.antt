-- `raw_const::write_short` meets its contract: a number in two bytes. Assumes nothing.
use Rattle.raw_const.proofs.Writes.{wrote_short}
use Rattle.raw_const.proofs.write_short.Goals as goal

pub returns : goal.returns
returns c = let args = c.args in
    wrote_short args.out.now args.at args.x c.put.ensures
