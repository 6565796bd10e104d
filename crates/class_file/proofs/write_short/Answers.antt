-- `class_file::write_short` meets its contract: a number in two bytes. Assumes nothing.
use borrow.Author.Rules.{rules}
use Rattle.class_file.proofs.Pieces.{wrote_short}
use Rattle.class_file.proofs.write_short.Goals as goal

pub returns : goal.returns
returns c = let args = c.args in
    wrote_short args.out.now args.at args.x (search rules) c.put.ensures
