-- `class_file::write_word` meets its contract: a number in four bytes. Assumes nothing.
use borrow.Author.Rules.{rules}
use Rattle.class_file.proofs.Pieces.{wrote_word}
use Rattle.class_file.proofs.write_word.Goals as goal

pub returns : goal.returns
returns c = let args = c.args in
    wrote_word args.out.now args.at args.x (search rules) c.put.ensures
