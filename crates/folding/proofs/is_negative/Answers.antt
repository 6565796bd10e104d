-- `folding::is_negative` meets its contract. Assumes nothing.
use Rattle.folding.proofs.Integers as integers
use Rattle.folding.proofs.is_negative.Goals as goal

pub returns : goal.returns
returns c = integers.negative-is c.args.last c.args.a c.requires.1
