-- `folding::difference_of` meets its contract. Assumes nothing.
use Rattle.folding.proofs.Integers as integers
use Rattle.folding.proofs.difference_of.Goals as goal

pub returns-then-b-a : goal.returns-then-b-a
returns-then-b-a c = integers.difference_fits c.args.last c.args.a c.args.b c.requires.0 c.requires.1 c.if-b-a.true

pub returns-else-b-a : goal.returns-else-b-a
returns-else-b-a c = integers.difference_wraps c.args.last c.args.a c.args.b c.requires.0 c.requires.1 c.if-b-a.false
