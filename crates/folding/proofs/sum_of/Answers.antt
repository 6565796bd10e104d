-- `folding::sum_of` meets its contract. Assumes nothing.
use Rattle.folding.proofs.Integers as integers
use Rattle.folding.proofs.sum_of.Goals as goal

pub returns-then-a-last : goal.returns-then-a-last
returns-then-a-last c = integers.sum_fits c.args.last c.args.a c.args.b c.requires.0 c.requires.1 c.if-a-last.true

pub returns-else-a-last : goal.returns-else-a-last
returns-else-a-last c = integers.sum_wraps c.args.last c.args.a c.args.b c.requires.0 c.requires.1 c.if-a-last.false
