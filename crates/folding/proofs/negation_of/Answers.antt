-- `folding::negation_of` meets its contract. Assumes nothing.
use Rattle.folding.proofs.Integers as integers
use Rattle.folding.proofs.negation_of.Goals as goal

pub returns-then-a-eq0 : goal.returns-then-a-eq0
returns-then-a-eq0 c = integers.negated-none c.args.last c.args.a c.if-a-eq0.true

pub returns-else-a-eq0 : goal.returns-else-a-eq0
returns-else-a-eq0 c = integers.negated-some c.args.last c.args.a c.requires c.if-a-eq0.false
