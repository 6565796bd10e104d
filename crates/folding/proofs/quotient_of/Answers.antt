-- `folding::quotient_of` meets its contract. Assumes nothing.
use Rattle.folding.proofs.Integers as integers
use Rattle.folding.proofs.quotient_of.Goals as goal

pub nonzero_div-q : goal.nonzero_div-q
nonzero_div-q c = rw c.magnitude_of-2.ensures (integers.magnitude-some c.args.last c.args.b c.requires.1 c.requires.2)

pub negation_of-requires : goal.negation_of-requires
negation_of-requires c = integers.quotient-within c.args.last c.magnitude_of.result c.magnitude_of-2.result (rw c.magnitude_of.ensures (integers.magnitude-within c.args.last c.args.a c.requires.3 c.requires.0))

pub returns-then-is_negative : goal.returns-then-is_negative
returns-then-is_negative c = integers.quotient-unlike c.args.last c.args.a c.args.b c.magnitude_of.result c.magnitude_of-2.result c.is_negative.result c.is_negative-2.result c.magnitude_of.ensures c.magnitude_of-2.ensures c.is_negative.ensures c.is_negative-2.ensures c.negation_of.result c.if-is_negative.true c.negation_of.ensures

pub returns-else-is_negative : goal.returns-else-is_negative
returns-else-is_negative c = integers.quotient-like c.args.last c.args.a c.args.b c.magnitude_of.result c.magnitude_of-2.result c.is_negative.result c.is_negative-2.result c.magnitude_of.ensures c.magnitude_of-2.ensures c.is_negative.ensures c.is_negative-2.ensures c.if-is_negative.false
