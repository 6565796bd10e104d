-- `folding::magnitude_of` meets its contract. Assumes nothing.
use native.Mathlib.Omega.{arith}
use mathlib.Core.Path.{sym, ◌∙◌}
use Rattle.folding.proofs.Integers as integers
use Rattle.folding.proofs.magnitude_of.Goals as goal

pub overflow_add-result : goal.overflow_add-result
overflow_add-result c = omega (arith, integers.negative-some c.args.last c.args.a c.requires.1 (sym c.if-is_negative.true ∙ c.is_negative.ensures))

pub returns-then-is_negative : goal.returns-then-is_negative
returns-then-is_negative c = integers.magnitude-negative c.args.last c.args.a c.is_negative.result c.requires.0 c.is_negative.ensures c.if-is_negative.true

pub returns-else-is_negative : goal.returns-else-is_negative
returns-else-is_negative c = integers.magnitude-positive c.args.last c.args.a c.is_negative.result c.is_negative.ensures c.if-is_negative.false
