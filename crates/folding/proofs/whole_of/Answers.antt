-- `folding::whole_of` meets its contract. Assumes nothing.
use Prim.Native.Nat.{◌+◌}
use Rattle.std.specs.Prelude.{Some}
use Rattle.folding.proofs.Integers as integers
use Rattle.folding.proofs.Values.{integer-within}
use Rattle.folding.specs.Folding.{sign_of, as_whole, WholeWithin}
use Rattle.definition.specs.Expression.{over}
use Rattle.definition.specs.Value.{integer}
use mathlib.Core.Path.{ap, sym, subst}
use Rattle.folding.proofs.whole_of.Goals as goal

pub returns-in-Plus-clause-value : goal.returns-in-Plus-clause-value
unfolding as_whole integer sign_of
returns-in-Plus-clause-value c = rw c.in-Plus.is (ap Some c.sum_of.ensures)

pub returns-in-Minus-clause-value : goal.returns-in-Minus-clause-value
unfolding as_whole integer sign_of
returns-in-Minus-clause-value c = rw c.in-Minus.is (ap Some c.difference_of.ensures)

pub returns-in-Times-clause-value : goal.returns-in-Times-clause-value
unfolding as_whole integer sign_of
returns-in-Times-clause-value c = rw c.in-Times.is (ap Some c.product_of.ensures)

pub returns-in-Over-clause-value : goal.returns-in-Over-clause-value
unfolding sign_of
returns-in-Over-clause-value c = rw c.in-Over.is (integers.over_none (c.args.last + 1) c.args.a c.args.b c.if-b-eq0.true)

pub returns-in-Over-2-clause-value : goal.returns-in-Over-2-clause-value
unfolding sign_of
returns-in-Over-2-clause-value c = rw c.in-Over-2.is (integers.over-some (c.args.last + 1) c.args.a c.args.b c.quotient_of.result c.if-b-eq0.false c.quotient_of.ensures)

pub returns-in-Over-2-clause-within : goal.returns-in-Over-2-clause-within
returns-in-Over-2-clause-within c =
    subst (WholeWithin (c.args.last + 1)) (sym (integers.over-some (c.args.last + 1) c.args.a c.args.b c.quotient_of.result c.if-b-eq0.false c.quotient_of.ensures))
    (integer-within c.args.last over c.args.a c.args.b c.requires.0 c.requires.3)
