-- `folding::product_of` meets its contract. Assumes nothing.
use mathlib.Core.Path.{◌∙◌}
use native.Mathlib.Omega.{arith}
use Prim.Native.Nat.{◌/◌, ◌%◌, ◌*◌, ◌+◌}
use Rattle.folding.proofs.Integers as integers
use Rattle.folding.proofs.product_of.Goals as goal

pub nonzero_div-high : goal.nonzero_div-high
nonzero_div-high c = integers.root_positive c.args.root c.args.last c.requires.2

pub nonzero_rem-high : goal.nonzero_rem-high
nonzero_rem-high c = integers.root_positive c.args.root c.args.last c.requires.2

pub overflow_mul-high : goal.overflow_mul-high
overflow_mul-high c = omega (arith, integers.both_below c.args.root c.args.last (c.args.a / c.args.root) (c.args.b % c.args.root) c.requires.2 (integers.top_below c.args.root c.args.last c.args.a c.requires.0 c.requires.2) (integers.rest_below c.args.root c.args.last c.args.b c.requires.2))

pub nonzero_rem-high-2 : goal.nonzero_rem-high-2
nonzero_rem-high-2 c = integers.root_positive c.args.root c.args.last c.requires.2

pub nonzero_rem-cross : goal.nonzero_rem-cross
nonzero_rem-cross c = integers.root_positive c.args.root c.args.last c.requires.2

pub nonzero_div-cross : goal.nonzero_div-cross
nonzero_div-cross c = integers.root_positive c.args.root c.args.last c.requires.2

pub overflow_mul-cross : goal.overflow_mul-cross
overflow_mul-cross c = omega (arith, integers.both_below c.args.root c.args.last (c.args.a % c.args.root) (c.args.b / c.args.root) c.requires.2 (integers.rest_below c.args.root c.args.last c.args.a c.requires.2) (integers.top_below c.args.root c.args.last c.args.b c.requires.1 c.requires.2))

pub nonzero_rem-cross-2 : goal.nonzero_rem-cross-2
nonzero_rem-cross-2 c = integers.root_positive c.args.root c.args.last c.requires.2

pub overflow_add-middle : goal.overflow_add-middle
overflow_add-middle c = omega (arith, integers.rests-below c.args.root c.args.last (c.args.a / c.args.root * (c.args.b % c.args.root) % c.args.root) (c.args.a % c.args.root * (c.args.b / c.args.root) % c.args.root) c.requires.2 (integers.rest_below c.args.root c.args.last (c.args.a / c.args.root * (c.args.b % c.args.root)) c.requires.2) (integers.rest_below c.args.root c.args.last (c.args.a % c.args.root * (c.args.b / c.args.root)) c.requires.2))

pub nonzero_rem-middle : goal.nonzero_rem-middle
nonzero_rem-middle c = integers.root_positive c.args.root c.args.last c.requires.2

pub nonzero_rem-a : goal.nonzero_rem-a
nonzero_rem-a c = integers.root_positive c.args.root c.args.last c.requires.2

pub nonzero_rem-b : goal.nonzero_rem-b
nonzero_rem-b c = integers.root_positive c.args.root c.args.last c.requires.2

pub overflow_mul-a : goal.overflow_mul-a
overflow_mul-a c = omega (arith, integers.both_below c.args.root c.args.last (c.args.a % c.args.root) (c.args.b % c.args.root) c.requires.2 (integers.rest_below c.args.root c.args.last c.args.a c.requires.2) (integers.rest_below c.args.root c.args.last c.args.b c.requires.2))

pub overflow_mul-middle : goal.overflow_mul-middle
overflow_mul-middle c = omega (arith, integers.shifted_below c.args.root c.args.last (((c.args.a / c.args.root * (c.args.b % c.args.root) % c.args.root) + (c.args.a % c.args.root * (c.args.b / c.args.root) % c.args.root)) % c.args.root) c.requires.2 (integers.rest_below c.args.root c.args.last ((c.args.a / c.args.root * (c.args.b % c.args.root) % c.args.root) + (c.args.a % c.args.root * (c.args.b / c.args.root) % c.args.root)) c.requires.2))

pub sum_of-requires : goal.sum_of-requires
sum_of-requires c = (integers.both_below c.args.root c.args.last (c.args.a % c.args.root) (c.args.b % c.args.root) c.requires.2 (integers.rest_below c.args.root c.args.last c.args.a c.requires.2) (integers.rest_below c.args.root c.args.last c.args.b c.requires.2), integers.shifted_below c.args.root c.args.last (((c.args.a / c.args.root * (c.args.b % c.args.root) % c.args.root) + (c.args.a % c.args.root * (c.args.b / c.args.root) % c.args.root)) % c.args.root) c.requires.2 (integers.rest_below c.args.root c.args.last ((c.args.a / c.args.root * (c.args.b % c.args.root) % c.args.root) + (c.args.a % c.args.root * (c.args.b / c.args.root) % c.args.root)) c.requires.2))

pub returns : goal.returns
returns c = c.sum_of.ensures ∙ integers.by_halves c.args.root (c.args.last + 1) c.args.a c.args.b c.requires.2
