-- `blocks_test::check_of` meets its contract. Both products are bounded. Assumes nothing.
use native.Mathlib.Omega.{arith}
use Rattle.blocks_test.proofs.Products.{weights_low, weights_high, bytes_high}
use Rattle.blocks_test.proofs.check_of.Goals as goal

pub overflow_mul-weights : goal.overflow_mul-weights
overflow_mul-weights c = omega (arith, weights_high c.args.used c.requires.used_bound)

pub overflow_sub-weights : goal.overflow_sub-weights
overflow_sub-weights c = omega (arith, weights_low c.args.used)

pub overflow_mul-result-4 : goal.overflow_mul-result-4
overflow_mul-result-4 c = omega (arith, bytes_high c.args.k c.args.used c.requires.used_bound)

pub overflow_add-result-5 : goal.overflow_add-result-5
overflow_add-result-5 c = omega (arith, bytes_high c.args.k c.args.used c.requires.used_bound)
