-- `folding::F64Real::of_bits` meets its contract. Assumes nothing.
use lib.Ieee.{binary64}
use mathlib.Core.Path.{sym, ◌∙◌}
use Rattle.folding.proofs.Floats.{patterns_nan, patterns_number, zero_by_zero}
use Rattle.folding.proofs.F64Real.of_bits.Goals as goal

pub float_from_bits-result : goal.float_from_bits-result
float_from_bits-result c = patterns_number binary64 c.args.n c.if-n-gt9218868437227405312.false

pub returns-then-n-gt9218868437227405312 : goal.returns-then-n-gt9218868437227405312
returns-then-n-gt9218868437227405312 c = zero_by_zero binary64 ∙ sym (patterns_nan binary64 c.args.n c.if-n-gt9218868437227405312.true)
