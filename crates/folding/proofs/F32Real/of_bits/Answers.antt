-- `folding::F32Real::of_bits` meets its contract. Assumes nothing.
use lib.Ieee.{binary32}
use mathlib.Core.Path.{sym, ◌∙◌}
use Rattle.folding.proofs.Floats.{patterns_nan, patterns_number, zero_by_zero}
use Rattle.folding.proofs.F32Real.of_bits.Goals as goal

pub float_from_bits-result : goal.float_from_bits-result
float_from_bits-result c = patterns_number binary32 c.args.n c.if-n-gt2139095040.false

pub returns-then-n-gt2139095040 : goal.returns-then-n-gt2139095040
returns-then-n-gt2139095040 c = zero_by_zero binary32 ∙ sym (patterns_nan binary32 c.args.n c.if-n-gt2139095040.true)
