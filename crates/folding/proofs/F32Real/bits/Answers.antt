-- `folding::F32Real::bits` meets its contract. Assumes nothing.
use Rattle.folding.proofs.Floats.{no_nan, bits_of-nan-32}
use Rattle.folding.proofs.F32Real.bits.Goals as goal

pub float_to_bits-result : goal.float_to_bits-result
float_to_bits-result c = no_nan c.args.self c.if-self.false

pub returns-then-self : goal.returns-then-self
returns-then-self c = bits_of-nan-32 c.args.self c.if-self.true
