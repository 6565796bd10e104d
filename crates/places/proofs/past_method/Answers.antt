-- `places::past_method` meets its contract: the method is cut off before its arguments or in them, or is there. Assumes nothing.
use native.Mathlib.Omega.{arith}
use Rattle.places.proofs.Methods.{method_short, method_cut, method_there}
use Rattle.places.proofs.past_method.Goals as goal

pub returns-then-bytes-at-lt4 : goal.returns-then-bytes-at-lt4
returns-then-bytes-at-lt4 c = method_short c.args.bytes.now c.args.at (omega arith)

pub returns-then-bytes-at : goal.returns-then-bytes-at
returns-then-bytes-at c = let args = c.args in
    method_cut args.bytes.now args.at c.get.result c.get.ensures (omega arith)

pub returns : goal.returns
returns c = let args = c.args in
    method_there args.bytes.now args.at c.get.result c.get.ensures (omega arith)
