-- `writer::copy` meets its contract. The loop keeps: the first i bytes are copied. Assumes nothing.
use native.Mathlib.Omega.{arith}
use Rattle.writer.proofs.Laws.{copy_more}
use Rattle.writer.proofs.copy.Goals as goal

pub loop-i-preserved : goal.loop-i-preserved
loop-i-preserved c =
    let a = c.args in
    let l = c.loop-i in
    rw l.invariant (copy_more a.dst.now a.src.now a.at a.from l.i (omega (arith, c.requires.n_in_bounds_2, c.loop-i-test.true)) (omega (arith, c.requires.n_in_bounds, c.loop-i-test.true)))
