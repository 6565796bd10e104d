-- `raw_const::short_at` meets its contract: the definition's reader takes two bytes, or finds nothing. Assumes nothing.
use native.Mathlib.Omega.{arith}
use Rattle.raw_const.proofs.Readers.{no_short, a_short}
use Rattle.raw_const.proofs.short_at.Goals as goal

pub returns-then-pool-at-lt2 : goal.returns-then-pool-at-lt2
returns-then-pool-at-lt2 c = no_short c.args.pool.now c.args.at c.if-pool-at-lt2.true

pub returns : goal.returns
returns c = let args = c.args in
    rw c.get.ensures (a_short args.pool.now args.at (omega arith))
