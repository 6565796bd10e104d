-- `pool::asks_ldc` meets its contract. By the first byte. Assumes nothing.
use mathlib.Core.Path.{refl}
use Rattle.pool.proofs.Asked.{ldc_told}
use Rattle.pool.proofs.asks_ldc.Goals as goal

pub returns : goal.returns
returns c = let a = c.args in ldc_told a.job.now a.at _ refl
