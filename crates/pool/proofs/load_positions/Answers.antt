-- `pool::load_positions` meets its contract. By the three loads. Assumes nothing.
use Rattle.pool.proofs.load_positions.Goals as goal

pub returns : goal.returns
returns c = λ i. record { odd = c.load.ensures.word i; wide = c.load-2.ensures.word i; plain = c.load-3.ensures.word i }
