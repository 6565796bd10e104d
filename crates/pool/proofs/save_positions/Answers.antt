-- `pool::save_positions` meets its contract. By the three stores. Assumes nothing.
use Rattle.pool.proofs.save_positions.Goals as goal

pub returns : goal.returns
returns c = rw (c.save-3.ensures, c.save-2.ensures, c.save.ensures)
