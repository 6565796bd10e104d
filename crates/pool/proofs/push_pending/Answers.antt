-- `pool::push_pending` meets its contract. By the count and the store. Assumes nothing.
use Rattle.pool.proofs.push_pending.Goals as goal

pub returns : goal.returns
returns c = rw (c.save.ensures, c.next_count-i.ensures.1, c.next_count-i.ensures.0)
