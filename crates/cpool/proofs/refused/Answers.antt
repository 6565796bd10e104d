-- `cpool::refused` meets its contract. Assumes nothing.
use Rattle.cpool.proofs.Telling.{tells_refused}
use Rattle.cpool.proofs.refused.Goals as goal

pub load-requires : goal.load-requires
load-requires c = let q = c.requires in (q.0, q.1)

pub returns : goal.returns
returns c = rw c.load.ensures.word (tells_refused _ _)
