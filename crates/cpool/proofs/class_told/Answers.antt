-- `cpool::class_told` meets its contract. Assumes nothing.
use Rattle.cpool.proofs.Telling.{told_none, told_some}
use Rattle.cpool.proofs.class_told.Goals as goal

pub returns-in_err-name : goal.returns-in_err-name
returns-in_err-name c = λ s o h. rw c.from_residual.ensures (told_none s c.args.c o h c.in_err-name.was)

pub returns : goal.returns
returns c = λ s o h. told_some s c.args.c o h c.in_ok-name.name c.in_ok-name.was _ (c.class_length.ensures s o (rw c.in_ok-name.was at h))
