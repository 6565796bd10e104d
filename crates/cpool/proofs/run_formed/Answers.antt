-- `cpool::run_formed` meets its contract. Assumes nothing.
use Rattle.std.proofs.lemmas.Result.{err_from_is_err_and}
use Rattle.refusal.specs.Numbers.{told_of}
use Rattle.cpool.specs.Stages.{lent}
use Rattle.cpool.proofs.Ending.{counted, gave_unformed}
use Rattle.cpool.proofs.run_formed.Goals as goal

pub returns-in_err-c-clause-given : goal.returns-in_err-c-clause-given
unfolding told_of
returns-in_err-c-clause-given c = let a = c.args in let r = err_from_is_err_and c.from_residual.result c.from_residual.ensures.1 in rw (r.1, r.2) (gave_unformed a.job.now (lent a.outputs.now) c.in_err-c.field-0.0 c.in_err-c.ensures)

pub build-requires : goal.build-requires
unfolding told_of
build-requires c = let a = c.args in let q = c.requires in let k = counted a.job.now _ c.in_ok-c.ensures q.0 in (k.0, k.1, q.1, q.2)
