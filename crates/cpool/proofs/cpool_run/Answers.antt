-- `cpool::cpool_run` meets its contract: what run ensures, told by numbers. Assumes nothing.
use Rattle.cpool.specs.Ran.{slices}
use Rattle.cpool.proofs.Ending.{told-run}
use Rattle.cpool.proofs.cpool_run.Goals as goal

pub run-outcome-requires : goal.run-outcome-requires
run-outcome-requires c = tt

pub tell-requires : goal.tell-requires
tell-requires c = tt

pub returns : goal.returns
returns c = let a = c.args in let f = c.run-outcome in told-run a.job.now (slices a.work.now a.gaps.now a.answers.now a.marks.now a.pool.now a.bootstraps.now a.class_name.now) (slices f.new.work f.new.gaps f.new.answers f.new.marks f.new.pool f.new.bootstraps f.new.class_name) f.result _ _ (λ i. (c.type_inv.job i).fits) f.ensures c.tell.ensures.0 c.tell.ensures.1
