-- `poolrun_text::run_over` meets its contract. What `run` promises is what the definition prints. Assumes nothing.
use native.Mathlib.Omega.{arith}
use lib.ListN.{length}
use Rattle.cpool.specs.Ran.{slices}
use Rattle.poolrun_text.proofs.Putting.{reprinted}
use Rattle.poolrun_text.proofs.Running.{fits-ran, text_over}
use Rattle.poolrun_text.proofs.run_over.Goals as goal

pub put_outcome-requires-clause-room : goal.put_outcome-requires-clause-room
put_outcome-requires-clause-room c = let r = c.run-outcome in
    let a = c.args in
    let l = c.requires.lengths in
    let before = slices a.work.now a.gaps.now a.answers.now a.marks.now a.pool.now a.bootstraps.now a.class_name.now in
    let after = slices r.new.work r.new.gaps r.new.answers r.new.marks r.new.pool r.new.bootstraps r.new.class_name in
    fits-ran
    a.job.now
    before
    after
    r.result
    (length a.page.now.out.now)
    r.ensures
    (omega arith)
    (omega (arith, l.answers_is, r.auto.answers))
    (omega (arith, l.marks_is, r.auto.marks))
    (omega (arith, l.pool_is, r.auto.pool))
    (omega (arith, l.bootstraps_is, r.auto.bootstraps))
    (omega (arith, l.class_is, r.auto.class_name))

pub returns : goal.returns
returns c = let r = c.run-outcome in
    let a = c.args in
    let before = slices a.work.now a.gaps.now a.answers.now a.marks.now a.pool.now a.bootstraps.now a.class_name.now in
    let after = slices r.new.work r.new.gaps r.new.answers r.new.marks r.new.pool r.new.bootstraps r.new.class_name in
    reprinted (text_over a.job.now before after r.result r.ensures c.requires.lengths) c.put_outcome.ensures
