-- `cpool::run` meets its contract. Assumes nothing.
use mathlib.Core.Path.{◌≡◌, ◌∙◌, ap, subst, sym}
use Rattle.std.proofs.Common.{rules}
use lib.ListN.{replicate}
use native.Mathlib.Omega.{arith}
use Rattle.slots.specs.Gaps.{no_gap}
use Rattle.cpool.specs.Ran.{Ran, slices}
use Rattle.cpool.proofs.Ending.{ran_long, ran_few_words, ran_few_gaps, ran_on}
use Rattle.cpool.proofs.run.Goals as goal

pub returns-then-job-gt-LONGEST_JOB : goal.returns-then-job-gt-LONGEST_JOB
returns-then-job-gt-LONGEST_JOB c = let a = c.args in ran_long a.job.now (slices a.work.now a.gaps.now a.answers.now a.marks.now a.pool.now a.bootstraps.now a.class_name.now) (omega (arith, c.if-job-gt-LONGEST_JOB.true))

pub returns-then-work-job : goal.returns-then-work-job
returns-then-work-job c = let a = c.args in ran_few_words a.job.now (slices a.work.now a.gaps.now a.answers.now a.marks.now a.pool.now a.bootstraps.now a.class_name.now) (omega (arith, c.if-job-gt-LONGEST_JOB.false)) (omega (arith, c.if-work-job.true))

pub returns-then-gaps-job : goal.returns-then-gaps-job
returns-then-gaps-job c = let a = c.args in ran_few_gaps a.job.now (slices a.work.now a.gaps.now a.answers.now a.marks.now a.pool.now a.bootstraps.now a.class_name.now) (omega (arith, c.if-job-gt-LONGEST_JOB.false)) (omega (arith, c.if-work-job.false)) (omega (arith, c.if-gaps-job.true))

pub run_formed-outcome-requires : goal.run_formed-outcome-requires
run_formed-outcome-requires c = (omega (arith, c.if-job-gt-LONGEST_JOB.false), omega (arith, c.if-work-job.false), omega (arith, c.if-gaps-job.false))

pub clear_words-requires : goal.clear_words-requires
clear_words-requires c = tt

pub clear_gaps-requires : goal.clear_gaps-requires
clear_gaps-requires c = tt

pub returns : goal.returns
returns c = let a = c.args in let f = c.run_formed-outcome in
    let answers : c.answers-1.given.0 ≡ f.new.outputs.answers.now = search rules in
    let marks : c.marks-1.given.0 ≡ f.new.outputs.marks.now = search rules in
    let pool : c.pool-1.given.0 ≡ f.new.outputs.pool.now = search rules in
    let bootstraps : c.bootstraps-1.given.0 ≡ f.new.outputs.bootstraps.now = search rules in
    let class : c.class_name-1.given.0 ≡ f.new.outputs.class_name.now = search rules in
    subst (λ x. Ran a.job.now (slices a.work.now a.gaps.now a.answers.now a.marks.now a.pool.now a.bootstraps.now a.class_name.now) x f.result)
    (λ i. slices c.clear_words.new.w c.clear_gaps.new.gaps (sym answers i) (sym marks i) (sym pool i) (sym bootstraps i) (sym class i))
    (ran_on a.job.now (slices a.work.now a.gaps.now a.answers.now a.marks.now a.pool.now a.bootstraps.now a.class_name.now) _ f.result (λ i. (c.type_inv.job i).fits) (omega (arith, c.if-job-gt-LONGEST_JOB.false)) (omega (arith, c.if-work-job.false)) (omega (arith, c.if-gaps-job.false)) f.ensures.given (c.clear_words.ensures ∙ ap (λ n. replicate n 0) f.auto.w) (c.clear_gaps.ensures ∙ ap (λ n. replicate n no_gap) f.auto.gaps))
