-- `job::form_definitions` meets its contract. Assumes nothing.
use Rattle.definition.specs.Basics.{only}
use Rattle.definition.specs.Numbering.{entries, constants_of, bootstraps_of, settings}
use Rattle.definition.specs.Settings.{highest_of}
use Rattle.job.specs.Forms.{counts_of, references_in, version_from}
use Rattle.job.proofs.Passes.{broken_behind, definitions_start, definitions_end, definitions_free}
use native.Mathlib.Omega.{arith}
use mathlib.Core.Option.{none}
use mathlib.Core.Path.{sym, ◌∙◌}
use Rattle.job.proofs.form_definitions.Goals as goal

pub loop-step-init : goal.loop-step-init
unfolding counts_of constants_of bootstraps_of entries only references_in version_from settings highest_of
loop-step-init c = rw c.nothing_yet.ensures (omega arith, omega arith, none, definitions_start c.args.job.now)

pub loop-step-preserved : goal.loop-step-preserved
loop-step-preserved c =
    let l = c.loop-step in
    let d = rw c.in-Some.is at c.in_ok-step.ensures in (
      d.moved.within,
      d.moved.bounded,
      broken_behind l.so_far.counts.definitions d.moved.value l.invariant.2,
      sym (definitions_free c.args.job.now l.so_far.next l.so_far.counts l.invariant.2 d.low (omega (arith, l.invariant.1)) d.other c.in-Some.step.next c.in-Some.step.counts d.moved c.if-step-ne0.false)
          ∙ l.invariant.3,
    )

pub returns-clause-job_value : goal.returns-clause-job_value
returns-clause-job_value c =
    let l = c.loop-step in
    let d = rw c.in_default.is at c.in_ok-step.ensures in
    sym l.invariant.3 ∙ definitions_end c.args.job.now l.so_far.next l.so_far.counts l.invariant.2 d.0 (omega (arith, l.invariant.1)) d.1
