-- `job::form_held` meets its contract. Assumes nothing.
use Rattle.std.specs.Prelude.{Err}
use Rattle.std.proofs.Common.{rules}
use Rattle.refusal.specs.Numbers.{told_of}
use Rattle.definition.specs.Basics.{only}
use Rattle.definition.specs.Numbering.{entries, constants_of, bootstraps_of, settings}
use Rattle.definition.specs.Settings.{highest_of}
use Rattle.job.specs.Forms.{as_broken, counts_of, references_in, version_from, defined_as, told}
use Rattle.job.proofs.Passes.{definitions_start, definitions_end, definitions_held, definitions_broken, moved_text}
use native.Mathlib.Omega.{arith}
use mathlib.Core.Path.{◌≡◌, sym, ap, ◌∙◌}
use Rattle.job.proofs.form_held.Goals as goal

pub loop-step-init : goal.loop-step-init
unfolding counts_of constants_of bootstraps_of entries only references_in version_from settings highest_of as_broken
loop-step-init c = rw c.nothing_yet.ensures (omega arith, omega arith, definitions_start c.args.job.now)

pub is_broken-here-requires : goal.is_broken-here-requires
is_broken-here-requires c =
    let l = c.loop-step in
    let d = rw c.in-Some.is at c.in_ok-step.ensures in
    (d.low, d.moved.within, moved_text c.args.job.now l.so_far.next l.so_far.counts d.low (omega (arith, l.invariant.1)) d.other c.in-Some.step.next c.in-Some.step.counts d.moved)

pub returns-in_err-texts_hold-clause-job_value : goal.returns-in_err-texts_hold-clause-job_value
unfolding told_of
returns-in_err-texts_hold-clause-job_value c =
    let l = c.loop-step in
    let d = rw c.in-Some.is at c.in_ok-step.ensures in
    let f = c.in_err-texts_hold.field-0.0 in
    let r : c.from_residual-in_err-texts_hold.result ≡ Err f = search rules in
    sym l.invariant.2
    ∙ definitions_broken c.args.job.now l.so_far.next l.so_far.counts d.low (omega (arith, l.invariant.1)) d.other c.in-Some.step.next c.in-Some.step.counts d.moved
    l.broken c.is_broken-here.result c.first_broken-broken.result c.is_broken-here.ensures c.first_broken-broken.ensures (told f) (sym c.in_err-texts_hold.ensures)
    ∙ ap (defined_as c.args.job.now) (sym r)

pub loop-step-preserved : goal.loop-step-preserved
unfolding told_of
loop-step-preserved c =
    let l = c.loop-step in
    let d = rw c.in-Some.is at c.in_ok-step.ensures in (
      d.moved.within,
      d.moved.bounded,
      sym (definitions_held c.args.job.now l.so_far.next l.so_far.counts d.low (omega (arith, l.invariant.1)) d.other c.in-Some.step.next c.in-Some.step.counts d.moved
          l.broken c.is_broken-here.result c.first_broken-broken.result c.is_broken-here.ensures c.first_broken-broken.ensures (sym c.in_ok-texts_hold.ensures))
          ∙ l.invariant.2,
    )

pub returns-clause-job_value : goal.returns-clause-job_value
returns-clause-job_value c =
    let l = c.loop-step in
    let d = rw c.in_default.is at c.in_ok-step.ensures in
    sym l.invariant.2 ∙ definitions_end c.args.job.now l.so_far.next l.so_far.counts (as_broken l.broken) d.0 (omega (arith, l.invariant.1)) d.1
