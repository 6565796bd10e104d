-- `job::form_build` meets its contract. Assumes nothing.
use Rattle.std.specs.Prelude.{Err}
use Rattle.std.specs.Result.{result_ok}
use Rattle.std.proofs.Common.{rules}
use Rattle.refusal.specs.Numbers.{number, told_of}
use Rattle.refusal.specs.declared.Refusal.TheVariants.{Malformed}
use Rattle.folding.proofs.Constants.{missing}
use mathlib.Core.Path.{◌≡◌, sym, ap, ◌∙◌}
use Rattle.job.proofs.Asking.{built_cut, built_missing, built_behind, built}
use Rattle.job.specs.Forms.{place_of}
use borrow.Author.Tests.{not-true, not-false}
use native.Mathlib.Numerals.{add-one}
use borrow.Author.Rules.{rules}
use Rattle.job.proofs.form_build.Goals as goal

pub returns-in_err-build : goal.returns-in_err-build
unfolding told_of number
returns-in_err-build c = let a = c.args in
    let m = missing c.skip_build.result (record { refusal = Malformed; place = c.place_of-place.result }) c.in_err-build.field-0.0 (sym c.ok_or.ensures.value ∙ c.in_err-build.was) in
    let r : c.from_residual.result ≡ Err c.in_err-build.field-0.0 = search rules in
    rw (r ∙ ap Err m.1, c.place_of-place.ensures) (sym (built_cut a.counts (place_of a.counts) a.job.now a.at (rw m.0 at c.skip_build.ensures)))

pub returns-then-not-build : goal.returns-then-not-build
unfolding told_of number
returns-then-not-build c = let a = c.args in
    let q = c.in_ok-build.build in
    rw c.place_of-place.ensures
    (sym (built_missing a.counts (place_of a.counts) a.job.now a.at q.next q.cited q.references (rw (c.ok_or.ensures.ok_part ∙ ap result_ok c.in_ok-build.was) at c.skip_build.ensures) (not-true c.in_ok-build.build.cited c.if-not-build.true)))

pub returns-then-build-job : goal.returns-then-build-job
unfolding told_of number
returns-then-build-job c = let a = c.args in
    let q = c.in_ok-build.build in
    rw (c.place_of-place.ensures, add-one)
    (sym (built_behind a.counts (place_of a.counts) a.job.now a.at q.next q.cited q.references (rw (c.ok_or.ensures.ok_part ∙ ap result_ok c.in_ok-build.was) at c.skip_build.ensures) (not-false c.in_ok-build.build.cited c.if-not-build.false) c.if-build-job.true))

pub returns : goal.returns
unfolding told_of
returns c = let a = c.args in
    let q = c.in_ok-build.build in
    sym (built a.counts (place_of a.counts) a.job.now a.at q.next q.cited q.references (rw (c.ok_or.ensures.ok_part ∙ ap result_ok c.in_ok-build.was) at c.skip_build.ensures) (not-false c.in_ok-build.build.cited c.if-not-build.false) c.if-build-job.false)
