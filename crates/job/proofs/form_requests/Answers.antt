-- `job::form_requests` meets its contract. Assumes nothing.
use Rattle.refusal.specs.Numbers.{number, told_of}
use Rattle.job.specs.Forms.{place_of}
use Rattle.job.proofs.Passes.{placed_good, placed_bad, requests_end, requests_bad, requests_next, requests_none}
use Rattle.std.specs.Prelude.{Ok}
use Rattle.std.proofs.Common.{rules}
use Rattle.std.specs.Result.{MatchResult, IsErrAnd}
use Rattle.std.proofs.lemmas.Result.{err_from_is_err_and}
use mathlib.Core.Path.{◌≡◌, refl, sym, ◌∙◌}
use native.Mathlib.Omega.{arith}
use Rattle.job.proofs.form_requests.Goals as goal

pub loop-at-init : goal.loop-at-init
loop-at-init c = (c.requires.0, c.requires.1, refl)

pub form_build-requires : goal.form_build-requires
form_build-requires c = (omega arith, omega (arith, c.loop-at.invariant.1))

pub returns-then-job-at-eq96 : goal.returns-then-job-at-eq96
returns-then-job-at-eq96 c = let s = c.args.job.now in
    let l = c.loop-at in
    c.form_build.ensures
    ∙ sym (requests_end s l.at l.counts c.loop-at-test.true (omega (arith, l.invariant.1)) c.if-job-at-eq96.true)
    ∙ l.invariant.2

pub form_request-requires : goal.form_request-requires
form_request-requires c = (c.loop-at-test.true, c.loop-at.invariant.1)

pub loop-at-smaller : goal.loop-at-smaller
loop-at-smaller c =
    let mapped : MatchResult c.form_request.result (λ x. c.map_err.result ≡ Ok x) (λ e. IsErrAnd c.map_err.result (λ q. q ≡ record { refusal = e; place = c.place_of-place.result })) = search rules in
    let good = placed_good c.form_request.result c.map_err.result c.place_of-place.result mapped c.in_ok-step.step c.in_ok-step.was in
    let m = rw good at c.form_request.ensures in
    omega (arith, m.past, c.loop-at-test.true)

pub loop-at-preserved : goal.loop-at-preserved
loop-at-preserved c =
    let l = c.loop-at in
    let step = c.in_ok-step.step in
    let mapped : MatchResult c.form_request.result (λ x. c.map_err.result ≡ Ok x) (λ e. IsErrAnd c.map_err.result (λ q. q ≡ record { refusal = e; place = c.place_of-place.result })) = search rules in
    let good = placed_good c.form_request.result c.map_err.result c.place_of-place.result mapped step c.in_ok-step.was in
    let m = rw good at c.form_request.ensures in (
      m.within,
      m.bounded,
      sym (requests_next c.args.job.now l.at l.counts c.loop-at-test.true (omega (arith, l.invariant.1)) step.next step.counts c.if-job-at-eq96.false m)
          ∙ l.invariant.2,
    )

pub returns-in_err-step : goal.returns-in_err-step
unfolding told_of
returns-in_err-step c =
    let l = c.loop-at in
    let r = err_from_is_err_and c.from_residual.result c.from_residual.ensures.1 in
    let mapped : MatchResult c.form_request.result (λ x. c.map_err.result ≡ Ok x) (λ e. IsErrAnd c.map_err.result (λ q. q ≡ record { refusal = e; place = place_of l.counts })) = search rules in
    let m = placed_bad c.form_request.result c.map_err.result (place_of l.counts) mapped c.in_err-step.field-0.0 c.in_err-step.was in
    rw (r.1, r.2, m.2)
    (sym (requests_bad c.args.job.now l.at l.counts c.loop-at-test.true (omega (arith, l.invariant.1)) (number m.0) c.if-job-at-eq96.false
    (rw m.1 at c.form_request.ensures))
    ∙ l.invariant.2)

pub place_of-place-requires : goal.place_of-place-requires
place_of-place-requires c = let l = c.loop-at in omega (arith, l.invariant.0, l.invariant.1, c.well_formed)

pub place_of-requires : goal.place_of-requires
place_of-requires c = let l = c.loop-at in omega (arith, l.invariant.0, l.invariant.1, c.well_formed)

pub returns : goal.returns
unfolding told_of number
returns c = let l = c.loop-at in
    rw c.place_of.ensures
    (sym (requests_none c.args.job.now l.at l.counts c.loop-at-test.false) ∙ l.invariant.2)
