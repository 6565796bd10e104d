-- `job::form_request` meets its contract. Assumes nothing.
use Rattle.std.specs.Prelude.{Err}
use Rattle.std.specs.Result.{result_ok}
use Rattle.std.proofs.Common.{rules}
use Rattle.refusal.specs.Numbers.{number}
use Rattle.refusal.specs.declared.Refusal.TheVariants.{Malformed}
use Rattle.folding.proofs.Constants.{missing}
use mathlib.Core.Path.{◌≡◌, refl, sym, ap, ◌∙◌}
use Rattle.job.proofs.Asking.{request_cut, request_missing, request_good}
use Rattle.job.specs.Forms.{tables_in}
use borrow.Author.Tests.{not-true, not-false}
use borrow.Author.Rules.{rules}
use Rattle.job.proofs.form_request.Goals as goal

pub returns-in_err-request : goal.returns-in_err-request
unfolding number
returns-in_err-request c = let a = c.args in
    let m = missing c.skip_request.result Malformed c.in_err-request.field-0.0 (sym c.ok_or.ensures.value ∙ c.in_err-request.was) in
    let r : c.from_residual.result ≡ Err c.in_err-request.field-0.0 = search rules in
    rw (r ∙ ap Err m.1) (request_cut a.counts a.job.now a.at (rw m.0 at (c.skip_request.ensures (tables_in a.counts) refl)))

pub returns-then-not-request : goal.returns-then-not-request
unfolding number
returns-then-not-request c = let a = c.args in
    let q = c.in_ok-request.request in
    request_missing a.counts a.job.now a.at q.next q.cited q.references (rw (c.ok_or.ensures.ok_part ∙ ap result_ok c.in_ok-request.was) at (c.skip_request.ensures (tables_in a.counts) refl)) (not-true c.in_ok-request.request.cited c.if-not-request.true)

pub returns : goal.returns
returns c = let a = c.args in
    let q = c.in_ok-request.request in
    request_good a.counts a.job.now a.at q.next q.cited q.references (rw (c.ok_or.ensures.ok_part ∙ ap result_ok c.in_ok-request.was) at (c.skip_request.ensures (tables_in a.counts) refl)) (not-false c.in_ok-request.request.cited c.if-not-request.false) c.requires.1
