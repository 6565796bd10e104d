-- `job::next_definition` meets its contract. Assumes nothing.
use Rattle.refusal.specs.Numbers.{number}
use Rattle.std.specs.Prelude.{◌≡◌, Ok}
use Rattle.std.proofs.Common.{rules}
use Rattle.std.specs.Result.{MatchResult, IsErrAnd}
use Rattle.std.proofs.lemmas.Result.{err_from_is_err_and}
use native.Mathlib.Omega.{arith}
use Rattle.job.proofs.Passes.{placed_bad, definitions_none, definitions_bad}
use Rattle.job.proofs.next_definition.Goals as goal

pub returns-then-job-so_far : goal.returns-then-job-so_far
unfolding number
returns-then-job-so_far c b = let p = c.args.so_far in definitions_none c.args.job.now p.next p.counts b (omega arith)

pub returns-in_err-step : goal.returns-in_err-step
returns-in_err-step c =
    let p = c.args.so_far in
    let r = err_from_is_err_and c.from_residual.result c.from_residual.ensures.1 in
    let mapped : MatchResult c.form_definition.result (λ x. c.map_err.result ≡ Ok x) (λ e. IsErrAnd c.map_err.result (λ q. q ≡ record { refusal = e; place = p.counts.definitions })) = search rules in
    let m = placed_bad c.form_definition.result c.map_err.result p.counts.definitions mapped c.in_err-step.field-0.0 c.in_err-step.was in
    rw (r.1, r.2, m.2)
    (λ b.
    definitions_bad c.args.job.now p.next p.counts b (omega (arith, c.requires.0)) (omega (arith, c.requires.1)) c.if-job-so_far-eq80.false (number m.0) (rw m.1 at c.form_definition.ensures))
