-- `job::skip_reference` meets its contract. Assumes nothing.
use Rattle.definition.specs.Job.{reference_form, reference}
use Rattle.definition.specs.Form.{cites}
use Rattle.std.specs.Prelude.{None}
use Rattle.job.proofs.Laws.{then_one, none-one, reference-to}
use native.Mathlib.Omega.{arith}
use Rattle.job.proofs.skip_reference.Goals as goal

pub returns-then-job-at : goal.returns-then-job-at
unfolding reference
returns-then-job-at c kind n e = none-one (cites n) (λ _. 1) c.args.job.now c.args.at (reference_form kind) (omega arith)

pub returns-in_err-reference : goal.returns-in_err-reference
unfolding reference
returns-in_err-reference c kind n e =
    rw c.from_residual.ensures
    (then_one (cites n) (λ _. 1) c.args.job.now c.args.at (reference_form kind) None (omega arith) (rw c.in_err-reference.was at (c.skip_form.ensures kind n e)))

pub returns : goal.returns
returns c kind n e =
    let r = c.in_ok-reference.reference in
    reference-to c.args.job.now c.args.at kind n r.next r.cited r.references (omega arith) (rw c.in_ok-reference.was at (c.skip_form.ensures kind n e))
