-- `job::form` meets its contract. Assumes nothing.
use Rattle.std.specs.Prelude.{Err}
use Rattle.std.proofs.Common.{rules}
use Rattle.refusal.specs.Numbers.{told_of}
use Rattle.job.specs.Forms.{told}
use Rattle.job.proofs.Whole.{whole-bad, whole-good}
use mathlib.Core.Path.{◌≡◌, sym, ap, ◌∙◌}
use Rattle.job.proofs.form.Goals as goal

pub returns-in_err-defined : goal.returns-in_err-defined
unfolding told_of
returns-in_err-defined c =
    let f = c.in_err-defined.field-0.0 in
    let r : c.from_residual.result ≡ Err f = search rules in
    ap told_of r ∙ sym (whole-bad c.args.job.now (told f) c.in_err-defined.ensures.job_value)

pub returns : goal.returns
returns c =
    let d = c.in_ok-defined in
    c.form_requests.ensures ∙ sym (whole-good c.args.job.now d.defined.counts d.defined.next d.ensures.job_value)
