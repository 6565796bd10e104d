-- `job::skip_raw_slot` meets its contract. Assumes nothing.
use Rattle.job.proofs.Laws.{two-cut, skips_two}
use mathlib.Core.Bool.{true}
use Rattle.job.proofs.skip_raw_slot.Goals as goal

pub returns-in_err-number_at : goal.returns-in_err-number_at
returns-in_err-number_at c = rw c.from_residual.ensures (two-cut c.args.job.now c.args.at c.in_err-number_at.ensures)

pub returns : goal.returns
returns c = rw c.bare.ensures (skips_two c.args.job.now c.args.at (λ _. true) c.in_ok-number_at.ensures.0)
