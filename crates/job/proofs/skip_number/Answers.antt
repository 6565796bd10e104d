-- `job::skip_number` meets its contract. Assumes nothing.
use Rattle.job.proofs.Laws.{two-cut, skips_two}
use lib.Dec.{ltb}
use Rattle.job.proofs.skip_number.Goals as goal

pub returns-in_err-number : goal.returns-in_err-number
returns-in_err-number c = rw c.from_residual.ensures (two-cut c.args.job.now c.args.at c.in_err-number.ensures)

pub returns : goal.returns
returns c = rw c.in_ok-number.ensures.1 (skips_two c.args.job.now c.args.at (λ m. ltb m c.args.entries) c.in_ok-number.ensures.0)
