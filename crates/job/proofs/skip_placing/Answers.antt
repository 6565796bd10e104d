-- `job::skip_placing` meets its contract. Assumes nothing.
use Rattle.job.proofs.Records.{placing_cut, placing_to}
use Rattle.job.proofs.skip_placing.Goals as goal

pub returns-in_err-number_at : goal.returns-in_err-number_at
returns-in_err-number_at c kind n e = rw c.from_residual.ensures (placing_cut n c.args.job.now c.args.at kind c.in_err-number_at.ensures)

pub returns : goal.returns
returns c kind n e = placing_to n c.args.job.now c.args.at kind c.args.entries c.skip_number.result e c.in_ok-number_at.ensures.0 c.skip_number.ensures
