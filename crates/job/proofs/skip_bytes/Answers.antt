-- `job::skip_bytes` meets its contract. Assumes nothing.
use Rattle.job.proofs.Laws.{skips_bytes, cuts_bytes}
use Rattle.job.proofs.skip_bytes.Goals as goal

pub returns-then-n-job : goal.returns-then-n-job
returns-then-n-job c = rw c.bare.ensures (skips_bytes c.args.job.now c.args.at c.args.n c.requires c.if-n-job.true)

pub returns-else-n-job : goal.returns-else-n-job
returns-else-n-job c = cuts_bytes c.args.job.now c.args.at c.args.n c.if-n-job.false
