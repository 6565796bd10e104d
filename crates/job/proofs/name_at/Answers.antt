-- `job::name_at` meets its contract. Assumes nothing.
use Rattle.job.proofs.Stored.{name_spans}
use Rattle.job.proofs.name_at.Goals as goal

pub returns : goal.returns
returns c = let a = c.args in name_spans a.job.now a.at
