-- `job::opening_of` meets its contract. Assumes nothing.
use Rattle.job.proofs.Table.{tag-right}
use Rattle.job.proofs.opening_of.Goals as goal

pub returns-in_default : goal.returns-in_default
returns-in_default c = let other = c.in_default.in_default-own.rest in
    tag-right c.args.first c.shape_of.result c.shape_of.ensures other.0.0.0.0.0.0.0.0.1 other.0.0.0.0.0.0.0.1 other.0.0.0.0.0.0.1 other.0.0.0.0.0.1 other.0.0.0.0.1 other.0.0.0.1 other.0.0.1 other.0.1 other.1
