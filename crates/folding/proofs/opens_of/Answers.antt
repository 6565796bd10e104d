-- `folding::opens_of` meets its contract. Assumes nothing.
use Rattle.folding.proofs.Reading.{no_opening}
use Rattle.folding.specs.Folding.{opens}
use Rattle.folding.proofs.opens_of.Goals as goal

pub returns-in_default : goal.returns-in_default
unfolding opens
returns-in_default c = let other = c.in_default.in_default-own.rest in
    no_opening c.args.first other.0.0.0.0.0.0.0.1 other.0.0.0.0.0.0.1 other.0.0.0.0.0.1 other.0.0.0.0.1 other.0.0.0.1 other.0.0.1 other.0.1 other.1
