-- `folding::fold` ends: each call within it may nest one less. Assumes nothing.
use Rattle.folding.proofs.+fold.Given as goal

abbrev pub decreases-fold : goal.decreases-fold
decreases-fold l = l.deep
