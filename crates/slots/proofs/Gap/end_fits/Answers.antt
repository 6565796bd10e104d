-- `slots::Gap::end_fits` meets its contract. Assumes nothing.
use borrow.Author.Rules.{rules}
use Rattle.slots.specs.Gaps.{gap_of, end_fits}
use Rattle.slots.proofs.Gap.end_fits.Goals as goal

pub returns : goal.returns
unfolding end_fits gap_of
returns c = search rules
