-- `slots::Gap::is_odd` meets its contract: by the gap's slots. Assumes nothing.
use Rattle.definition.specs.Slots.{is_odd}
use Rattle.slots.proofs.Gap.is_odd.Goals as goal

pub returns : goal.returns
unfolding is_odd
returns c = rw c.len.ensures
