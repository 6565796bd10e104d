-- `slots::slot_for` meets its contract: `slot_for` goes by the same test. Assumes nothing.
use Rattle.definition.specs.Slots.{slot_for}
use Rattle.slots.proofs.slot_for.Goals as goal

pub returns-then-wide : goal.returns-then-wide
unfolding slot_for
returns-then-wide c = rw (c.if-wide.true, slot_for) c.take_wide.ensures

pub returns-else-wide : goal.returns-else-wide
unfolding slot_for
returns-else-wide c = rw (c.if-wide.false, slot_for) c.take_narrow.ensures
