-- `slots::Gap::is_too_high` meets its contract: the two tests are those of `too_high`. Assumes nothing.
use Rattle.definition.specs.Slots.{too_high}
use Rattle.slots.specs.Gaps.{gap_of}
use Rattle.slots.proofs.Gap.is_too_high.Goals as goal

pub returns-then-ldc : goal.returns-then-ldc
unfolding too_high gap_of
returns-then-ldc c = rw c.if-ldc.true

pub returns-else-ldc : goal.returns-else-ldc
unfolding too_high gap_of
returns-else-ldc c = rw c.if-ldc.false
