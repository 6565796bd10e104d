-- `slots::Gap::len` meets its contract: a gap's slots are counted as `size` does. Assumes nothing.
use native.Mathlib.Omega.{arith}
use Rattle.definition.specs.Slots.{size}
use Rattle.slots.specs.Gaps.{gap_of}
use Rattle.slots.proofs.Gap.len.Goals as goal

pub returns : goal.returns
unfolding size gap_of
returns c = omega arith
