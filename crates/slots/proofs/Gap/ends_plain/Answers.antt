-- `slots::Gap::ends_plain` meets its contract: at a gap that is too high, and else by its slots. Assumes nothing.
use mathlib.Core.Path.{refl, sym, ◌∙◌}
use Rattle.slots.proofs.Scans.{high_ends, low-ends}
use Rattle.slots.proofs.Gap.ends_plain.Goals as goal

pub returns-then-is_too_high : goal.returns-then-is_too_high
returns-then-is_too_high c = c.if-is_too_high.true ∙ sym (high_ends _ _ _ c.is_too_high.ensures c.if-is_too_high.true)

pub returns-else-is_too_high : goal.returns-else-is_too_high
returns-else-is_too_high c = sym (low-ends _ _ _ c.is_too_high.ensures _ _ c.if-is_too_high.false c.len.ensures refl)
