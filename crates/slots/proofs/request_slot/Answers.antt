-- `slots::request_slot` meets its contract: the check gives what `slot_for` asks, and both ways out are those of `requested`. Assumes nothing.
use mathlib.Core.Path.{sym, ◌∙◌}
use Rattle.slots.proofs.Checks.{checked, request_met, request_none}
use Rattle.slots.proofs.request_slot.Goals as goal

pub slot_for-requires : goal.slot_for-requires
slot_for-requires c = checked _ (sym c.ends_fit.ensures ∙ c.if-ends_fit.true)

pub returns-then-ends_fit : goal.returns-then-ends_fit
returns-then-ends_fit c = request_met _ c.args.p _ _ _ c.ends_fit.ensures _ _ c.if-ends_fit.true c.slot_for.ensures

pub returns-else-ends_fit : goal.returns-else-ends_fit
returns-else-ends_fit c = request_none _ c.args.p _ _ _ c.ends_fit.ensures c.if-ends_fit.false
