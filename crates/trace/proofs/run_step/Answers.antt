-- `trace::run_step` meets its contract, one law for each way through it. Assumes nothing.
use Rattle.trace.proofs.Stepping.{step-clears, step_set, step_right, step-wrong}
use Rattle.trace.proofs.run_step.Goals as goal

pub returns-then-action-eq-CLEAR : goal.returns-then-action-eq-CLEAR
returns-then-action-eq-CLEAR c = let told = step-clears c.args.action c.args.slot c.args.flags.now c.args.right c.if-action-eq-CLEAR.true in record { value = told.0; flags_after = told.1 }

pub returns-then-flags-slot-ne0 : goal.returns-then-flags-slot-ne0
returns-then-flags-slot-ne0 c = let told = step_set c.args.action c.args.slot c.args.flags.now c.requires.0 c.if-action-eq-CLEAR.false c.args.right c.if-flags-slot-ne0.true in record { value = told.0; flags_after = told.1 }

pub returns-then-right : goal.returns-then-right
returns-then-right c = let told = step_right c.args.action c.args.slot c.args.flags.now c.requires.0 c.if-action-eq-CLEAR.false c.args.right c.if-flags-slot-ne0.false c.if-right.true in record { value = told.0; flags_after = told.1 }

pub returns-else-right : goal.returns-else-right
returns-else-right c = let told = step-wrong c.args.action c.args.slot c.args.flags.now c.requires.0 c.if-action-eq-CLEAR.false c.args.right c.if-flags-slot-ne0.false c.if-right.false in record { value = told.0; flags_after = told.1 }
