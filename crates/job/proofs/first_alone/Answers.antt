-- `job::first_alone` meets its contract. Assumes nothing.
use Rattle.refusal.specs.Numbers.{code_of, number}
use Rattle.definition.specs.Settings.{is_slot}
use Rattle.job.proofs.Faults.{highest_late, highest_is, highest_not}
use Rattle.job.proofs.first_alone.Goals as goal

pub returns-then-records-ne0 : goal.returns-then-records-ne0
unfolding code_of number
returns-then-records-ne0 c = highest_late c.args.records c.args.number c.if-records-ne0.true

pub returns-then-number : goal.returns-then-number
unfolding is_slot code_of number
returns-then-number c = highest_is c.args.records c.args.number c.if-records-ne0.false c.if-number.true

pub returns-else-number : goal.returns-else-number
unfolding is_slot code_of number
returns-else-number c = highest_not c.args.records c.args.number c.if-records-ne0.false c.if-number.false
