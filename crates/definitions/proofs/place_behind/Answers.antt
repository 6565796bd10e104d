-- `definitions::place_behind` meets its contract. Assumes nothing.
use Rattle.definitions.proofs.Reading.{behind-yes, behind-no}
use Rattle.definitions.proofs.place_behind.Goals as goal

pub returns-then-counted : goal.returns-then-counted
returns-then-counted c = behind-yes c.args.job.now c.args.at c.after_reference-behind.result c.after_reference-behind.ensures c.args.counted c.if-counted.true

pub returns-else-counted : goal.returns-else-counted
returns-else-counted c = behind-no c.args.job.now c.args.at c.after_reference-behind.result c.after_reference-behind.ensures c.args.counted c.if-counted.false
