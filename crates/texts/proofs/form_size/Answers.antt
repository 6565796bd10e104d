-- `texts::form_size` meets its contract. By the unit. Assumes nothing.
use Rattle.texts.proofs.Writing.{size-zero, size-one, size-two, size-three}
use Rattle.texts.proofs.form_size.Goals as goal

pub returns-then-unit-eq0 : goal.returns-then-unit-eq0
returns-then-unit-eq0 c = size-zero c.args.unit c.if-unit-eq0.true

pub returns-then-unit-lt128 : goal.returns-then-unit-lt128
returns-then-unit-lt128 c = size-one c.args.unit c.if-unit-eq0.false c.if-unit-lt128.true

pub returns-then-unit-lt2048 : goal.returns-then-unit-lt2048
returns-then-unit-lt2048 c = size-two c.args.unit c.if-unit-lt128.false c.if-unit-lt2048.true

pub returns-else-unit-lt2048 : goal.returns-else-unit-lt2048
returns-else-unit-lt2048 c = size-three c.args.unit c.if-unit-lt2048.false
