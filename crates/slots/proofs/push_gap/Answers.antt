-- `slots::push_gap` meets its contract: by `push_none` and `push_some`. Assumes nothing.
use Rattle.slots.proofs.Writing.{push_none, push_some}
use Rattle.slots.proofs.push_gap.Goals as goal

pub returns-then-first-next : goal.returns-then-first-next
returns-then-first-next c = push_none _ _ _ _ c.requires.0 c.if-first-next.true

pub returns : goal.returns
returns c = push_some _ _ _ _ c.requires.0 c.if-first-next.false (c.requires.1 c.if-first-next.false)
