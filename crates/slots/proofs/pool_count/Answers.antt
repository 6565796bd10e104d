-- `slots::pool_count` meets its contract: by the last gap alone, since the gaps' ends rise. Assumes nothing.
use Rattle.slots.proofs.Counting.{last_hit, last_past, last_none}
use Rattle.slots.proofs.pool_count.Goals as goal
use Rattle.slots.proofs.pool_count.Goals.{in_default-via-in-Some+else-gap-top, in_default-via-in_default}

pub returns-in-Some : goal.returns-in-Some
returns-in-Some c = last_hit _ _ c.requires.0 c.in-Some.gap.now c.in-Some.ensures.value c.if-gap-top.true

pub returns-in_default : goal.returns-in_default
returns-in_default c =
    elim c.in_default.branch [
      | in_default-via-in-Some+else-gap-top w ↦ last_past _ _ c.requires.0 w.in-Some.gap.now w.in-Some.ensures.value w.if-gap-top.false
      | in_default-via-in_default w ↦ last_none _ _ c.requires.0 w.in_default.ensures.value
    ]
