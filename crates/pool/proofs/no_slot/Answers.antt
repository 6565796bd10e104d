-- `pool::no_slot` meets its contract. By cases. Assumes nothing.
use Rattle.definition.specs.Building.{no_slot}
use Rattle.refusal.specs.Numbers.{number}
use Rattle.pool.proofs.no_slot.Goals as goal

pub returns-then-ldc : goal.returns-then-ldc
unfolding no_slot number
returns-then-ldc c = rw c.if-ldc.true

pub returns-else-ldc : goal.returns-else-ldc
unfolding no_slot number
returns-else-ldc c = rw c.if-ldc.false
