-- `blocks::blocks_for` meets its contract. By cases on the length, as the definition. Assumes nothing.
use Rattle.definition.specs.Blocks.{blocks_for}
use Rattle.blocks.proofs.Writing.{blocks_for-some}
use Rattle.blocks.proofs.blocks_for.Goals as goal

pub returns-then-size-eq0 : goal.returns-then-size-eq0
unfolding blocks_for
returns-then-size-eq0 c = rw c.if-size-eq0.true

pub returns-else-size-eq0 : goal.returns-else-size-eq0
returns-else-size-eq0 c = blocks_for-some c.args.size c.if-size-eq0.false
