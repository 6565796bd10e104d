-- `pool::too_high` meets its contract. By cases. Assumes nothing.
use mathlib.Core.Path.{sym, ◌∙◌}
use Rattle.facts.proofs.Lists.{true≢false}
use Rattle.pool.proofs.Asked.{low-not, low-high, low-low}
use Rattle.pool.proofs.too_high.Goals as goal

pub returns-then-ldc : goal.returns-then-ldc
returns-then-ldc c = let a = c.args in (λ t. rw c.if-ldc.true (low-high a.slot t), λ t. rw c.if-ldc.true (low-low a.slot t))

pub returns-else-ldc : goal.returns-else-ldc
returns-else-ldc c = let a = c.args in (λ t. true≢false (sym t ∙ c.if-ldc.false), λ t. rw c.if-ldc.false (low-not a.slot))
