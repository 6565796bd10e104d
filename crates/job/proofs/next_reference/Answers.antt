-- `job::next_reference` meets its contract. Assumes nothing.
use native.Mathlib.Nat.{add-zero}
use mathlib.Core.Bool.{true, false}
use Rattle.job.proofs.Stored.{next-by}
use Rattle.job.proofs.next_reference.Goals as goal

pub returns-then-tag_at-i : goal.returns-then-tag_at-i
returns-then-tag_at-i c = let a = c.args in
    next-by a.job.now a.at _ a.i a.from _ c.tag_at.ensures c.after_reference-behind.ensures true c.if-tag_at-i.true

pub returns-else-tag_at-i : goal.returns-else-tag_at-i
returns-else-tag_at-i c = let a = c.args in
    rw (add-zero _) at (next-by a.job.now a.at _ a.i a.from _ c.tag_at.ensures c.after_reference-behind.ensures false c.if-tag_at-i.false)
