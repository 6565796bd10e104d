-- `interner::literal_size` meets its contract. Assumes nothing.
use mathlib.Core.Path.{sym, ◌∙◌}
use Rattle.interner.proofs.Runs.{spans_long}
use Rattle.interner.proofs.Words.{size-wide, size-narrow}
use Rattle.interner.proofs.literal_size.Goals as goal

pub returns-then-is_long : goal.returns-then-is_long
returns-then-is_long c = let a = c.args in size-wide a.job.now a.at c.tag_at.result c.tag_at.ensures (sym c.is_worked.ensures ∙ c.if-is_worked.true) (sym c.is_long.ensures ∙ c.if-is_long.true)

pub returns-else-is_long : goal.returns-else-is_long
returns-else-is_long c = let a = c.args in size-narrow a.job.now a.at c.tag_at.result c.tag_at.ensures (sym c.is_worked.ensures ∙ c.if-is_worked.true) (sym c.is_long.ensures ∙ c.if-is_long.false)

pub returns : goal.returns
returns c = λ x next f. sym (spans_long c.args.job.now c.literal_at-s.result x.literal (c.literal_at-s.ensures x next f))
