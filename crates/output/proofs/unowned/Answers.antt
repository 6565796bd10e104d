-- `output::unowned` meets its contract. Assumes nothing.
use mathlib.Core.Path.{refl, sym}
use Rattle.output.proofs.Holding.{link_wide, link_empty}
use Rattle.output.proofs.unowned.Goals as goal

pub returns-then-wide : goal.returns-then-wide
returns-then-wide c = sym (link_wide c.args.wide 0 refl c.if-wide.true)

pub returns-else-wide : goal.returns-else-wide
returns-else-wide c = sym (link_empty c.args.wide 0 refl c.if-wide.false)
