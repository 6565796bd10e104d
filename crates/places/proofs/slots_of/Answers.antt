-- `places::slots_of` meets its contract: by the test. Assumes nothing.
use mathlib.Core.Path.{sym, ap, ◌∙◌}
use Rattle.places.specs.Noting.{width}
use Rattle.places.proofs.slots_of.Goals as goal

pub returns-then-is_long : goal.returns-then-is_long
returns-then-is_long c = ap width (sym c.if-is_long.true ∙ c.is_long.ensures)

pub returns-else-is_long : goal.returns-else-is_long
returns-else-is_long c = ap width (sym c.if-is_long.false ∙ c.is_long.ensures)
