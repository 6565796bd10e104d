-- `rows::index_of` meets its contract. Assumes nothing.
use native.Mathlib.Omega.{arith}
use mathlib.Core.Path.{◌∙◌}
use Rattle.rows.proofs.Reading.{less_link}
use Rattle.rows.proofs.index_of.Goals as goal

pub returns : goal.returns
returns c = let e = less_link c.checked_sub.result c.index_word.result c.checked_sub.ensures ∙ c.index_word.ensures.0 in (e, omega (arith, e, c.index_word.ensures.0, c.index_word.ensures.1))
