-- The second table, computed. Assumes nothing.
use mathlib.Core.List.{map}
use mathlib.Core.Path.{◌≡◌, refl}
use Rattle.definition.specs.Opened.{opened}
use Rattle.definition.specs.SecondTable.{second}
use Rattle.definition.specs.Starred.{digit, bytes, prints, stated}

-- every job of the table gives what the module gives
pub second_hold : map prints second ≡ map stated second
unfolding opened digit bytes prints stated second
second_hold = refl
