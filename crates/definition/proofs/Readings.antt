-- The tables of document 02's open points, computed. Assumes nothing.
use mathlib.Core.List.{map}
use mathlib.Core.Path.{◌≡◌, refl}
use Rattle.definition.specs.Opened.{opened}
use Rattle.definition.specs.Readings.{marked, limited, dated, spelled, pointed, worked}
use Rattle.definition.specs.Starred.{digit, bytes, prints, stated}

-- every job of No. 6 has the marks of the reading chosen
pub marked_hold : map prints marked ≡ map stated marked
unfolding opened digit bytes prints stated marked
marked_hold = refl

-- every job of No. 10 prints what the reading chosen gives
pub limited_hold : map prints limited ≡ map stated limited
unfolding opened digit bytes prints stated limited
limited_hold = refl

-- every job of No. 5
pub dated_hold : map prints dated ≡ map stated dated
unfolding opened digit bytes prints stated dated
dated_hold = refl

-- every job of No. 8
pub spelled_hold : map prints spelled ≡ map stated spelled
unfolding opened digit bytes prints stated spelled
spelled_hold = refl

-- every job of No. 9
pub pointed_hold : map prints pointed ≡ map stated pointed
unfolding opened digit bytes prints stated pointed
pointed_hold = refl

-- every job of No. 3
pub worked_hold : map prints worked ≡ map stated worked
unfolding opened digit bytes prints stated worked
worked_hold = refl
