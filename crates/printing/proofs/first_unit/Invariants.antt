-- `printing::first_unit` meets its contract. The loop keeps: the unit of the first of so many digits. Assumes nothing.
use mathlib.Core.Path.{◌≡◌}
use Rattle.printing.specs.Numbers.{unit_of}
use Rattle.printing.proofs.first_unit.Given as goal

abbrev pub invariant-loop-digit : goal.invariant-loop-digit
invariant-loop-digit l = l.unit ≡ unit_of l._digit
