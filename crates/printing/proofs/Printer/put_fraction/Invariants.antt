-- `Printer::put_fraction` meets its contract. The loop keeps: the fraction is that of the digits that are left. Assumes nothing.
use mathlib.Core.Path.{◌≡◌}
use Prim.Native.Nat.{◌<◌, ◌≤◌}
use Rattle.printing.specs.Numbers.{fraction}
use Rattle.printing.proofs.Printer.put_fraction.Given as goal

abbrev pub invariant-loop-count : goal.invariant-loop-count
invariant-loop-count l = (0 < l.count) × (l.count ≤ l.digits) × (fraction l.count l.m ≡ fraction l.digits l.value)

abbrev pub decreases-loop-count : goal.decreases-loop-count
decreases-loop-count l = l.count
