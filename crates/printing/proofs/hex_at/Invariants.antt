-- `printing::hex_at` meets its contract. The loop keeps: so many last digits are left, the first of which has this unit. Assumes nothing.
use mathlib.Core.Path.{◌≡◌}
use Prim.Native.Nat.{ℕ}
use Rattle.printing.specs.Numbers.{hex_of, unit_of}
use Rattle.printing.proofs.Printing.{Left}
use Rattle.printing.proofs.hex_at.Given as goal

abbrev pub invariant-loop-unit : goal.invariant-loop-unit
invariant-loop-unit l = (k : ℕ) × (l.unit ≡ unit_of k) × Left l.initial.out l.room l.start (hex_of l.count l.n) l.out l.at (hex_of k l.n)

abbrev pub decreases-loop-unit : goal.decreases-loop-unit
decreases-loop-unit l = l.unit
