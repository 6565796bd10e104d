-- `texts::count_units` meets its contract. The loop keeps: the units counted, and those of the bytes that are left. Assumes nothing.
use mathlib.Core.Path.{◌≡◌}
use Prim.Native.Nat.{◌-◌, ◌≤◌}
use lib.ListN.{length, drop}
use Rattle.definition.specs.Texts.{units_of}
use Rattle.texts.specs.Forms.{count_of}
use Rattle.texts.proofs.Reading.{counted}
use Rattle.texts.proofs.count_units.Given as goal

abbrev pub invariant-loop-form : goal.invariant-loop-form
invariant-loop-form l = (l.at ≤ length l.text) × (l.n ≤ l.at) × (count_of (units_of l.text) ≡ counted l.n (units_of (drop l.at l.text)))

abbrev pub decreases-loop-form : goal.decreases-loop-form
decreases-loop-form l = length l.text - l.at
