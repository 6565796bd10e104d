-- `texts::put_units` meets its contract. The loop keeps: the first n units are written, and the others are those of the bytes that are left. Assumes nothing.
use mathlib.Core.Option.{some}
use mathlib.Core.Path.{◌≡◌}
use Prim.Native.Nat.{◌-◌, ◌≤◌}
use lib.ListN.{length, take, drop}
use Rattle.definition.specs.Run.{overwrite}
use Rattle.definition.specs.Texts.{units_of}
use Rattle.texts.specs.Forms.{held}
use Rattle.texts.proofs.put_units.Given as goal

abbrev pub invariant-loop-form : goal.invariant-loop-form
invariant-loop-form l = (l.at ≤ length l.text) × (l.n ≤ length (held l.text)) × (units_of (drop l.at l.text) ≡ some (drop l.n (held l.text)))
    × (l.units ≡ overwrite (take l.n (held l.text)) l.initial.units) × (length l.units ≡ length l.initial.units)

abbrev pub decreases-loop-form : goal.decreases-loop-form
decreases-loop-form l = length l.text - l.at
