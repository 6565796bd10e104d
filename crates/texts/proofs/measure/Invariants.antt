-- `texts::measure` meets its contract. The loop keeps: the size so far, with that of the text of the units that are left, is the whole text's. Assumes nothing.
use mathlib.Core.Path.{◌≡◌}
use Prim.Native.Nat.{◌+◌, ◌≤◌}
use lib.ListN.{length, drop}
use Rattle.definition.specs.Texts.{text_of}
use Rattle.texts.proofs.measure.Given as goal

abbrev pub invariant-loop-unit : goal.invariant-loop-unit
invariant-loop-unit l = (l.size ≤ l.room) × (l.size + length (text_of (drop l.unit-index l.units)) ≡ length (text_of l.units))
