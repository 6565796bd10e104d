-- `places::note_slots` meets its contract: the loop has passed the slots before this one, and each turn notes one constant more. Assumes nothing.
use Prim.Native.Nat.{◌-◌, ◌<◌}
use Rattle.places.specs.Noting.{SlotsNoted}
use Rattle.std.specs.Prelude.{None}
use Rattle.places.proofs.Passing.{Passed}
use Rattle.places.proofs.note_slots.Given as goal

abbrev pub invariant-loop-slot : goal.invariant-loop-slot
invariant-loop-slot l = Passed l.bytes l.start l.initial.places l.at l.slot l.places × (l.count < l.slot → SlotsNoted l.bytes l.start (l.count - 1) l.initial.places l.places None)

abbrev pub decreases-loop-slot : goal.decreases-loop-slot
decreases-loop-slot l = l.count - l.slot
