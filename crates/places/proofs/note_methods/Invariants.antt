-- `places::note_methods` meets its contract: the loop has passed the methods before this one, and each turn notes one more. Assumes nothing.
use Rattle.places.proofs.Methods.{Passed}
use Rattle.places.proofs.note_methods.Given as goal

abbrev pub invariant-loop-i : goal.invariant-loop-i
invariant-loop-i l = Passed l.bytes l.initial.places l.at l.i l.places
