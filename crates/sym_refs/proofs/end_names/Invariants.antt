-- `sym_refs::end_names` meets its contract. The loop ends the words below i. Assumes nothing.
use lib.ListN.{length}
use mathlib.Core.Path.{◌≡◌}
use Rattle.store.specs.Regions.{NAME-GOALS}
use Rattle.store.specs.Store.{store, size}
use Rattle.sym_refs.proofs.Rounds.{Finishing}
use Rattle.sym_refs.proofs.end_names.Given as goal

abbrev pub invariant-loop-i : goal.invariant-loop-i
invariant-loop-i l = (length l.w ≡ length l.initial.w) × Finishing (store l.p l.initial.w) (store l.p l.w) (size l.p NAME-GOALS) l.i
