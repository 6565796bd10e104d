-- `sym_refs::link_references` meets its contract. The loop links the references below i. Assumes nothing.
use lib.ListN.{length}
use mathlib.Core.Path.{◌≡◌}
use Rattle.store.specs.Regions.{GOALS}
use Rattle.store.specs.Store.{store, size}
use Rattle.sym_refs.proofs.Ends.{Linking}
use Rattle.sym_refs.proofs.link_references.Given as goal

abbrev pub invariant-loop-i : goal.invariant-loop-i
invariant-loop-i l = (length l.w ≡ length l.initial.w) × Linking l.job (store l.p l.initial.w) (store l.p l.w) (size l.p GOALS) l.i
