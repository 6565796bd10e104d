-- `sym_refs::jump_names` meets its contract. The loop keeps that each name leads at least its span, and twice the span below i. Assumes nothing.
use lib.ListN.{length}
use mathlib.Core.Path.{◌≡◌}
use mathlib.Core.List.{[], ◌∷◌}
use Rattle.store.specs.Regions.{NAME-GOALS}
use Rattle.store.specs.Store.{store, size, Kept}
use Rattle.sym_refs.proofs.Jumping.{Turning}
use Rattle.sym_refs.proofs.jump_names.Given as goal

abbrev pub invariant-loop-i : goal.invariant-loop-i
invariant-loop-i l = (length l.w ≡ length l.initial.w) × Turning (size l.p NAME-GOALS) (store l.p l.initial.w NAME-GOALS) (store l.p l.w NAME-GOALS) l.i l.left × Kept (NAME-GOALS ∷ []) (store l.p l.initial.w) (store l.p l.w)
