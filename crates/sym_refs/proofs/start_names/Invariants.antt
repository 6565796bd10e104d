-- `sym_refs::start_names` meets its contract. The loop keeps that the names below i lead where they do in a step. Assumes nothing.
use lib.ListN.{length}
use mathlib.Core.Path.{◌≡◌}
use Rattle.store.specs.Regions.{NAME-GOALS}
use Rattle.store.specs.Store.{store, size}
use Rattle.sym_refs.proofs.Rounds.{Starting}
use Rattle.sym_refs.proofs.start_names.Given as goal

abbrev pub invariant-loop-i : goal.invariant-loop-i
invariant-loop-i l = (length l.w ≡ length l.initial.w) × Starting l.job (store l.p l.initial.w) (store l.p l.w) (size l.p NAME-GOALS) l.i
