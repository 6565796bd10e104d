-- `sym_refs::resolve_names` meets its contract. The loop keeps that each name leads at least `span` steps, until that is past the number of names. Assumes nothing.
use Prim.Native.Nat.{◌-◌, ◌+◌}
use lib.ListN.{length}
use mathlib.Core.Path.{◌≡◌}
use Rattle.store.specs.Regions.{NAME-GOALS}
use Rattle.store.specs.Store.{store, size}
use Rattle.sym_refs.proofs.Rounds.{Following}
use Rattle.sym_refs.proofs.resolve_names.Given as goal

abbrev pub invariant-loop-span : goal.invariant-loop-span
invariant-loop-span l = (length l.w ≡ length l.initial.w) × Following l.job (store l.p l.initial.w) (store l.p l.w) (size l.p NAME-GOALS) l.span

abbrev pub decreases-loop-span : goal.decreases-loop-span
decreases-loop-span l = l.n + 1 - l.span
