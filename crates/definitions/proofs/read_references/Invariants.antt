-- `definitions::read_references` meets its contract. Assumes nothing.
use Rattle.definitions.specs.Kids.{HasKids, ReadSoFar}
use Rattle.store.specs.Regions.{GOALS}
use Rattle.store.specs.Store.{store, Kept}
use Rattle.definition.specs.Job.{Reference}
use Rattle.definition.specs.Shapes.{Entry}
use mathlib.Core.List.{List}
use lib.ListN.{length}
use Prim.Native.Nat.{ℕ, ◌≤◌}
use mathlib.Core.Path.{◌≡◌}
use mathlib.Core.List.{[], ◌∷◌}
use Rattle.definitions.proofs.read_references.Given as goal

abbrev pub invariant-loop-i : goal.invariant-loop-i
invariant-loop-i l = (length l.w ≡ length l.initial.w) × (l.i ≤ l.n) × Kept (GOALS ∷ []) (store l.p l.initial.w) (store l.p l.w) × ((x : Entry (List ℕ) Reference) (next : ℕ) → HasKids l.job l.at l.n x next → ReadSoFar l.job (store l.p l.initial.w) (store l.p l.w) l.first l.i l.from x next)
