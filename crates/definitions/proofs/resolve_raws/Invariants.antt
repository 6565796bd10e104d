-- `definitions::resolve_raws` meets its contract. Assumes nothing.
use Rattle.definitions.proofs.Ends.{SoFar}
use Rattle.store.specs.Regions.{NODE-HEADS}
use Rattle.store.specs.Store.{size, store}
use lib.ListN.{length}
use Prim.Native.Nat.{◌≤◌}
use mathlib.Core.Path.{◌≡◌}
use Rattle.definitions.proofs.resolve_raws.Given as goal

abbrev pub invariant-loop-i : goal.invariant-loop-i
invariant-loop-i l = (length l.w ≡ length l.initial.w) × (l.i ≤ l.n) × SoFar (size l.p NODE-HEADS) l.job (store l.p l.initial.w) (store l.p l.w) l.i l.n
