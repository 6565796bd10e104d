-- `resolver::resolve` meets its contract: what is left of the definition's run is the whole, and what is owed falls with each item.
-- Assumes nothing.
use mathlib.Core.Path.{◌≡◌}
use mathlib.Core.List.{map}
use Prim.Native.Nat.{◌+◌}
use lib.ListN.{length}
use Rattle.laws.specs.Faithful.{owing}
use Rattle.store.specs.Words.{mark_word}
use Rattle.store.specs.Regions.{MARKS, NODE-HEADS}
use Rattle.store.specs.JobIn.{linked_in}
use Rattle.store.specs.Store.{store, size}
use Rattle.resolver.proofs.Going.{Resolving}
use Rattle.resolver.proofs.resolve.Given as goal

abbrev pub invariant-loop-n : goal.invariant-loop-n
invariant-loop-n l = (length l.w ≡ length l.initial.w) × Resolving (size l.p NODE-HEADS) l.job l.goal (store l.p l.initial.w) (store l.p l.w) l.visits l.n

abbrev pub decreases-loop-n : goal.decreases-loop-n
decreases-loop-n l = l.n + owing (linked_in l.job) (map mark_word (store l.p l.w MARKS))
