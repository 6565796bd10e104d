use Rattle.building.specs.Working.{owing}
use lib.ListN.{length}
use Rattle.store.specs.Store.{store}
use mathlib.Core.Path.{◌≡◌}
use Rattle.building.proofs.Emptying.{Emptying}
use Rattle.building.proofs.drain.Given as goal

abbrev pub invariant-loop-w : goal.invariant-loop-w
invariant-loop-w l = (length l.w ≡ length l.initial.w) × (length l.gaps ≡ length l.initial.gaps) × Emptying l.job l.p l.version (store l.p l.initial.w) (store l.p l.w) l.initial.gaps l.gaps

abbrev pub decreases-loop-w : goal.decreases-loop-w
decreases-loop-w l = owing (store l.p l.w)
