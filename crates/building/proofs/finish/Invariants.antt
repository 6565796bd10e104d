use lib.ListN.{length}
use Rattle.store.specs.Store.{store}
use mathlib.Core.Path.{◌≡◌}
use Rattle.building.proofs.Fields.{Numbering}
use Rattle.building.proofs.finish.Given as goal

abbrev pub invariant-loop-i : goal.invariant-loop-i
invariant-loop-i l = (length l.w ≡ length l.initial.w) × (length l.gaps ≡ length l.initial.gaps) × Numbering l.job l.p l.k (store l.p l.initial.w) (store l.p l.w) l.initial.gaps l.gaps l.i
