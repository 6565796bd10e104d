use lib.ListN.{length}
use Rattle.store.specs.Store.{store}
use mathlib.Core.Path.{◌≡◌}
use Rattle.building.proofs.Falling.{Falling}
use Rattle.building.proofs.slot_raw_rows.Given as goal

abbrev pub invariant-loop-i : goal.invariant-loop-i
invariant-loop-i l = (length l.w ≡ length l.initial.w) × (length l.gaps ≡ length l.initial.gaps) × Falling l.job (store l.p l.initial.w) (store l.p l.w) l.initial.gaps l.gaps l.i
