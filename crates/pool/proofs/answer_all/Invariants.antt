use mathlib.Core.Path.{◌≡◌}
use lib.ListN.{length}
use Rattle.store.specs.Store.{store}
use Rattle.pool.proofs.InTurn.{Replying}
use Rattle.pool.proofs.answer_all.Given as goal

abbrev pub invariant-loop-i : goal.invariant-loop-i
invariant-loop-i l = (length l.w ≡ length l.initial.w) × (length l.gaps ≡ length l.initial.gaps) × Replying l.job l.p (store l.p l.initial.w) (store l.p l.w) l.initial.gaps l.gaps l.at l.i
