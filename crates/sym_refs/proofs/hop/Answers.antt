-- `sym_refs::hop` meets its contract. Assumes nothing.
use native.Mathlib.Omega.{arith}
use mathlib.Core.Path.{sym, ◌∙◌}
use Rattle.sym_refs.proofs.Jumping.{hop_stays, hop_goes}
use Rattle.sym_refs.proofs.hop.Goals as goal

pub load-requires : goal.load-requires
load-requires c = (c.requires.0, omega arith)

pub returns-then-goal-lt-NAME : goal.returns-then-goal-lt-NAME
returns-then-goal-lt-NAME c = sym (hop_stays _ _ c.if-goal-lt-NAME.true)

pub returns-else-goal-lt-NAME : goal.returns-else-goal-lt-NAME
returns-else-goal-lt-NAME c = c.load.ensures.word ∙ sym (hop_goes _ _ c.if-goal-lt-NAME.false)
