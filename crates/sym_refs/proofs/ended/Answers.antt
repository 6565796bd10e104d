-- `sym_refs::ended` meets its contract. Assumes nothing.
use native.Mathlib.Omega.{arith}
use mathlib.Core.Path.{sym}
use Rattle.sym_refs.proofs.Jumping.{ended_same, ended_circular}
use Rattle.sym_refs.proofs.ended.Goals as goal

pub returns-then-goal-lt-NAME : goal.returns-then-goal-lt-NAME
returns-then-goal-lt-NAME c = (sym (ended_same _ c.if-goal-lt-NAME.true), omega arith)

pub returns-else-goal-lt-NAME : goal.returns-else-goal-lt-NAME
returns-else-goal-lt-NAME c = (sym (ended_circular _ c.if-goal-lt-NAME.false), omega arith)
