-- `resolver::refusal_of` meets its contract. Assumes nothing.
use mathlib.Core.Logic.{⊎_elim}
use mathlib.Core.Path.{◌≡◌}
use Prim.Native.Nat.{◌+◌}
use Rattle.refusal.specs.Numbers.{number}
use Rattle.store.specs.Words.{REFUSED}
use Rattle.resolver.proofs.refusal_of.Goals as goal

pub returns-then-goal : goal.returns-then-goal
unfolding number
returns-then-goal c = c.if-goal.true

pub returns-else-goal : goal.returns-else-goal
unfolding number
returns-else-goal c = ⊎_elim (λ (e : c.args.goal ≡ REFUSED + 12). absurd (c.if-goal.false e)) (λ (e : c.args.goal ≡ REFUSED + 13). e) c.requires
