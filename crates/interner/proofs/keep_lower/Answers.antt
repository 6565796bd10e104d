-- `interner::keep_lower` meets its contract. Assumes nothing.
use mathlib.Core.Logic.{inl, inr}
use mathlib.Core.Path.{refl}
use native.Mathlib.Omega.{arith}
use Rattle.interner.proofs.keep_lower.Goals as goal

pub returns-then-load-e : goal.returns-then-load-e
returns-then-load-e c = inr (refl, omega (arith, c.load.ensures.word, c.if-load-e.true))

pub returns : goal.returns
returns c = inl (c.save.ensures, omega (arith, c.load.ensures.word, c.if-load-e.false))
