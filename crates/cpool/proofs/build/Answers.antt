-- `cpool::build` meets its contract. Assumes nothing.
use mathlib.Core.Path.{refl}
use native.Mathlib.Omega.{arith}
use Rattle.refusal.specs.Numbers.{code_of}
use Rattle.store.proofs.Laying.{work-sizes}
use Rattle.definitions.proofs.Stepped.{number_above}
use Rattle.cpool.specs.Stages.{lent}
use Rattle.cpool.proofs.Ending.{gave_unlaid, gave_laid}
use Rattle.cpool.proofs.build.Goals as goal

pub lay_out-requires : goal.lay_out-requires
lay_out-requires c = let q = c.requires in (q.0, q.1, refl, q.2, q.3)

pub give_out-requires : goal.give_out-requires
unfolding code_of
give_out-requires c = let l = c.in-Ok.ensures in let t = l.through refl in (l.places.1, l.places.0, (_, t.2))

pub returns-in-Ok-clause-given : goal.returns-in-Ok-clause-given
unfolding code_of
returns-in-Ok-clause-given c = let a = c.args in let l = c.in-Ok.ensures in let t = l.through refl in let g = c.give_out in gave_laid a.job.now c.requires.0 (lent a.outputs.now) _ _ _ t.0 (lent g.new.outputs) t.1 t.2 (g.ensures.given _ t.2)

pub refused-requires : goal.refused-requires
refused-requires c = let l = c.in-Err.ensures in (l.places.1, omega (arith, (work-sizes _ _ l.places.0).counts))

pub returns-in-Err-clause-given : goal.returns-in-Err-clause-given
unfolding code_of
returns-in-Err-clause-given c = let a = c.args in let l = c.in-Err.ensures in gave_unlaid a.job.now c.requires.0 (lent a.outputs.now) _ _ (l.refused (number_above c.in-Err.refusal)) c.refused.ensures
