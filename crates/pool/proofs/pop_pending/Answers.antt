-- `pool::pop_pending` meets its contract. The word on top is the last that was put there. Assumes nothing.
use native.Mathlib.Omega.{arith}
use mathlib.Core.Path.{refl}
use Rattle.store.proofs.Stores.{length-store}
use Rattle.store.specs.Store.{store}
use Rattle.store.specs.Regions.{COUNTS, PENDING}
use Rattle.pool.proofs.Popping.{popped_all}
use borrow.Author.Rules.{rules}
use Rattle.pool.proofs.pop_pending.Goals as goal

pub overflow_sub-i : goal.overflow_sub-i
overflow_sub-i c = omega (arith, c.load-i.ensures.word, c.requires.2)

pub save-requires : goal.save-requires
save-requires c = (search rules, c.requires.1, omega (arith, c.load-i.ensures.small))

pub load-requires : goal.load-requires
load-requires c = (search rules, omega (arith, c.load-i.ensures.word, c.requires.2, c.requires.3))

pub returns : goal.returns
returns c = let a = c.args in let q = c.requires in popped_all (store a.p.now a.w.now) _ _ c.load-i.result c.load.result (omega (arith, q.1, length-store a.p.now a.w.now COUNTS)) c.load-i.ensures.word q.2 refl (omega (arith, q.3, length-store a.p.now a.w.now PENDING)) c.save.ensures c.load.ensures.word
