-- `definitions::add_worked` meets its contract: its value is kept, and then it is an entry like others. Assumes nothing.
use native.Mathlib.Omega.{arith}
use Rattle.std.specs.Prelude.{Ok}
use borrow.Author.Rules.{rules}
use Rattle.store.specs.Store.{store}
use Rattle.store.proofs.Stores.{length-store}
use Rattle.definitions.proofs.Valuing.{value-place, value-step, worked-needs, worked-here, worked-done}
use Rattle.definitions.proofs.add_worked.Goals as goal

pub put_value-requires : goal.put_value-requires
put_value-requires c = let a = c.args in let q = c.requires in let h = worked-here a.p.now q.2.0 a.job.now (store a.p.now a.w.now) a.at q.2.1 q.1 (λ i. (c.type_inv.job i).fits) (length-store a.p.now a.w.now) q.3 in (search rules, q.1, h.0, h.1)

pub add_counted-requires : goal.add_counted-requires
add_counted-requires c = let a = c.args in let q = c.requires in let put = c.put_value in (search rules, q.1, omega arith, omega arith, worked-needs a.p.now q.2.0 a.job.now (store a.p.now put.new.w) a.at (value-place a.p.now q.2.0 a.job.now (store a.p.now a.w.now) (store a.p.now put.new.w) a.at put.ensures q.2.1) q.1 (λ i. (c.type_inv.job i).fits) (length-store a.p.now put.new.w) q.3)

pub returns : goal.returns
returns c = let a = c.args in let q = c.requires in let put = c.put_value in let t = store a.p.now a.w.now in let u = store a.p.now put.new.w in λ top place. value-step a.p.now top a.job.now t u a.at put.ensures _ (Ok c.add_counted.result) (worked-done a.p.now top a.job.now u a.at (value-place a.p.now top a.job.now t u a.at put.ensures place) q.1 (λ i. (c.type_inv.job i).fits) (length-store a.p.now put.new.w) q.3 _ c.add_counted.result c.add_counted.ensures put.ensures.words)
