-- `output::SlotWalk::begin` meets its contract. Assumes nothing.
use native.Mathlib.Omega.{arith}
use Rattle.store.specs.Store.{store}
use Rattle.output.proofs.Pools.{walked_begin}
use Rattle.output.proofs.SlotWalk.begin.Goals as goal

pub returns : goal.returns
returns c = let a = c.args in (λ s done. record { name = c.load-name.ensures.word; last = λ i h. omega (arith, c.last_given.ensures i h, c.max.ensures); walked = walked_begin s a.p.now (store a.p.now a.w.now) done _ c.held_slot.ensures }, omega (arith, c.max.ensures))
