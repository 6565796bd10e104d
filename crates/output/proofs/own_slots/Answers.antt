-- `output::own_slots` meets its contract: the nodes behind stand in the chains of their slots. Assumes nothing.
use native.Mathlib.Omega.{arith}
use Rattle.store.specs.Regions.{OWNER-HEADS, OWNER-LINKS}
use Rattle.store.specs.Store.{store}
use Rattle.store.proofs.Stores.{length-store}
use Rattle.output.proofs.Owners.{owning_begin, owning_next, owning_end}
use Rattle.output.proofs.own_slots.Goals as goal

pub loop-k-init : goal.loop-k-init
loop-k-init c = let a = c.args in owning_begin a.p.now (store a.p.now a.w.now) c.load-k-end.result c.requires.5

pub loop-k-preserved : goal.loop-k-preserved
loop-k-preserved c = let a = c.args in let q = c.requires in let l = c.loop-k in rw c.push_link.ensures (owning_next a.p.now (store a.p.now a.w.now) (store a.p.now l.w) c.load-k-end.result l.k l.invariant c.load-slot.result c.load-slot.ensures.word q.1 c.loop-k-test.true (length-store a.p.now l.w OWNER-HEADS) (omega (arith, length-store a.p.now l.w OWNER-LINKS, q.4, c.load-k-end.ensures.word, c.loop-k-test.true)))

pub returns : goal.returns
returns c = let a = c.args in let q = c.requires in let l = c.loop-k in owning_end a.p.now (store a.p.now a.w.now) (store a.p.now l.w) c.load-k-end.result l.k l.invariant c.load-k-end.ensures.word c.loop-k-test.false (omega (arith, q.3, c.load-k-end.ensures.word)) (omega (arith, q.4, c.load-k-end.ensures.word))
