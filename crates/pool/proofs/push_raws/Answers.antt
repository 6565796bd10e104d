-- `pool::push_raws` meets its contract. The loop keeps that the nodes of the places passed are on the stack. Assumes nothing.
use Rattle.store.proofs.Stores.{length-store}
use Rattle.store.specs.Store.{store}
use Rattle.store.specs.Regions.{COUNTS, PENDING}
use Rattle.raws.specs.Raws.{held_count}
use Rattle.pool.proofs.Stacking.{pushed_none, push_raw_asks, pushed_next}
use native.Mathlib.Omega.{arith}
use mathlib.Core.Path.{◌≡◌, refl, sym, ◌∙◌}
use borrow.Author.Rules.{rules}
use Rattle.pool.proofs.push_raws.Goals as goal

pub load-i-end-requires : goal.load-i-end-requires
load-i-end-requires c = (search rules, omega (arith, c.requires.1.counts))

pub loop-i-init : goal.loop-i-init
loop-i-init c = let a = c.args in (refl, omega arith, pushed_none a.p.now (store a.p.now a.w.now) c.requires.1 (length-store a.p.now a.w.now PENDING) (length-store a.p.now a.w.now COUNTS))

pub push_raw-requires : goal.push_raw-requires
push_raw-requires c = let a = c.args in let can = c.requires.1 in let l = c.loop-i in let r = push_raw_asks a.p.now (store a.p.now a.w.now) can (length-store a.p.now a.w.now PENDING) (length-store a.p.now a.w.now COUNTS) (store a.p.now l.w) l.i l.invariant.2 (omega (arith, c.loop-i-test.true, c.load-i-end.ensures.word)) in (search rules, can.counts, can.few, r.0, r.1, r.2)

pub loop-i-preserved : goal.loop-i-preserved
loop-i-preserved c = let a = c.args in let can = c.requires.1 in let l = c.loop-i in (search rules, omega (arith, c.loop-i-test.true, c.load-i-end.ensures.word), pushed_next a.p.now (store a.p.now a.w.now) can (length-store a.p.now a.w.now PENDING) (length-store a.p.now a.w.now COUNTS) (store a.p.now l.w) l.i l.invariant.2 (omega (arith, c.loop-i-test.true, c.load-i-end.ensures.word)) _ c.push_raw.ensures (length-store a.p.now l.w COUNTS ∙ sym (length-store a.p.now a.w.now COUNTS)))

pub returns : goal.returns
returns c = let l = c.loop-i in let a = c.args in let e : l.i ≡ held_count (store a.p.now a.w.now) = omega (arith, c.loop-i-test.false, c.load-i-end.ensures.word, l.invariant.1) in rw e at l.invariant.2
