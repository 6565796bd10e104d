use Rattle.store.specs.Store.{store}
use Rattle.store.specs.Regions.{RAW-KEYS, ORDER}
use Rattle.pool.proofs.Gapping.{between_start, key_low, push_asks, push_goes, last-asks, last_goes}
use native.Mathlib.Omega.{arith}
use Rattle.pool.proofs.gaps_between.Goals as goal
-- `pool::gaps_between` meets its contract. The loop keeps `Between`, that what is written and what the rest will give are the whole. Assumes nothing.
use Rattle.store.proofs.Stores.{length-store}

pub loop-i-init : goal.loop-i-init
loop-i-init c = between_start _ _ _

pub raw_key-next-requires : goal.raw_key-next-requires
raw_key-next-requires c = let q = c.requires in (q.on.0, omega (arith, q.on.1, c.loop-i-test.true), q.on.2 c.loop-i.i c.loop-i-test.true)

pub push_gap-count-requires : goal.push_gap-count-requires
push_gap-count-requires c = let a = c.args in let q = c.requires in let l = c.loop-i in push_asks (store a.p.now a.w.now RAW-KEYS) (store a.p.now a.w.now ORDER) a.n a.top (omega (arith, q.on.1, length-store a.p.now a.w.now ORDER)) q.on.3 a.gaps.now l.gaps l.i l.count l.first l.invariant q.room c.loop-i-test.true c.raw_key-next.result c.raw_key-next.ensures.word

pub overflow_add-first : goal.overflow_add-first
overflow_add-first c = let a = c.args in let q = c.requires in let l = c.loop-i in omega (arith, key_low (store a.p.now a.w.now RAW-KEYS) (store a.p.now a.w.now ORDER) a.n a.top (omega (arith, q.on.1, length-store a.p.now a.w.now ORDER)) q.on.3 a.gaps.now l.gaps l.i l.count l.first l.invariant q.room c.loop-i-test.true c.raw_key-next.result c.raw_key-next.ensures.word)

pub loop-i-preserved : goal.loop-i-preserved
loop-i-preserved c = let a = c.args in let q = c.requires in let l = c.loop-i in push_goes (store a.p.now a.w.now RAW-KEYS) (store a.p.now a.w.now ORDER) a.n a.top (omega (arith, q.on.1, length-store a.p.now a.w.now ORDER)) q.on.3 a.gaps.now l.gaps l.i l.count l.first l.invariant q.room c.loop-i-test.true c.raw_key-next.result c.raw_key-next.ensures.word _ _ c.push_gap-count.auto.gaps c.push_gap-count.ensures

pub overflow_cast-top : goal.overflow_cast-top
overflow_cast-top c = omega (arith, c.requires.on.4)

pub overflow_add-top : goal.overflow_add-top
overflow_add-top c = omega (arith, c.requires.on.4)

pub push_gap-requires : goal.push_gap-requires
push_gap-requires c = let a = c.args in let q = c.requires in let l = c.loop-i in last-asks (store a.p.now a.w.now RAW-KEYS) (store a.p.now a.w.now ORDER) a.n a.top (omega (arith, q.on.1, length-store a.p.now a.w.now ORDER)) q.on.3 a.gaps.now l.gaps l.i l.count l.first l.invariant q.room c.loop-i-test.false q.on.4

pub returns : goal.returns
returns c = let a = c.args in let q = c.requires in let l = c.loop-i in last_goes (store a.p.now a.w.now RAW-KEYS) (store a.p.now a.w.now ORDER) a.n a.top (omega (arith, q.on.1, length-store a.p.now a.w.now ORDER)) q.on.3 a.gaps.now l.gaps l.i l.count l.first l.invariant q.room c.loop-i-test.false _ _ c.push_gap.ensures
