-- `pool::take_slot` meets its contract. What the allocator answers is what the definition's does, and the positions stay words. Assumes nothing.
use native.Mathlib.Omega.{arith}
use borrow.Author.Rules.{rules}
use Rattle.store.proofs.Stores.{length-store}
use Rattle.store.specs.Store.{store}
use Rattle.store.specs.Regions.{COUNTS}
use Rattle.pool.proofs.Taking.{slot-asks, save_asks, took_all}
use Rattle.pool.proofs.take_slot.Goals as goal

pub take_slot-found-requires : goal.take_slot-found-requires
take_slot-found-requires c =
    let a = c.args in
    (slot-asks (store a.p.now a.w.now COUNTS) a.gaps.now c.load-count.result c.requires.2 c.load-count.ensures.word).1

pub save_positions-requires : goal.save_positions-requires
save_positions-requires c =
    let a = c.args in
    let found = c.take_slot-found in
    let r =
    save_asks (store a.p.now a.w.now) a.gaps.now found.new.gaps a.wide a.ldc c.requires.2 c.load_positions-q.result c.load-count.result found.result
    c.load_positions-q.ensures c.load-count.ensures.word found.auto.gaps _ found.ensures.answered found.ensures.unmoved in
    (search rules, c.requires.1, r.0, r.1, r.2)

pub returns : goal.returns
returns c =
    let a = c.args in
    let found = c.take_slot-found in
    took_all (store a.p.now a.w.now) a.gaps.now found.new.gaps a.wide a.ldc c.requires.2 c.load_positions-q.result c.load-count.result found.result
    c.load_positions-q.ensures c.load-count.ensures.word found.auto.gaps _ found.ensures.answered found.ensures.unmoved
    (omega (arith, length-store a.p.now a.w.now COUNTS, c.requires.1))
    _ c.save_positions.ensures
