-- `pool::push_raw` meets its contract. By the entry's word. Assumes nothing.
use Rattle.store.proofs.Stores.{length-store}
use Rattle.store.specs.Store.{store}
use Rattle.store.specs.Regions.{MARKS}
use Rattle.pool.proofs.Stacking.{node_asks, pending_asks, pushed_one}
use mathlib.Core.Path.{refl, sym, ◌∙◌}
use mathlib.Core.Logic.{inl}
use borrow.Author.Rules.{rules}
use Rattle.pool.proofs.push_raw.Goals as goal

pub raw_entry-e-requires : goal.raw_entry-e-requires
raw_entry-e-requires c = (search rules, c.requires.3, c.requires.4)

pub returns-then-e-eq-HALF : goal.returns-then-e-eq-HALF
returns-then-e-eq-HALF c = inl (sym c.raw_entry-e.ensures.word ∙ c.if-e-eq-HALF.true, refl)

pub node_of-k-requires : goal.node_of-k-requires
node_of-k-requires c = let a = c.args in let r = node_asks a.p.now (store a.p.now a.w.now) _ c.raw_entry-e.result c.raw_entry-e.ensures.word c.requires.5 c.if-e-eq-HALF.false (length-store a.p.now a.w.now MARKS) in (search rules, r.0, r.1)

pub push_pending-requires : goal.push_pending-requires
push_pending-requires c = let a = c.args in let q = c.requires in let r = pending_asks a.p.now (store a.p.now a.w.now) _ c.raw_entry-e.result c.raw_entry-e.ensures.word q.5 c.if-e-eq-HALF.false c.node_of-k.result c.node_of-k.ensures in (search rules, q.1, r.0, q.2, r.1)

pub returns : goal.returns
returns c = let a = c.args in pushed_one a.p.now (store a.p.now a.w.now) _ c.raw_entry-e.result c.raw_entry-e.ensures.word c.requires.5 c.if-e-eq-HALF.false c.node_of-k.result c.node_of-k.ensures _ c.push_pending.ensures
