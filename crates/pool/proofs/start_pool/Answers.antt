use Rattle.store.specs.Store.{store}
use Rattle.store.specs.Regions.{COUNTS, GIVEN, ORDER, PENDING}
use Rattle.pool.proofs.Beginning.{start_counts, some-between, some-few, some-pushes, some-started}
use native.Mathlib.Omega.{arith}
use borrow.Author.Rules.{rules}
use Rattle.pool.proofs.start_pool.Goals as goal
-- `pool::start_pool` meets its contract. Gaps and stack are those of the raw slots in their order. Assumes nothing.
use Rattle.store.proofs.Stores.{length-store}

pub load-n-requires : goal.load-n-requires
load-n-requires c = let a = c.args in (search rules, omega (arith, start_counts a.p.now a.top (store a.p.now a.w.now) a.gaps.now c.requires.1))

pub gaps_between-count-requires : goal.gaps_between-count-requires
gaps_between-count-requires c = let a = c.args in let r = some-between a.p.now a.top (store a.p.now a.w.now) a.gaps.now c.requires.1 (length-store a.p.now a.w.now ORDER) c.load-n.result c.load-n.ensures.word in record { on = (c.requires.0, r.0, r.1, r.2, r.3); room = r.4 }

pub save-requires : goal.save-requires
save-requires c = let a = c.args in let t = store a.p.now a.w.now in (search rules, omega (arith, start_counts a.p.now a.top t a.gaps.now c.requires.1), some-few a.p.now a.top t a.gaps.now c.requires.1 (length-store a.p.now a.w.now ORDER) c.load-n.result c.load-n.ensures.word _ c.gaps_between-count.result c.gaps_between-count.ensures (length-store a.p.now a.w.now COUNTS))

pub push_raws-requires : goal.push_raws-requires
push_raws-requires c = let a = c.args in let t = store a.p.now a.w.now in (search rules, some-pushes a.p.now a.top t a.gaps.now c.requires.1 (length-store a.p.now a.w.now ORDER) c.load-n.result c.load-n.ensures.word _ c.gaps_between-count.result c.gaps_between-count.ensures (length-store a.p.now a.w.now COUNTS) _ c.save.ensures)

pub returns : goal.returns
returns c = let a = c.args in let t = store a.p.now a.w.now in some-started a.p.now a.top t a.gaps.now c.requires.1 (length-store a.p.now a.w.now ORDER) c.load-n.result c.load-n.ensures.word _ c.gaps_between-count.result c.gaps_between-count.ensures (length-store a.p.now a.w.now COUNTS) _ _ c.save.ensures c.push_raws.ensures c.gaps_between-count.auto.gaps (length-store a.p.now a.w.now GIVEN) (length-store a.p.now a.w.now PENDING)
