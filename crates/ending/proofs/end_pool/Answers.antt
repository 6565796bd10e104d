use Rattle.store.proofs.Laying.{work-sizes}
use Rattle.store.proofs.Stores.{length-store}
use Rattle.store.specs.Regions.{COUNTS}
use Rattle.store.specs.Store.{store}
use native.Mathlib.Omega.{arith}
use Rattle.refusal.specs.Numbers.{code_of}
use borrow.Author.Rules.{rules}
use Rattle.ending.proofs.end_pool.Goals as goal
-- `ending::end_pool` meets its contract: the count goes by the gaps that the name leaves. Assumes nothing.
use Rattle.ending.proofs.Counting.{can_name, count_asks, count_small, ended}

pub name_slot-named-requires : goal.name_slot-named-requires
name_slot-named-requires c = let a = c.args in let q = c.requires in (q.0, can_name a.job.now a.p.now a.top (store a.p.now a.w.now) a.gaps.now q.1)

pub load-count-requires : goal.load-count-requires
load-count-requires c = let a = c.args in let q = c.requires in (search rules, omega (arith, (work-sizes a.job.now a.p.now q.1.nodes.0).counts))

pub overflow_cast-top : goal.overflow_cast-top
overflow_cast-top c = omega (arith, c.requires.1.few)

pub pool_count-n-requires : goal.pool_count-n-requires
pool_count-n-requires c = let a = c.args in let q = c.requires.1 in let v = store a.p.now c.name_slot-named.new.w in let h = c.name_slot-named.new.gaps in let asks = count_asks a.job.now a.p.now a.top (store a.p.now a.w.now) v a.gaps.now h (code_of c.name_slot-named.result) q c.name_slot-named.ensures c.load-count.result c.load-count.ensures.word in (asks.1, asks.2)

pub overflow_cast-n : goal.overflow_cast-n
overflow_cast-n c = omega arith

pub save-requires : goal.save-requires
save-requires c = let a = c.args in let q = c.requires in let v = store a.p.now c.name_slot-named.new.w in let h = c.name_slot-named.new.gaps in (search rules, omega (arith, (work-sizes a.job.now a.p.now q.1.nodes.0).counts), omega (arith, count_small a.job.now a.p.now a.top (store a.p.now a.w.now) v a.gaps.now h (code_of c.name_slot-named.result) q.1 c.name_slot-named.ensures c.load-count.result c.load-count.ensures.word c.pool_count-n.result c.pool_count-n.ensures))

pub returns : goal.returns
returns c = let a = c.args in let q = c.requires.1 in let w = c.name_slot-named.new.w in let h = c.name_slot-named.new.gaps in ended a.job.now a.p.now a.top (store a.p.now a.w.now) (store a.p.now w) a.gaps.now h (code_of c.name_slot-named.result) q c.name_slot-named.ensures c.load-count.result c.load-count.ensures.word c.pool_count-n.result c.pool_count-n.ensures (omega (arith, (work-sizes a.job.now a.p.now q.nodes.0).counts, length-store a.p.now w COUNTS)) (store a.p.now c.save.new.w) c.save.ensures
