-- `output::write_worked` meets its contract: its tag, and the bytes of its words. Assumes nothing.
use mathlib.Core.Path.{refl, sym, ◌∙◌}
use native.Mathlib.Omega.{arith}
use borrow.Author.Rules.{rules}
use Rattle.store.specs.Store.{store}
use Rattle.store.specs.Regions.{VALUES}
use Rattle.store.proofs.Worked.{words_stand}
use Rattle.output.proofs.Working.{room_either, room_wide, wrote_narrow, wrote_wide}
use Rattle.output.proofs.write_worked.Goals as goal

pub tag_at-tag-requires : goal.tag_at-tag-requires
tag_at-tag-requires c = let h = c.requires.4 in (h.0, h.1, h.2)

pub bounds-pool-at : goal.bounds-pool-at
bounds-pool-at c = omega (arith, room_either c.args.job.now (store c.args.p.now c.args.w.now VALUES) c.args.from c.tag_at-tag.result c.tag_at-tag.ensures c.requires.3 c.requires.2 c.args.pool.now c.args.at c.requires.4.0 c.requires.4.1 c.requires.4.2 c.requires.4.3)

pub overflow_add-at : goal.overflow_add-at
overflow_add-at c = let h = room_either c.args.job.now (store c.args.p.now c.args.w.now VALUES) c.args.from c.tag_at-tag.result c.tag_at-tag.ensures c.requires.3 c.requires.2 c.args.pool.now c.args.at c.requires.4.0 c.requires.4.1 c.requires.4.2 c.requires.4.3 in search rules

pub load-requires : goal.load-requires
load-requires c = (c.requires.0, omega (arith, words_stand c.args.job.now c.args.from (c.requires.4.0, c.requires.4.1, c.requires.4.2) c.requires.3 c.args.p.now c.requires.1 1 (omega arith)))

pub overflow_cast-load : goal.overflow_cast-load
overflow_cast-load c = omega (arith, c.load.ensures.small)

pub put-requires : goal.put-requires
put-requires c = let h = room_either c.args.job.now (store c.args.p.now c.args.w.now VALUES) c.args.from c.tag_at-tag.result c.tag_at-tag.ensures c.requires.3 c.requires.2 c.args.pool.now c.args.at c.requires.4.0 c.requires.4.1 c.requires.4.2 c.requires.4.3 in search rules

pub is_long-requires : goal.is_long-requires
is_long-requires c = tt

pub overflow_add-at-then-is_long : goal.overflow_add-at-then-is_long
overflow_add-at-then-is_long c = let h = room_either c.args.job.now (store c.args.p.now c.args.w.now VALUES) c.args.from c.tag_at-tag.result c.tag_at-tag.ensures c.requires.3 c.requires.2 c.args.pool.now c.args.at c.requires.4.0 c.requires.4.1 c.requires.4.2 c.requires.4.3 in search rules

pub overflow_add-from : goal.overflow_add-from
overflow_add-from c = omega arith

pub load-requires-then-is_long : goal.load-requires-then-is_long
load-requires-then-is_long c = (c.requires.0, words_stand c.args.job.now c.args.from (c.requires.4.0, c.requires.4.1, c.requires.4.2) c.requires.3 c.args.p.now c.requires.1 1 (omega arith))

pub overflow_cast-load-then-is_long : goal.overflow_cast-load-then-is_long
overflow_cast-load-then-is_long c = omega (arith, c.load-then-is_long.ensures.small)

pub put-requires-then-is_long : goal.put-requires-then-is_long
put-requires-then-is_long c = let h = room_wide c.args.job.now (store c.args.p.now c.args.w.now VALUES) c.args.from c.tag_at-tag.result c.tag_at-tag.ensures c.requires.3 c.requires.2 c.args.pool.now c.args.at c.requires.4.0 c.requires.4.1 c.requires.4.2 c.requires.4.3 (sym c.is_long.ensures ∙ c.if-is_long.true) in search rules

pub overflow_add-result : goal.overflow_add-result
overflow_add-result c = let h = room_wide c.args.job.now (store c.args.p.now c.args.w.now VALUES) c.args.from c.tag_at-tag.result c.tag_at-tag.ensures c.requires.3 c.requires.2 c.args.pool.now c.args.at c.requires.4.0 c.requires.4.1 c.requires.4.2 c.requires.4.3 (sym c.is_long.ensures ∙ c.if-is_long.true) in search rules

pub returns-then-is_long : goal.returns-then-is_long
returns-then-is_long c = wrote_wide c.args.job.now (store c.args.p.now c.args.w.now VALUES) c.args.from c.tag_at-tag.result c.tag_at-tag.ensures c.requires.3 c.requires.2 c.args.pool.now _ c.put.new.d c.args.at c.load.result c.load.ensures.word refl c.put.ensures (sym c.is_long.ensures ∙ c.if-is_long.true) (room_wide c.args.job.now (store c.args.p.now c.args.w.now VALUES) c.args.from c.tag_at-tag.result c.tag_at-tag.ensures c.requires.3 c.requires.2 c.args.pool.now c.args.at c.requires.4.0 c.requires.4.1 c.requires.4.2 c.requires.4.3 (sym c.is_long.ensures ∙ c.if-is_long.true)) c.put-then-is_long.new.d c.load-then-is_long.result c.load-then-is_long.ensures.word c.put-then-is_long.ensures

pub overflow_add-result-2 : goal.overflow_add-result-2
overflow_add-result-2 c = let h = room_either c.args.job.now (store c.args.p.now c.args.w.now VALUES) c.args.from c.tag_at-tag.result c.tag_at-tag.ensures c.requires.3 c.requires.2 c.args.pool.now c.args.at c.requires.4.0 c.requires.4.1 c.requires.4.2 c.requires.4.3 in search rules

pub returns : goal.returns
returns c = wrote_narrow c.args.job.now (store c.args.p.now c.args.w.now VALUES) c.args.from c.tag_at-tag.result c.tag_at-tag.ensures c.requires.3 c.requires.2 c.args.pool.now _ c.put.new.d c.args.at c.load.result c.load.ensures.word refl c.put.ensures (sym c.is_long.ensures ∙ c.if-is_long.false) (room_either c.args.job.now (store c.args.p.now c.args.w.now VALUES) c.args.from c.tag_at-tag.result c.tag_at-tag.ensures c.requires.3 c.requires.2 c.args.pool.now c.args.at c.requires.4.0 c.requires.4.1 c.requires.4.2 c.requires.4.3)
