-- `rows::take_index` meets its contract. Raw rows are written first, then all indexes are used or the row takes the next. Assumes nothing.
use native.Mathlib.Omega.{arith}
use mathlib.Core.Path.{◌∙◌}
use Rattle.store.specs.Regions.{COUNTS, INDEXES, ROW-HEADS, INLINE, ROW-LINKS}
use Rattle.refusal.specs.Numbers.{number, code_of}
use Rattle.store.specs.Store.{store}
use Rattle.store.proofs.Stores.{length-store}
use Rattle.rows.proofs.Indexing.{boot_stays, kids_now, hash_stays, new_stays, no_index-left, room_more, index-new}
use Rattle.rows.proofs.Reading.{kids_at_lem}
use borrow.Author.Rules.{rules}
use Rattle.rows.proofs.take_index.Goals as goal

pub returns-then-rows-ge65535 : goal.returns-then-rows-ge65535
unfolding code_of number
returns-then-rows-ge65535 c = let a = c.args in no_index-left a.p.now a.k (store a.p.now a.w.now) (store a.p.now c.write_raw.new.w) c.write_raw.ensures c.load-rows.result c.load-rows.ensures.word c.if-rows-ge65535.true

pub take_next-requires : goal.take_next-requires
take_next-requires c = let a = c.args in let q = c.requires in let t = store a.p.now a.w.now in let u = store a.p.now c.write_raw.new.w in let w = c.write_raw.ensures in let is = boot_stays a.p.now a.k t u w q.5 in (search rules, q.1, kids_now a.p.now a.k t u w q.2, is, omega (arith, room_more a.p.now a.k t u w is (new_stays a.p.now a.k t u w q.6), length-store a.p.now c.write_raw.new.w INDEXES), omega (arith, (kids_at_lem a.p.now t q.1 q.2 a.k q.5.made).node, q.1.entries), q.8, c.if-rows-ge65535.false)

pub returns : goal.returns
unfolding code_of number
returns c = let a = c.args in let q = c.requires in let t = store a.p.now a.w.now in let v = c.write_raw.new.w in let u = store a.p.now v in let w = c.write_raw.ensures in let is = boot_stays a.p.now a.k t u w q.5 in let new = new_stays a.p.now a.k t u w q.6 in let room = room_more a.p.now a.k t u w is new in rw c.take_next.ensures (index-new a.p.now a.k t u w is new a.hash c.load-rows.result (hash_stays a.p.now a.k t u w a.hash q.7) q.1.heads.two (length-store a.p.now v ROW-HEADS) (length-store a.p.now v COUNTS ∙ q.1.counts) (omega (arith, room, length-store a.p.now v INDEXES, length-store a.p.now v INLINE, q.1.inline)) (omega (arith, room, length-store a.p.now v INDEXES, length-store a.p.now v ROW-LINKS, q.1.links)) c.load-rows.ensures.word c.if-rows-ge65535.false)
