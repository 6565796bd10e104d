-- `rows::row_count` meets its contract. By the last raw row, if one waits. Assumes nothing.
use Prim.Native.Nat.{◌-◌}
use native.Mathlib.Omega.{arith}
use Rattle.store.specs.Store.{store}
use Rattle.rows.proofs.Ending.{counted-raw, counted-rows}
use Rattle.rows.proofs.Reading.{counter, raw_low_lem, last_there, last_index}
use Rattle.rows.proofs.row_count.Goals as goal

pub load-requires : goal.load-requires
load-requires c = let a = c.args in let q = c.requires in (q.0, counter a.p.now q.1 _ (omega arith))

pub unwrap-requires : goal.unwrap-requires
unwrap-requires c = let a = c.args in let q = c.requires in last_there a.p.now (store a.p.now a.w.now) q.2 c.raw_rows-n.result c.raw_rows-n.ensures (omega (arith, c.if-load-n.true)) c.raw_index.result c.raw_index.ensures

pub overflow_add-result : goal.overflow_add-result
overflow_add-result c = let a = c.args in let q = c.requires in let h = last_index a.p.now (store a.p.now a.w.now) q.2 c.raw_rows-n.result c.raw_rows-n.ensures (omega (arith, c.if-load-n.true)) c.raw_index.result c.raw_index.ensures c.unwrap.result c.unwrap.ensures in omega (arith, h, raw_low_lem a.p.now (store a.p.now a.w.now) q.2 (c.raw_rows-n.result - 1) (omega (arith, c.raw_rows-n.ensures, c.if-load-n.true)))

pub returns-then-load-n : goal.returns-then-load-n
returns-then-load-n c = let a = c.args in let q = c.requires in λ rows g. counted-raw a.p.now (store a.p.now a.w.now) q.2 rows g c.raw_rows-n.result c.load.result c.unwrap.result c.raw_rows-n.ensures c.load.ensures.word c.if-load-n.true (last_index a.p.now (store a.p.now a.w.now) q.2 c.raw_rows-n.result c.raw_rows-n.ensures (omega (arith, c.if-load-n.true)) c.raw_index.result c.raw_index.ensures c.unwrap.result c.unwrap.ensures)

pub returns : goal.returns
returns c = let a = c.args in let q = c.requires in λ rows g. counted-rows a.p.now (store a.p.now a.w.now) q.2 rows g c.raw_rows-n.result c.load.result c.load-2.result c.raw_rows-n.ensures c.load.ensures.word c.if-load-n.false c.load-2.ensures.word
