-- `output::row_count` meets its contract. Assumes nothing.
use mathlib.Core.Path.{◌≡◌, sym, ap, ◌∙◌}
use Prim.Native.Nat.{◌-◌, ◌<◌, ◌≤◌}
use native.Mathlib.Omega.{arith}
use lib.ListN.{get_or}
use Rattle.std.specs.Prelude.{unwrap_or}
use Rattle.store.specs.Store.{store}
use Rattle.store.specs.Regions.{COUNTS, ROW-COUNT, WRITTEN-COUNT}
use Rattle.output.specs.Rows.{raw_rows, raw_index_in}
use Rattle.output.proofs.Filling.{rows_left, rows_made, rows_counted, index_there, index_or}
use Rattle.output.proofs.Past.{past-there}
use Rattle.output.proofs.row_count.Goals as goal

pub unwrap-requires : goal.unwrap-requires
unwrap-requires c = let a = c.args in let q = c.requires in let t = store a.p.now a.w.now in let h : get_or (t COUNTS) WRITTEN-COUNT 0 < raw_rows t = omega (arith, c.raw_rows-n.ensures, c.load.ensures.word, c.if-load-n.true) in let e = rows_left (get_or (t COUNTS) WRITTEN-COUNT 0) (raw_rows t) (raw_index_in t (raw_rows t - 1)) (get_or (t COUNTS) ROW-COUNT 0) h in let r = rw c.raw_rows-n.ensures at (index_or t (c.raw_rows-n.result - 1) c.raw_index.result c.raw_index.ensures) in past-there c.raw_index.result (omega (arith, e, r, q.1.few))

pub overflow_add-result : goal.overflow_add-result
overflow_add-result c = let a = c.args in let q = c.requires in let t = store a.p.now a.w.now in let h : get_or (t COUNTS) WRITTEN-COUNT 0 < raw_rows t = omega (arith, c.raw_rows-n.ensures, c.load.ensures.word, c.if-load-n.true) in let e = rows_left (get_or (t COUNTS) WRITTEN-COUNT 0) (raw_rows t) (raw_index_in t (raw_rows t - 1)) (get_or (t COUNTS) ROW-COUNT 0) h in let r = rw c.raw_rows-n.ensures at (index_or t (c.raw_rows-n.result - 1) c.raw_index.result c.raw_index.ensures) in let x : unwrap_or c.raw_index.result 65536 ≡ c.unwrap.result = ap (λ o. unwrap_or o 65536) c.unwrap.ensures in omega (arith, e, r, x, q.1.few)

pub returns-then-load-n : goal.returns-then-load-n
returns-then-load-n c = let a = c.args in let q = c.requires in let t = store a.p.now a.w.now in let h : get_or (t COUNTS) WRITTEN-COUNT 0 < raw_rows t = omega (arith, c.raw_rows-n.ensures, c.load.ensures.word, c.if-load-n.true) in let e = rows_left (get_or (t COUNTS) WRITTEN-COUNT 0) (raw_rows t) (raw_index_in t (raw_rows t - 1)) (get_or (t COUNTS) ROW-COUNT 0) h in let r = rw c.raw_rows-n.ensures at (index_or t (c.raw_rows-n.result - 1) c.raw_index.result c.raw_index.ensures) in let x : unwrap_or c.raw_index.result 65536 ≡ c.unwrap.result = ap (λ o. unwrap_or o 65536) c.unwrap.ensures in omega (arith, e, r, x)

pub returns : goal.returns
returns c = let a = c.args in let t = store a.p.now a.w.now in let h : raw_rows t ≤ get_or (t COUNTS) WRITTEN-COUNT 0 = omega (arith, c.raw_rows-n.ensures, c.load.ensures.word, c.if-load-n.false) in c.load-2.ensures.word ∙ sym (rows_made (get_or (t COUNTS) WRITTEN-COUNT 0) (raw_rows t) (raw_index_in t (raw_rows t - 1)) (get_or (t COUNTS) ROW-COUNT 0) h)

pub raw_rows-n-requires : goal.raw_rows-n-requires
raw_rows-n-requires c = let a = c.args in let q = c.requires in (q.0, rows_counted a.p.now (store a.p.now a.w.now) q.1)

pub raw_index-requires : goal.raw_index-requires
raw_index-requires c = let a = c.args in let q = c.requires in let t = store a.p.now a.w.now in (q.0, rows_counted a.p.now t q.1, index_there a.p.now t q.1)
