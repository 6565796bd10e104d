-- `output::RowWalk::next` meets its contract. Assumes nothing.
use Prim.Native.Nat.{◌<◌}
use native.Mathlib.Omega.{arith}
use Rattle.std.specs.Prelude.{unwrap_or}
use Rattle.store.specs.Store.{store}
use Rattle.output.proofs.Filling.{filled_next, rows_counted, index_there, index_or}
use Rattle.output.proofs.Past.{past-reached}
use Rattle.output.proofs.RowWalk.next.Goals as goal

pub returns : goal.returns
returns c = let a = c.args in let q = c.requires in let m = a.self.now in let low : a.index < 65536 = omega (arith, q.1.few, q.2) in (c.node-k.ensures, filled_next a.p.now (store a.p.now a.w.now) q.1 m.inline m.raws a.index q.3 q.2 c.from.result c.from-2.result (unwrap_or c.inline_index.result 65536) (unwrap_or c.raw_index.result 65536) c.inline_index.ensures (past-reached c.inline_index.result a.index low c.eq.result c.from.result c.eq.ensures c.from.ensures) (index_or (store a.p.now a.w.now) m.raws c.raw_index.result c.raw_index.ensures) (past-reached c.raw_index.result a.index low c.eq-2.result c.from-2.result c.eq-2.ensures c.from-2.ensures))

pub raw_index-requires : goal.raw_index-requires
raw_index-requires c = let a = c.args in let q = c.requires in let t = store a.p.now a.w.now in (q.0, rows_counted a.p.now t q.1, index_there a.p.now t q.1)
