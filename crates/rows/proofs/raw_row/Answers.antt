-- `rows::raw_row` meets its contract. The entry of a raw bootstrap became a node. Assumes nothing.
use native.Mathlib.Omega.{arith}
use mathlib.Core.Path.{◌≡◌, refl}
use lib.ListN.{length, get_or}
use Prim.Native.Nat.{◌-◌}
use Rattle.store.specs.Regions.{MARKS}
use Rattle.store.specs.Store.{store}
use Rattle.rows.specs.Rowed.{raw_rows}
use Rattle.rows.proofs.Ending.{raw_mark, raw_done_lem, raw_node_lem}
use Rattle.rows.proofs.Reading.{counter, raw_entry_there, raw_add}
use Rattle.rows.proofs.raw_row.Goals as goal

pub load-requires : goal.load-requires
load-requires c = let a = c.args in let q = c.requires in (q.0, counter a.p.now q.1 _ (omega arith))

pub overflow_add-load : goal.overflow_add-load
overflow_add-load c = let a = c.args in let q = c.requires in let t = store a.p.now a.w.now in omega (arith, raw_add a.p.now t q.2 a.i (raw_rows t) refl q.3 c.load.result c.load.ensures.word (length a.w.now) q.0)

pub raw_entry-requires : goal.raw_entry-requires
raw_entry-requires c = let a = c.args in let q = c.requires in let t = store a.p.now a.w.now in let h = raw_entry_there a.p.now t q.2 a.i (raw_rows t) refl q.3 c.load.result c.load.ensures.word in (q.0, h.0, h.1)

pub node_of-requires : goal.node_of-requires
node_of-requires c = let a = c.args in let q = c.requires in let t = store a.p.now a.w.now in (q.0, raw_mark a.p.now t q.2 a.i q.3 c.load.result c.load.ensures.word c.raw_entry.result c.raw_entry.ensures.word, raw_done_lem a.p.now t q.2 a.i q.3 c.load.result c.load.ensures.word c.raw_entry.result c.raw_entry.ensures.word _ refl)

pub returns : goal.returns
returns c = let a = c.args in let q = c.requires in let t = store a.p.now a.w.now in let k : c.node_of.result ≡ get_or (t MARKS) c.raw_entry.result 0 - 2 = omega (arith, c.node_of.ensures) in rw k (raw_node_lem a.p.now t q.2 a.i q.3 c.load.result c.load.ensures.word c.raw_entry.result c.raw_entry.ensures.word _ refl)
