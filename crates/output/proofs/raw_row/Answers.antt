-- `output::raw_row` meets its contract. Assumes nothing.
use Prim.Native.Nat.{◌+◌}
use native.Mathlib.Omega.{arith}
use lib.ListN.{length}
use Rattle.store.specs.Store.{store}
use Rattle.raws.specs.Raws.{held_count}
use Rattle.output.proofs.Filling.{raw_place}
use Rattle.output.proofs.raw_row.Goals as goal

pub load-requires : goal.load-requires
load-requires c = (c.requires.0, omega (arith, c.requires.1.counters))

pub overflow_add-load : goal.overflow_add-load
overflow_add-load c = let a = c.args in let q = c.requires in let t = store a.p.now a.w.now in omega (arith, raw_place a.p.now t (length a.w.now) a.i q.0 q.1 q.2, c.load.ensures.word)

pub raw_entry-requires : goal.raw_entry-requires
raw_entry-requires c = let a = c.args in let q = c.requires in let t = store a.p.now a.w.now in let r = q.1.raws (held_count t + a.i) (omega arith) (omega (arith, q.2)) in (q.0, omega (arith, q.2, q.1.order_room, c.load.ensures.word), rw c.load.ensures.word r.entry)

pub node_of-requires : goal.node_of-requires
node_of-requires c = let a = c.args in let q = c.requires in let t = store a.p.now a.w.now in let r = q.1.raws (held_count t + a.i) (omega arith) (omega (arith, q.2)) in (q.0, rw (c.raw_entry.ensures.word, c.load.ensures.word) r.inside, rw (c.raw_entry.ensures.word, c.load.ensures.word) r.done)

pub returns : goal.returns
returns c = let e = rw (c.raw_entry.ensures.word, c.load.ensures.word) at c.node_of.ensures in omega (arith, e)
