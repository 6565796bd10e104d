-- `output::held_slot` meets its contract. Assumes nothing.
use mathlib.Core.Path.{sym, ◌∙◌}
use native.Mathlib.Omega.{arith}
use Rattle.store.specs.Regions.{RAW-KEYS, ORDER}
use Rattle.store.specs.Store.{store}
use Rattle.raws.specs.Raws.{held_count}
use Rattle.output.proofs.Holding.{held-there, held-past}
use Rattle.output.proofs.held_slot.Goals as goal

pub load-requires : goal.load-requires
load-requires c = (c.requires.0, c.requires.1.counted)

pub raw_key-requires : goal.raw_key-requires
raw_key-requires c = let a = c.args in let q = c.requires in (q.0, omega (arith, q.1.room, c.load.ensures.word, c.if-i-load.true), omega (arith, q.1.inside a.i (rw c.load.ensures.word at c.if-i-load.true), q.1.keys_room))

pub returns-then-i-load : goal.returns-then-i-load
returns-then-i-load c = let a = c.args in let t = store a.p.now a.w.now in c.raw_key.ensures.word ∙ sym (held-there (t RAW-KEYS) (t ORDER) (held_count t) a.i (rw c.load.ensures.word at c.if-i-load.true))

pub returns : goal.returns
returns c = let a = c.args in let t = store a.p.now a.w.now in sym (held-past (t RAW-KEYS) (t ORDER) (held_count t) a.i (rw c.load.ensures.word at c.if-i-load.false))
