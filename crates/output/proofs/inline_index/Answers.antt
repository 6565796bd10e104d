-- `output::inline_index` meets its contract. Assumes nothing.
use mathlib.Core.Path.{sym, ◌∙◌}
use native.Mathlib.Omega.{arith}
use Rattle.store.specs.Store.{store}
use Rattle.store.specs.Regions.{INDEXES, NODES, INLINE}
use Rattle.output.specs.Rows.{inline_count, constants_for}
use Rattle.output.proofs.Filling.{inline_index-there, inline_index-past}
use Rattle.output.proofs.inline_index.Goals as goal

pub load-requires : goal.load-requires
load-requires c = (c.requires.0, omega (arith, c.requires.1.counters))

pub returns-then-load-i : goal.returns-then-load-i
returns-then-load-i c = let a = c.args in let t = store a.p.now a.w.now in sym (inline_index-past (constants_for a.p.now) (t INDEXES) (t NODES) (t INLINE) (inline_count t) a.i (rw c.load.ensures.word at c.if-load-i.true))

pub load-requires-2 : goal.load-requires-2
load-requires-2 c = (c.requires.0, omega (arith, c.requires.1.inline_room, c.load.ensures.word, c.if-load-i.false))

pub load-e-requires : goal.load-e-requires
load-e-requires c = let q = c.requires in let r = q.1.inline c.args.i (rw c.load.ensures.word at c.if-load-i.false) in (q.0, rw c.load-2.ensures.word r.node)

pub constants-requires : goal.constants-requires
constants-requires c = (c.requires.0.0, c.requires.1.fewer)

pub index_of-requires : goal.index_of-requires
index_of-requires c = let q = c.requires in let r = q.1.inline c.args.i (rw c.load.ensures.word at c.if-load-i.false) in (q.0, rw (c.constants.ensures, c.load-e.ensures.word, c.load-2.ensures.word) r.behind, rw (c.constants.ensures, c.load-e.ensures.word, c.load-2.ensures.word) r.inside, rw (c.constants.ensures, c.load-e.ensures.word, c.load-2.ensures.word) r.indexed)

pub returns : goal.returns
returns c = let a = c.args in let t = store a.p.now a.w.now in rw (c.constants.ensures, c.load-e.ensures.word, c.load-2.ensures.word) at c.index_of.ensures ∙ sym (inline_index-there (constants_for a.p.now) (t INDEXES) (t NODES) (t INLINE) (inline_count t) a.i (rw c.load.ensures.word at c.if-load-i.false))
