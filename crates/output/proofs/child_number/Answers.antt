-- `output::child_number` meets its contract. Assumes nothing.
use mathlib.Core.Path.{sym, ◌∙◌}
use Prim.Native.Nat.{◌-◌}
use native.Mathlib.Omega.{arith}
use Rattle.store.specs.Regions.{MARKS, GIVEN, INDEXES, NODES}
use Rattle.store.specs.Store.{store, size}
use Rattle.output.proofs.Numbers.{number_raw, number-slot, number-index}
use Rattle.output.proofs.child_number.Goals as goal

pub returns-then-child-lt-ENTRY : goal.returns-then-child-lt-ENTRY
returns-then-child-lt-ENTRY c = let a = c.args in let t = store a.p.now a.w.now in sym (number_raw (size a.p.now MARKS - size a.p.now INDEXES) (t GIVEN) (t INDEXES) (t NODES) a.child c.if-child-lt-ENTRY.true)

pub load-e-requires : goal.load-e-requires
load-e-requires c = (c.requires.0, omega (arith, c.requires.1.nodes_there))

pub constants-first-requires : goal.constants-first-requires
constants-first-requires c = (c.requires.0.0, c.requires.1.fewer)

pub load-requires : goal.load-requires
load-requires c = (c.requires.0, omega (arith, c.requires.1.given, c.if-child-lt-ENTRY.false))

pub returns-then-e-first : goal.returns-then-e-first
returns-then-e-first c = let a = c.args in let t = store a.p.now a.w.now in c.load.ensures.word ∙ sym (number-slot (size a.p.now MARKS - size a.p.now INDEXES) (t GIVEN) (t INDEXES) (t NODES) a.child c.load-e.result c.load-e.ensures.word c.if-child-lt-ENTRY.false (rw c.constants-first.ensures at c.if-e-first.true))

pub index_of-requires : goal.index_of-requires
index_of-requires c = let a = c.args in let q = c.requires.1 in let i = q.inside c.if-child-lt-ENTRY.false in let e = c.load-e.ensures.word in let f = c.constants-first.ensures in (c.requires.0, c.if-e-first.false, omega (arith, i, e, f, q.fewer, c.if-e-first.false), rw (f, e) (q.indexed c.if-child-lt-ENTRY.false (rw (f, e) at c.if-e-first.false)))

pub returns : goal.returns
returns c = let a = c.args in let t = store a.p.now a.w.now in let f = c.constants-first.ensures in rw f at c.index_of.ensures ∙ sym (number-index (size a.p.now MARKS - size a.p.now INDEXES) (t GIVEN) (t INDEXES) (t NODES) a.child c.load-e.result c.load-e.ensures.word c.if-child-lt-ENTRY.false (rw f at c.if-e-first.false))
