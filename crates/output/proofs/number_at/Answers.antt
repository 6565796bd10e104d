-- `output::number_at` meets its contract. Assumes nothing.
use mathlib.Core.Path.{◌∙◌}
use Prim.Native.Nat.{◌+◌, ◌-◌}
use native.Mathlib.Omega.{arith}
use lib.ListN.{length}
use Rattle.store.specs.Regions.{MARKS, GIVEN, INDEXES, CHILDREN, NODES}
use Rattle.store.specs.Store.{store, size}
use Rattle.output.specs.Contents.{child_number}
use Rattle.store.proofs.Stores.{in_words}
use Rattle.output.proofs.Numbers.{number-here, number_past}
use Rattle.output.proofs.number_at.Goals as goal

pub overflow_add-first : goal.overflow_add-first
overflow_add-first c = let a = c.args in omega (arith, (in_words a.p.now (length a.w.now) CHILDREN (a.first + a.i) c.requires.0 (omega (arith, c.requires.1, c.if-i-n.true))).1)

pub load-requires : goal.load-requires
load-requires c = (c.requires.0, omega (arith, c.requires.1, c.if-i-n.true))

pub child_number-requires : goal.child_number-requires
child_number-requires c = (c.requires.0, rw c.load.ensures.word (c.requires.2 c.if-i-n.true).there)

pub overflow_cast-result : goal.overflow_cast-result
overflow_cast-result c = record { fits = rw (c.child_number.ensures, c.load.ensures.word) (c.requires.2 c.if-i-n.true).small }

pub returns-then-i-n : goal.returns-then-i-n
returns-then-i-n c = let a = c.args in let t = store a.p.now a.w.now in c.child_number.ensures ∙ number-here (child_number (size a.p.now MARKS - size a.p.now INDEXES) (t GIVEN) (t INDEXES) (t NODES)) (t CHILDREN) a.first a.n a.i c.load.result c.if-i-n.true c.load.ensures.word

pub returns : goal.returns
returns c = let a = c.args in let t = store a.p.now a.w.now in number_past (child_number (size a.p.now MARKS - size a.p.now INDEXES) (t GIVEN) (t INDEXES) (t NODES)) (t CHILDREN) a.first a.n a.i c.if-i-n.false
