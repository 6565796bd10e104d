-- `interner::same_children` meets its contract: the children behind are the same. Assumes nothing.
use Rattle.interner.proofs.Children.{matching_not, matching_end}
use Rattle.store.proofs.Stores.{in_words}
use Rattle.store.specs.Store.{store}
use Rattle.store.specs.Regions.{CHILDREN}
use lib.ListN.{length}
use Prim.Native.Nat.{◌+◌}
use native.Mathlib.Omega.{arith}
use Rattle.interner.proofs.same_children.Goals as goal

pub overflow_add-a : goal.overflow_add-a
overflow_add-a c = let a = c.args in omega (arith, (in_words a.p.now (length a.w.now) CHILDREN (a.a + c.loop-i.i) c.requires.0 (omega arith)).1)

pub overflow_add-b : goal.overflow_add-b
overflow_add-b c = let a = c.args in omega (arith, (in_words a.p.now (length a.w.now) CHILDREN (a.b + c.loop-i.i) c.requires.0 (omega arith)).1)

pub returns-then-load : goal.returns-then-load
returns-then-load c = let a = c.args in let l = c.loop-i in matching_not (store a.p.now a.w.now CHILDREN) a.a a.b a.n l.i c.loop-i-test.true c.load.result c.load-in-loop-i.result c.load.ensures.word c.load-in-loop-i.ensures.word c.if-load.true

pub returns : goal.returns
returns c = let a = c.args in let l = c.loop-i in matching_end (store a.p.now a.w.now CHILDREN) a.a a.b a.n l.i l.invariant (omega arith)
