-- `interner::hash_children` meets its contract: the hash is that of the children behind. Assumes nothing.
use Rattle.interner.proofs.Children.{folding_begin, folding_next}
use Rattle.store.proofs.Stores.{in_words}
use Rattle.store.specs.Store.{store}
use Rattle.store.specs.Regions.{CHILDREN}
use lib.ListN.{length}
use Prim.Native.Nat.{◌+◌}
use native.Mathlib.Omega.{arith}
use Rattle.interner.proofs.hash_children.Goals as goal

pub loop-i-init : goal.loop-i-init
loop-i-init c = let a = c.args in folding_begin (store a.p.now a.w.now CHILDREN) a.first a.n a.seed c.requires.2

pub overflow_add-first : goal.overflow_add-first
overflow_add-first c = let a = c.args in omega (arith, (in_words a.p.now (length a.w.now) CHILDREN (a.first + c.loop-i.i) c.requires.0 (omega arith)).1)

pub loop-i-preserved : goal.loop-i-preserved
loop-i-preserved c = let a = c.args in let l = c.loop-i in folding_next (store a.p.now a.w.now CHILDREN) a.first a.n a.seed l.hash l.i l.invariant c.loop-i-test.true c.mix-hash.result c.load.result c.load.ensures.word c.mix-hash.ensures.0 c.mix-hash.ensures.1
