-- `interner::hash_children` meets its contract: the hash is that of the children behind. Assumes nothing.
use Rattle.interner.proofs.Children.{Folding}
use Rattle.store.specs.Store.{store}
use Rattle.store.specs.Regions.{CHILDREN}
use Rattle.interner.proofs.hash_children.Given as goal

abbrev pub invariant-loop-i : goal.invariant-loop-i
invariant-loop-i l = Folding (store l.p l.w CHILDREN) l.first l.n l.seed l.hash l.i
