-- `interner::same_children` meets its contract: the children behind are the same. Assumes nothing.
use Rattle.interner.proofs.Children.{Matching}
use Rattle.store.specs.Store.{store}
use Rattle.store.specs.Regions.{CHILDREN}
use Rattle.interner.proofs.same_children.Given as goal

abbrev pub invariant-loop-i : goal.invariant-loop-i
invariant-loop-i l = Matching (store l.p l.w CHILDREN) l.a l.b l.n l.i
