-- `store::find_number` meets its contract. Assumes nothing.
use Rattle.store.specs.Store.{store}
use Rattle.store.proofs.Searching.{ForNumber}
use Rattle.store.proofs.find_number.Given as goal

abbrev pub invariant-loop-i : goal.invariant-loop-i
invariant-loop-i l = ForNumber l.p (store l.p l.w) l.heads l.keys l.n l.link

abbrev pub decreases-loop-i : goal.decreases-loop-i
decreases-loop-i l = l.link
