-- `resolver::write_children` meets its contract: the children behind are written, and the other places are as they were. Assumes nothing.
use mathlib.Core.Path.{◌≡◌}
use lib.ListN.{length}
use Rattle.store.specs.Store.{store}
use Rattle.resolver.proofs.Children.{Writing}
use Rattle.resolver.proofs.write_children.Given as goal

abbrev pub invariant-loop-i : goal.invariant-loop-i
invariant-loop-i l = (length l.w ≡ length l.initial.w) × Writing (store l.p l.initial.w) (store l.p l.w) l.first l.end l.i
