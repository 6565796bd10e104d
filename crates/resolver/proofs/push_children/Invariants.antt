-- `resolver::push_children` meets its contract: the goals behind lie on the stack, from the top down. Assumes nothing.
use mathlib.Core.Path.{◌≡◌}
use lib.ListN.{length}
use Rattle.store.specs.Store.{store}
use Rattle.resolver.proofs.Children.{Pushing}
use Rattle.resolver.proofs.push_children.Given as goal

abbrev pub invariant-loop-i : goal.invariant-loop-i
invariant-loop-i l = (length l.w ≡ length l.initial.w) × Pushing (store l.p l.initial.w) (store l.p l.w) l.n l.first l.count l.i
