-- `store::lay` meets its contract. The loop keeps: the places up to k are laid out. Assumes nothing.
use Rattle.store.proofs.Placing.{Laying}
use Rattle.store.proofs.lay.Given as goal

abbrev pub invariant-loop-k : goal.invariant-loop-k
invariant-loop-k l = Laying l.p l.sizes l.k
