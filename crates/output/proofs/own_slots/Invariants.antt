-- `output::own_slots` meets its contract: the nodes behind stand in the chains of their slots. Assumes nothing.
use Rattle.store.specs.Store.{store}
use Rattle.output.proofs.Owners.{Owning}
use Rattle.output.proofs.own_slots.Given as goal

abbrev pub invariant-loop-k : goal.invariant-loop-k
invariant-loop-k l = Owning l.p (store l.p l.initial.w) (store l.p l.w) l.k-end l.k
