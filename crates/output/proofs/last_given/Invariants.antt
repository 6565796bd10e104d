-- `output::last_given` meets its contract: no node behind has a slot above the last one found. Assumes nothing.
use Rattle.store.specs.Regions.{GIVEN}
use Rattle.store.specs.Store.{store}
use Rattle.output.specs.Contents.{NoneAbove}
use Rattle.output.proofs.last_given.Given as goal

abbrev pub invariant-loop-k : goal.invariant-loop-k
invariant-loop-k l = NoneAbove (store l.p l.w GIVEN) l.k l.last
