-- `trace::run_steps` meets its contract: the counts and the two tables are those before step i. Assumes nothing.
use Rattle.trace.specs.Answers.{held}
use Rattle.trace.proofs.Going.{Going}
use Rattle.trace.proofs.run_steps.Given as goal

abbrev pub invariant-loop-i : goal.invariant-loop-i
invariant-loop-i l = Going (held l.pool.bytes.now l.pool.places.now) l.trace l.initial.flags l.flags l.clear l.counts.good l.counts.failed l.counts.rested l.i
