-- `output::write_answers` meets its contract: the loop has copied the answers before i. Assumes nothing.
use mathlib.Core.Path.{◌≡◌}
use lib.Seq.{paste}
use Rattle.store.specs.Store.{store}
use Rattle.store.specs.Regions.{ANSWERS}
use Rattle.output.proofs.write_answers.Given as goal

abbrev pub invariant-loop-i : goal.invariant-loop-i
invariant-loop-i l = l.answers ≡ paste l.initial.answers 0 (store l.p l.w ANSWERS) l.i
