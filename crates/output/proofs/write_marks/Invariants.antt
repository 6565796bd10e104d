-- `output::write_marks` meets its contract: the loop has copied the marks before i. Assumes nothing.
use mathlib.Core.Path.{◌≡◌}
use lib.Seq.{paste}
use Rattle.store.specs.Store.{store}
use Rattle.store.specs.Regions.{ORIGINS}
use Rattle.output.proofs.write_marks.Given as goal

abbrev pub invariant-loop-i : goal.invariant-loop-i
invariant-loop-i l = l.marks ≡ paste l.initial.marks 0 (store l.p l.w ORIGINS) l.i
