-- INDEX OCCURS: all rows that a run asks an index of occur. Assumes nothing.
use mathlib.Core.List.{List}
use mathlib.Core.Path.{◌≡◌}
use Prim.Native.Nat.{ℕ}
use lib.ListN.{length}
use Rattle.definition.specs.Basics.{good}
use Rattle.definition.specs.Job.{Request, Job}
use Rattle.definition.specs.Definitions.{Defined, define_all, nothing_defined}
use Rattle.definition.specs.Building.{Row, Rows}
use Rattle.definition.specs.Layout.{Ready}
use Rattle.laws.specs.Statements.{RowsOccur}
use Rattle.laws.proofs.Building.LayoutStages.{constants_in}
use Rattle.laws.proofs.Runs.StepsOfRuns.{Reaches, after_fifty, after_answer, AsksIndex}
use Rattle.laws.proofs.Runs.RowsOccur.{rows_occur_lem}

reaches_defined :
    (top : ℕ) (job : Job ℕ) (d : Defined) {left : List Request} {w : Ready} →
    Reaches top job d left w →
    define_all top (constants_in job) 0 job.definitions nothing_defined ≡ good d
reaches_defined top job d (after_fifty w defined ready) = defined
reaches_defined top job d (after_answer q left w w' a h e) = reaches_defined top job d h

-- INDEX OCCURS: all rows that a run asks an index of occur
pub index_occurs : (top : ℕ) (job : Job ℕ) (row : Row) (rows : Rows) → AsksIndex top job row rows → RowsOccur rows
index_occurs top job row rows a =
    let w = a.state in
    rows_occur_lem top (constants_in job) job.definitions a.defined (reaches_defined top job a.defined a.reached)
    w.resolved.nodes
    (length (constants_in job))
    w.resolved.marks
    w.pool
    a.rows_in
