-- ROWS OCCUR: where building, as a layout calls it, ends well, the rows that it made occur. Assumes nothing.
use mathlib.Core.List.{List}
use mathlib.Core.Path.{◌≡◌}
use Prim.Native.Nat.{ℕ}
use Rattle.definition.specs.Basics.{good}
use Rattle.definition.specs.Shapes.{Entry}
use Rattle.definition.specs.Job.{Reference, Definition}
use Rattle.definition.specs.Definitions.{Defined, define_all, nothing_defined}
use Rattle.definition.specs.Resolving.{Node, Mark}
use Rattle.definition.specs.Building.{Pool, Rows, Made, build_all}
use Rattle.definition.specs.Layout.{index_nodes}
use Rattle.facts.proofs.Outcomes.{Ends, when_good, Anything}
use Rattle.laws.specs.Statements.{RowsOccur, raw_only, after_row}
use Rattle.laws.proofs.Runs.StepsOfRuns.{PoolIn, RowsIn, raw_ones, after_inline}
use Rattle.laws.proofs.Runs.StepsOfBuilding.{build_all-steps}

-- what building leaves, whatever is known of its refusals
pub built :
    (nodes : List Node) (indexes : List (ℕ × ℕ)) (start : Pool) →
    Ends Anything (λ m. PoolIn nodes start m.pool × RowsIn nodes indexes start m.rows) (build_all nodes indexes start)
built nodes indexes start = build_all-steps nodes indexes start Anything tt tt (λ k c code p o a high e. tt) (λ row code rows q is e. tt)

module _
    (top : ℕ)
    (constants : List (Entry ℕ Reference))
    (definitions : List (Definition ℕ))
    (d : Defined)
    (defined : define_all top constants 0 definitions nothing_defined ≡ good d)
    (nodes : List Node)
    (n : ℕ)
    (marks : List Mark)
    (p : Pool) where
  pub rows_occur_lem : {rows : Rows} → RowsIn nodes (index_nodes n marks d.indexes) p rows → RowsOccur rows
  rows_occur_lem (raw_ones waiting p' e) = raw_only top constants definitions d nodes p p' n marks waiting defined e
  rows_occur_lem (after_inline row i rows rows' h is e) = after_row row i rows rows' (rows_occur_lem h) e

  -- ROWS OCCUR: where building, as a layout calls it, ends well, the rows that it made occur
  pub rows_occur : (m : Made) → build_all nodes (index_nodes n marks d.indexes) p ≡ good m → RowsOccur m.rows
  rows_occur m e = rows_occur_lem (when_good (built nodes (index_nodes n marks d.indexes) p) e).1
