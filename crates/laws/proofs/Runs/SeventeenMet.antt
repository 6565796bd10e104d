-- SEVENTEEN MET: if a run is refused with 17, a step that asks for an index is, of rows that occur, so that ExactlySeventeen says why.
-- Assumes nothing.
use mathlib.Core.List.{List}
use mathlib.Core.Logic.{inl, inr}
use mathlib.Core.Path.{◌≡◌, subst}
use Prim.Native.Nat.{ℕ}
use native.Mathlib.Omega.{arith}
use Rattle.definition.specs.Basics.{good, bad, Refusal}
use Rattle.definition.specs.Job.{Job}
use Rattle.definition.specs.Form.{form}
use Rattle.definition.specs.Numbering.{top_of, numbered}
use Rattle.definition.specs.Building.{Row, Rows, row_index}
use Rattle.definition.specs.Run.{Lent, run}
use Rattle.laws.specs.Statements.{RowsOccur}
use Rattle.laws.proofs.Runs.StepsOfRuns.{AsksIndex, LayoutRefused, early, too_new, sixteen, at_slot, at_row}
use Rattle.laws.proofs.Runs.RunRefused.{RunRefused, outside, in_layout, run_refused}
use Rattle.laws.proofs.Runs.StepRefusals.{allocate-refused, no_slot-low}
use Rattle.laws.proofs.Runs.IndexOccurs.{index_occurs}

-- a row that a run asks an index for is refused, of rows that occur
pub record RowMet (bytes : List ℕ) : Type 0 where
  pub job : Job (List ℕ)
  pub formed : form bytes ≡ good job
  pub rows : Rows
  pub row : Row
  pub asks : AsksIndex (top_of job) (numbered job) row rows
  pub occurs : RowsOccur rows
  pub refusal : row_index row rows ≡ bad 17

-- SEVENTEEN MET: if a run is refused with 17, there is such a step
pub seventeen_met : (lent : Lent) (bytes : List ℕ) (r : Refusal) → run lent bytes ≡ bad r → r.code ≡ 17 → RowMet bytes
seventeen_met lent bytes r ran is = go (run_refused lent bytes r ran)
  where
    laid : (job : Job (List ℕ)) → form bytes ≡ good job → LayoutRefused (top_of job) (numbered job) r.code → RowMet bytes
    laid job formed (early h) = absurd (omega (arith, h, is))
    laid job formed (too_new h) = absurd (omega (arith, h, is))
    laid job formed (sixteen h) = absurd (omega (arith, h, is))
    laid job formed (at_slot nodes ldc k p a e) = absurd (omega (arith, is, (allocate-refused nodes ldc k r.code p e).1, no_slot-low ldc))
    laid job formed (at_row row rows a e) =
        record {
          job = job;
          formed = formed;
          rows = rows;
          row = row;
          asks = a;
          occurs = index_occurs (top_of job) (numbered job) row rows a;
          refusal = subst (λ c. row_index row rows ≡ bad c) is e;
        }

    go : RunRefused bytes r.code → RowMet bytes
    go (outside (inl h)) = absurd (omega (arith, h, is))
    go (outside (inr h)) = absurd (omega (arith, h.0, is))
    go (in_layout job formed h) = laid job formed h
