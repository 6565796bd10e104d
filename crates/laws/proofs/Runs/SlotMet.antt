-- SLOT MET: if a run over bytes is refused with 14 or 15, a step that asks for a slot is, by a pool that occurs, so that Exactly says why.
-- Assumes nothing.
use mathlib.Core.Bool.{Bool}
use mathlib.Core.List.{List}
use mathlib.Core.Logic.{◌⊎◌, inl, inr}
use mathlib.Core.Option.{none}
use mathlib.Core.Path.{◌≡◌}
use Prim.Native.Nat.{ℕ, ◌≤◌, ◌<◌}
use native.Mathlib.Omega.{arith}
use lib.ListN.{length}
use Rattle.definition.specs.Basics.{good, bad, Refusal, lookup}
use Rattle.definition.specs.Job.{Job}
use Rattle.definition.specs.Form.{form}
use Rattle.definition.specs.Numbering.{top_of, numbered}
use Rattle.definition.specs.Definitions.{Held}
use Rattle.definition.specs.Resolving.{Node}
use Rattle.definition.specs.Building.{Pool, allocate}
use Rattle.definition.specs.Run.{Lent, run}
use Rattle.laws.specs.Statements.{Occurs, IsBytes}
use Rattle.laws.proofs.Runs.StepsOfRuns.{AsksSlot, LayoutRefused, early, too_new, sixteen, at_slot, at_row}
use Rattle.laws.proofs.Runs.RunRefused.{RunRefused, outside, in_layout, run_refused}
use Rattle.laws.proofs.Runs.StepRefusals.{allocate-refused, row_index-refused}
use Rattle.laws.proofs.Runs.SlotOccurs.{slot_occurs}

-- a slot that a run asks for is refused, by a pool that occurs, to a node that has none
pub record SlotMet (bytes : List ℕ) (code : ℕ) : Type 0 where
  pub job : Job (List ℕ)
  pub formed : form bytes ≡ good job
  pub nodes : List Node
  pub ldc : Bool
  pub node : ℕ
  pub pool : Pool
  pub asks : AsksSlot (top_of job) (numbered job) nodes ldc node pool
  pub held : List (ℕ × Held)
  pub occurs : Occurs (top_of job) held nodes pool
  pub there : node < length nodes
  pub new : lookup node pool.given ≡ none
  pub refusal : allocate nodes ldc node pool ≡ bad code

-- SLOT MET: if a run over bytes is refused with 14 or 15, there is such a step
pub slot_met :
    (lent : Lent) (bytes : List ℕ) (r : Refusal) → IsBytes bytes → run lent bytes ≡ bad r → (r.code ≡ 14) ⊎ (r.code ≡ 15) → SlotMet bytes r.code
slot_met lent bytes r are ran is = go (run_refused lent bytes r ran)
  where
    low : (r.code ≡ 14) ⊎ (r.code ≡ 15) → (14 ≤ r.code) × (r.code ≤ 15)
    low (inl h) = (omega (arith, h), omega (arith, h))
    low (inr h) = (omega (arith, h), omega (arith, h))

    laid : (job : Job (List ℕ)) → form bytes ≡ good job → LayoutRefused (top_of job) (numbered job) r.code → SlotMet bytes r.code
    laid job formed (early h) = absurd (omega (arith, h, (low is).0))
    laid job formed (too_new h) = absurd (omega (arith, h, (low is).1))
    laid job formed (sixteen h) = absurd (omega (arith, h, (low is).1))
    laid job formed (at_slot nodes ldc k p a e) =
        let o = slot_occurs bytes job are formed a in
        record {
          job = job;
          formed = formed;
          nodes = nodes;
          ldc = ldc;
          node = k;
          pool = p;
          asks = a;
          held = o.0;
          occurs = o.1;
          there = o.2;
          new = (allocate-refused nodes ldc k r.code p e).0;
          refusal = e;
        }
    laid job formed (at_row row rows a e) = absurd (omega (arith, (low is).1, row_index-refused row r.code rows e))

    go : RunRefused bytes r.code → SlotMet bytes r.code
    go (outside (inl h)) = absurd (omega (arith, h, (low is).0))
    go (outside (inr h)) = absurd (omega (arith, h.0, (low is).1))
    go (in_layout job formed h) = laid job formed h
