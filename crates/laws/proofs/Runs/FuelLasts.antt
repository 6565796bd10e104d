-- FUEL: it lasts: no run over a byte string is refused with number 0. Assumes nothing.
use mathlib.Core.List.{List}
use Prim.Native.Nat.{ℕ, ◌+◌}
use native.Mathlib.Omega.{arith}
use lib.Dec.{leb}
use lib.ListN.{length}
use Rattle.laws.proofs.Building.LayoutStages.{at_nodes-ends}
use Rattle.definition.specs.Job.{Build, Job}
use Rattle.definition.specs.Numbering.{top_of, entries, literals, numbered}
use Rattle.definition.specs.Building.{fill_holes, name_wanted}
use Rattle.definition.specs.Layout.{Ready, build_layout, layout}
use Rattle.definition.specs.Run.{build, Lent, longest_job, enough, fits, run}
use Rattle.facts.proofs.Outcomes.{Ends, well, next, when_bad, Anything, at_record-ends, unless-ends}
use Rattle.laws.specs.Statements.{IsBytes, FuelLasts}
use Rattle.laws.proofs.Form.RefusalNumbers.{NonZero, non_zero_lem, Coded}
use Rattle.laws.proofs.Form.RawNumbersLow.{JobLow}
use Rattle.laws.proofs.Form.FormFuelLasts.{form-ends}
use Rattle.laws.proofs.Numbering.NumberedLow.{numbered-low}
use Rattle.laws.proofs.Definitions.DefinitionRefusals.{raws}
use Rattle.laws.proofs.Runs.EntriesPriced.{priced}
use Rattle.laws.proofs.Runs.UpToBuilding.{Runs, layout-ends}
use Rattle.laws.proofs.Runs.BuildingFuelLasts.{all_there, build_all-lasts, name_slot-ends}

-- building, where no node has a child that isn't there
build_layout-lasts :
    (n top : ℕ) (records : List ℕ) (place : ℕ) (indexes : List (ℕ × ℕ)) (b : Build) (answers : List ℕ) (w : Ready) →
    Runs (Unit {0}) n w →
    Ends Coded Anything (build_layout top records place indexes b answers w)
unfolding build_layout
build_layout-lasts n top records place indexes b answers w r =
    next _ (at_nodes-ends NonZero records w.resolved.marks (build_all-lasts w.resolved.nodes indexes w.pool (all_there w.resolved.nodes (r.fit tt).nodes_fit))) λ m _.
    let rows = fill_holes m.rows.written m.rows.waiting in
    next _ (at_record-ends place (name_slot-ends (name_wanted b.name_byte (length rows)) w.resolved.nodes m)) λ s _. well tt

layout-lasts : (top : ℕ) (job : Job (List ℕ)) → JobLow job → Ends Coded Anything (layout top (numbered job))
unfolding numbered
layout-lasts top job low =
    let n : ℕ = priced (entries (numbered job).definitions) + raws (numbered job).definitions + length job.requests in
    layout-ends
    (Unit {0})
    NonZero
    Anything
    top
    n
    (numbered job)
    (λ c z. z)
    (λ _. numbered-low (literals job) job.definitions low.definitions_low)
    (λ _. low.requests_low)
    (omega arith)
    (build_layout-lasts n top)

build-lasts : (bytes : List ℕ) → IsBytes bytes → Ends Coded Anything (build bytes)
unfolding build
build-lasts bytes are = next _ (form-ends bytes are) λ job low. next _ (layout-lasts (top_of job) job low) λ l _. well tt

run-lasts : (lent : Lent) (bytes : List ℕ) → IsBytes bytes → Ends Coded Anything (run lent bytes)
unfolding run
run-lasts lent bytes are =
    next _ (at_record-ends 0 (unless-ends (leb (length bytes) longest_job) 1 (non_zero_lem 1 tt))) λ _ _.
    next _ (at_record-ends 0 (unless-ends (enough (length bytes) lent) 2 (non_zero_lem 2 tt))) λ _ _.
    next _ (build-lasts bytes are) λ b _.
    next _ (at_record-ends b.0 (unless-ends (fits b.1 lent) 18 (non_zero_lem 18 tt))) λ _ _. well tt

-- the law of fuel
pub fuel_lasts : FuelLasts
fuel_lasts bytes lent r are ran = when_bad (run-lasts lent bytes are) ran
