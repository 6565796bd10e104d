-- VISITS: those of a built job are at most its entries, references in entries, raw definitions and requests together. Assumes nothing.
use mathlib.Core.List.{List, map}
use mathlib.Core.Path.{◌≡◌}
use Prim.Native.Nat.{ℕ, ◌+◌, ◌≤◌}
use native.Mathlib.Omega.{arith}
use lib.Dec.{leb}
use lib.ListN.{length}
use Rattle.definition.specs.Places.{at_nodes}
use Rattle.definition.specs.Basics.{good, at_record, unless, only, concat}
use Rattle.definition.specs.Job.{Build, Job}
use Rattle.definition.specs.Form.{form}
use Rattle.definition.specs.Numbering.{top_of, entries, literals, numbered}
use Rattle.definition.specs.Building.{fill_holes, build_all, name_wanted, name_slot}
use Rattle.definition.specs.Layout.{Ready, layout_of, build_layout, layout}
use Rattle.definition.specs.Run.{render, build, longest_job, enough, fits, run}
use Rattle.facts.proofs.Outcomes.{Ends, well, next, when_good, Anything, anyhow}
use Rattle.laws.specs.Statements.{is_raw, Visits}
use Rattle.laws.proofs.Runs.EntriesPriced.{priced_numbered, raws_numbered}
use Rattle.laws.proofs.Runs.UpToBuilding.{Runs, layout-ends}

-- what a job's visits are held to
most : Job (List ℕ) → ℕ
most job =
    let all = entries job.definitions in
    length all + length (concat (map (λ e. e.kids) all)) + length (only is_raw job.definitions) + length job.requests

build_layout-visits :
    (n top : ℕ) (records : List ℕ) (place : ℕ) (indexes : List (ℕ × ℕ)) (b : Build) (answers : List ℕ) (w : Ready) →
    Runs ⊥ n w →
    Ends Anything (λ l. l.visits ≤ n) (build_layout top records place indexes b answers w)
unfolding build_layout layout_of
build_layout-visits n top records place indexes b answers w r =
    let c = r.counted in
    let h : w.resolved.visits ≤ n = omega arith in
    next _ (anyhow (at_nodes records w.resolved.marks (build_all w.resolved.nodes indexes w.pool))) λ m _.
    let rows = fill_holes m.rows.written m.rows.waiting in
    next _ (anyhow (at_record place (name_slot (name_wanted b.name_byte (length rows)) w.resolved.nodes m))) λ s _. well h

layout-visits : (top : ℕ) (job : Job (List ℕ)) → Ends Anything (λ l. l.visits ≤ most job) (layout top (numbered job))
unfolding most numbered
layout-visits top job =
    layout-ends
    ⊥
    Anything
    (λ l. l.visits ≤ most job)
    top
    (most job)
    (numbered job)
    (λ c z. tt)
    (λ x. absurd x)
    (λ x. absurd x)
    (omega (arith, priced_numbered (literals job) job.definitions, raws_numbered (literals job) job.definitions))
    (build_layout-visits (most job) top)

build-visits :
    (bytes : List ℕ) (job : Job (List ℕ)) → form bytes ≡ good job → Ends Anything (λ r. r.1.visits ≤ most job) (build bytes)
unfolding build render
build-visits bytes job formed = rw (formed, build) (next _ (layout-visits (top_of job) job) λ l h. well h)

pub visits : Visits
unfolding run most
visits bytes job lent b formed ran =
    when_good
    (next _ (anyhow (at_record 0 (unless (leb (length bytes) longest_job) 1))) λ _ _.
    next _ (anyhow (at_record 0 (unless (enough (length bytes) lent) 2))) λ _ _.
    next _ (build-visits bytes job formed) λ r h.
    next _ (anyhow (at_record r.0 (unless (fits r.1 lent) 18))) λ _ _.
    well h)
    ran
