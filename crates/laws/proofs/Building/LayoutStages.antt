-- A job that is laid out went well at each stage. Assumes nothing.
use mathlib.Core.List.{List, ◌++◌}
use mathlib.Core.Path.{◌≡◌, ap, refl}
use Prim.Native.Nat.{ℕ, suc}
use lib.ListN.{length}
use Rattle.facts.proofs.Outcomes.{Ends, well, refused}
use Rattle.definition.specs.Places.{at_nodes}
use Rattle.definition.specs.Basics.{good, Result, bad, Refusal}
use Rattle.definition.specs.Shapes.{Entry}
use Rattle.definition.specs.Job.{Reference, Job}
use Rattle.definition.specs.Numbering.{constants_of, bootstraps_of}
use Rattle.definition.specs.Definitions.{Defined, define_all, nothing_defined}
use Rattle.definition.specs.Resolving.{Goal, linked, Mark}
use Rattle.definition.specs.Building.{Row, fill_holes, Made, build_all, name_wanted, name_slot}
use Rattle.definition.specs.Layout.{Ready, end_definitions, answer_all, Layout, layout_of, build_layout, index_nodes, layout}
use Rattle.facts.proofs.Results.{good_inj, good_first, at_record-good, bad≢good}

-- the constants and the whole table of a job
abbrev pub constants_in : Job ℕ → List (Entry ℕ Reference)
constants_in job = constants_of job.definitions

abbrev pub table_in : Job ℕ → Defined → List (Entry ℕ Goal)
table_in job d = linked d.names (length (constants_in job)) (constants_in job ++ bootstraps_of job.definitions)

-- the final rows of a build
abbrev pub rows_in : Made → List Row
rows_in m = fill_holes m.rows.written m.rows.waiting

pub record Stages (top : ℕ) (job : Job ℕ) (l : Layout) : Type 0 where
  pub defined : Defined
  pub is_defined : define_all top (constants_in job) 0 job.definitions nothing_defined ≡ good defined
  pub ready : Ready
  pub is_ready : end_definitions top (table_in job defined) (length (constants_in job)) defined ≡ good ready
  pub answers : List ℕ
  pub asked : Ready
  pub is_asked : answer_all defined.names (length (constants_in job)) (suc (length job.definitions)) job.requests ready ≡ good (answers, asked)
  pub made : Made
  pub is_made :
      build_all asked.resolved.nodes (index_nodes (length (constants_in job)) asked.resolved.marks defined.indexes) asked.pool ≡ good made
  pub named : ℕ × Made
  pub is_named : name_slot (name_wanted job.build.name_byte (length (rows_in made))) asked.resolved.nodes made ≡ good named
  pub is_laid : layout_of top answers asked.origins asked.resolved.visits job.build.class (rows_in made) named ≡ l

-- a good result at its nodes' records is a good result
pub at_nodes-good : {A : Type 0} (records : List ℕ) (marks : List Mark) (r : Result Refusal A) (a : A) → at_nodes records marks r ≡ good a → r ≡ good a
unfolding at_nodes
at_nodes-good records marks (good x) a h = ap good (good_inj h)
at_nodes-good records marks (bad e) a h = bad≢good h

pub at_nodes-ends :
    {A : Type 0} (Z : ℕ → Type 0) {P : A → Type 0} {r : Result Refusal A} (records : List ℕ) (marks : List Mark) →
    Ends (λ e. Z e.code) P r →
    Ends (λ e. Z e.code) P (at_nodes records marks r)
unfolding at_nodes
at_nodes-ends Z records marks (well h) = well h
at_nodes-ends Z records marks (refused h) = refused h

pub known-nodes :
    {A : Type 0} (Z : ℕ → Type 0) {P : A → Type 0} (records : List ℕ) (marks : List Mark) (r : Result Refusal A) →
    Ends (λ e. Z e.code) P r →
    Ends (λ e. Z e.code) (λ a. P a × (r ≡ good a)) (at_nodes records marks r)
unfolding at_nodes
known-nodes Z records marks (good a) (well h) = well (h, refl)
known-nodes Z records marks (bad e) (refused h) = refused h

pub stages : (top : ℕ) (job : Job ℕ) (l : Layout) → layout top job ≡ good l → Stages top job l
unfolding layout build_layout
stages top job l h =
    let (d, hd, h₁) = good_first {A = Defined} _ _ _ h in
    let (w, hw, h₂) = good_first {A = Ready} _ _ _ h₁ in
    let (r, hr, h₃) = good_first {A = List ℕ × Ready} _ _ _ h₂ in
    let (m, hm, h₄) = good_first {A = Made} _ _ _ h₃ in
    let (n, hn, h₅) = good_first {A = ℕ × Made} _ _ _ h₄ in
    record {
      defined = d;
      is_defined = hd;
      ready = w;
      is_ready = at_record-good _ _ _ hw;
      answers = r.0;
      asked = r.1;
      is_asked = hr;
      made = m;
      is_made = at_nodes-good _ _ _ _ hm;
      named = n;
      is_named = at_record-good _ _ _ hn;
      is_laid = good_inj h₅;
    }
