-- The nodes of a built job: no two are equal, and a node's children come before it. Assumes nothing.
use mathlib.Core.Bool.{Bool, ◌||◌, not}
use mathlib.Core.List.{List, [], ◌∷◌}
use mathlib.Core.Path.{◌≡◌, refl, subst}
use Prim.Native.Nat.{ℕ, suc}
use lib.Dec.{leb}
use Rattle.definition.specs.Basics.{good, at_record, unless}
use Rattle.definition.specs.Shapes.{Entry}
use Rattle.definition.specs.Job.{Request, Job}
use Rattle.definition.specs.Form.{form}
use Rattle.definition.specs.Numbering.{top_of, numbered}
use Rattle.definition.specs.Definitions.{Naming, Defined}
use Rattle.definition.specs.Resolving.{Goal, goal_of, child_of, resolve, resolve_all, nothing_resolved}
use Rattle.definition.specs.Slots.{highest_ldc}
use Rattle.definition.specs.Building.{slot_of}
use Rattle.definition.specs.Layout.{Ready, end_definitions, answer, answer_all, Layout, layout}
use Rattle.facts.proofs.Results.{good_inj, good_then, at_record-good}
use Rattle.laws.specs.Statements.{IsBytes}
use Rattle.laws.proofs.Resolving.JobGoals.{job_constants}
use Rattle.laws.proofs.Resolving.ResolvedNodes.{GoodTable}
use Rattle.laws.proofs.Resolving.NodesApart.{Orderly, Tidy, nothing_tidy, resolve-tidy, resolve_all-tidy}
use Rattle.laws.proofs.Building.AfterRecord50.{raw_goals}
use Rattle.laws.proofs.Building.BeforeRequests.{same-table}
use Rattle.laws.proofs.Building.BuiltJob.{st, table, good_job_table, nodes}

module _ (table : List (Entry ℕ Goal)) (fine : GoodTable table) where
  -- the table is this one, and what is resolved is in order
  abbrev TidyReady : Ready → Type 0
  TidyReady w = (w.table ≡ table) × Tidy table w.resolved

  ready_tidy : (top n : ℕ) (d : Defined) (w : Ready) → end_definitions top table n d ≡ good w → TidyReady w
  unfolding end_definitions
  ready_tidy top n d w e =
      good_then (resolve_all table (raw_goals n d) (nothing_resolved table)) _ w e λ s resolved e₁.
      subst TidyReady (good_inj e₁) (refl, resolve_all-tidy table fine (raw_goals n d) (nothing_resolved table) s (nothing_tidy table) resolved)

  answer-tidy : (ldc : Bool) (goal : Goal) (w : Ready) (r : ℕ × Ready) → TidyReady w → answer ldc goal w ≡ good r → TidyReady r.1
  unfolding answer
  answer-tidy ldc goal w r h e =
      good_then (resolve w.table goal w.resolved) _ r e λ s resolved e₁.
      good_then (slot_of s.nodes ldc (child_of s.marks goal) w.pool) _ r e₁ λ a _ e₂.
      good_then (unless (not ldc || leb a.0 highest_ldc) 16) _ r e₂ λ _ _ e₃.
      subst (λ (x : ℕ × Ready). TidyReady x.1) (good_inj e₃)
      (h.0, resolve-tidy table fine goal w.resolved s h.1 (subst (λ t. resolve t goal w.resolved ≡ good s) h.0 resolved))

  answer_all-tidy :
      (names : List Naming) (constants place : ℕ) (requests : List Request) (w : Ready) (r : List ℕ × Ready) →
      TidyReady w →
      answer_all names constants place requests w ≡ good r →
      TidyReady r.1
  unfolding answer_all
  answer_all-tidy names constants place [] w r h e = subst (λ (x : List ℕ × Ready). TidyReady x.1) (good_inj e) h
  answer_all-tidy names constants place (q ∷ requests) w r h e =
      good_then (at_record place (answer q.ldc (goal_of names constants q.what) w)) _ r e λ a here e₁.
      good_then (answer_all names constants (suc place) requests a.1) _ r e₁ λ rest there e₂.
      let one = answer-tidy q.ldc (goal_of names constants q.what) w a h (at_record-good place _ a here) in
      subst (λ (x : List ℕ × Ready). TidyReady x.1) (good_inj e₂) (answer_all-tidy names constants (suc place) requests a.1 rest one there)

module _ (bytes : List ℕ) (job : Job (List ℕ)) (l : Layout) (are : IsBytes bytes) (formed : form bytes ≡ good job) (laid : layout (top_of job) (numbered job) ≡ good l) where
  pub nodes_apart : Orderly (nodes bytes job l are formed laid)
  nodes_apart =
      let stages = st bytes job l are formed laid in
      let fine = good_job_table bytes job l are formed laid in
      let ready =
      ready_tidy (table bytes job l are formed laid) fine (top_of job) (job_constants (numbered job)) stages.defined stages.ready
      (subst (λ t. end_definitions (top_of job) t (job_constants (numbered job)) stages.defined ≡ good stages.ready) (same-table bytes job are formed stages.defined stages.is_defined) stages.is_ready) in
      (answer_all-tidy (table bytes job l are formed laid) fine stages.defined.names _ _ (numbered job).requests stages.ready (stages.answers, stages.asked) ready stages.is_asked).1.orderly
