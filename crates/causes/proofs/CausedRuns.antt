-- NO CAUSE: a job of bytes is built exactly if there is no cause of a refusal. Assumes nothing.
use mathlib.Core.Bool.{true, ◌&&◌}
use mathlib.Core.List.{List, map}
use mathlib.Core.Logic.{◌⊎◌, inl, inr}
use mathlib.Core.Path.{◌≡◌, refl, sym, subst, ◌∙◌}
use Prim.Native.Nat.{ℕ, suc, ◌+◌, ◌*◌, ◌/◌, ◌<◌}
use native.Mathlib.Omega.{arith}
use lib.Dec.{leb}
use lib.ListN.{length}
use borrow.Author.Tests.{leb-true}
use Rattle.definition.specs.Basics.{Result, good, bad, Refusal, at_record, unless}
use Rattle.definition.specs.Shapes.{Kind, constant, bootstrap}
use Rattle.definition.specs.Job.{Reference, placed, Job}
use Rattle.definition.specs.Form.{form}
use Rattle.definition.specs.Numbering.{top_of, literals, numbered}
use Rattle.definition.specs.Definitions.{Defined}
use Rattle.definition.specs.Resolving.{table_entry, place_of, follow, goal_of, Resolved}
use Rattle.definition.specs.Layout.{starters, Layout, layout}
use Rattle.definition.specs.Run.{Built, render, Placed, build, Lent, longest_job, enough, class_out, fits, run}
use Rattle.facts.specs.Lists.{Among}
use Rattle.facts.proofs.Lists.{both_true, among-left, map_at}
use Rattle.facts.proofs.Results.{good_inj, good_then, at_record-good, unless-good}
use Rattle.laws.specs.Statements.{IsBytes}
use Rattle.laws.specs.Faithful.{Settled}
use Rattle.causes.specs.CauseStatement.{Resolves, by_raw, by_request, Short, CauseOf, too_long_lem, too_little, not_formed, defining, resolving, slots, no_room_lem, ResolvingCause, NoCause}
use Rattle.laws.proofs.Definitions.DefinedAsPlaced.{start_starters}
use Rattle.laws.proofs.Resolving.JobGoals.{job_names, job_constants}
use Rattle.laws.proofs.Building.LayoutStages.{Stages, stages}
use Rattle.laws.proofs.Building.BuiltJob.{st, facts, asked, raw_settled, index-node}
use Rattle.laws.proofs.Building.JobNodesApart.{nodes_apart}
use Rattle.causes.proofs.CauseDefinitions.{placed-forth}
use Rattle.causes.proofs.Cause.{cause}
use Rattle.causes.proofs.CausedForm.{form_refuted}
use Rattle.causes.proofs.CausedDefinitions.{definition_refuted}
use Rattle.causes.proofs.CausedReached.{resolving_refuted}
use Rattle.causes.proofs.CausedSlots.{slot_refuted}

-- ---- what a job that is laid out resolved

module _ (bytes : List ℕ) (job : Job (List ℕ)) (are : IsBytes bytes) (formed : form bytes ≡ good job) (l : Layout) (laid : layout (top_of job) (numbered job) ≡ good l) where
  abbrev stg : Stages (top_of job) (numbered job) l
  stg = st bytes job l are formed laid

  abbrev d : Defined
  d = stg.defined

  abbrev size : ℕ
  size = job_constants (numbered job)

  abbrev s : Resolved
  s = stg.asked.resolved

  placed-settled : (kind : Kind) (n e : ℕ) → Among (placed kind n e) (numbered job).definitions → Settled s.marks (table_entry (place_of size kind e))
  unfolding place_of
  placed-settled constant n e a =
      let h = start_starters d.held n e ((facts bytes job l are formed laid).all_held.start_held n e a) in
      raw_settled bytes job l are formed laid (table_entry e)
      (among-left (table_entry e) (map (λ r. table_entry r.1) (starters d.held)) (map (λ r. table_entry (size + r.1)) d.indexes)
      (h.0, map_at (λ (r : ℕ × ℕ). table_entry r.1) (starters d.held) h.0 (n, e) h.1))
  placed-settled bootstrap n e a = index-node bytes job l are formed laid n e ((facts bytes job l are formed laid).all_indexes.index_held n e a)

  settled : (place : ℕ) (r : Reference) → Resolves job place r → Settled s.marks (goal_of (job_names (numbered job)) size r)
  unfolding goal_of follow numbered
  settled place r₀ (by_raw i kind n e at) = placed-settled kind n e (i, placed-forth job i kind n e at)
  settled place r₀ (by_request j q at) = ((asked bytes job l are formed laid).2 j q at).2.settled

  resolving_refuted_lem : {code place : ℕ} → ResolvingCause job code place → ⊥
  resolving_refuted_lem {code} {place} c =
      resolving_refuted job d stg.is_defined s (asked bytes job l are formed laid).0.faithful (nodes_apart bytes job l are formed laid) (settled place) c

-- ---- a run that ends well

-- no output is short
long_enough : (lent : Lent) (b : Built) → fits b lent ≡ true → Short lent b → ⊥
unfolding fits
long_enough lent b t short =
    let x₁ = leb (length b.answers) lent.answers in
    let x₂ = leb (length b.marks) lent.marks in
    let x₃ = leb (length b.pool) lent.pool in
    let x₄ = leb (length b.bootstraps) lent.bootstraps in
    let x₅ = leb (length (class_out b.class)) lent.class in
    let (t₁, u₁) = both_true x₁ (x₂ && (x₃ && (x₄ && x₅))) t in
    let (t₂, u₂) = both_true x₂ (x₃ && (x₄ && x₅)) u₁ in
    let (t₃, u₃) = both_true x₃ (x₄ && x₅) u₂ in
    let (t₄, t₅) = both_true x₄ x₅ u₃ in
    go t₁ t₂ t₃ t₄ t₅ short
  where
    go :
        leb (length b.answers) lent.answers ≡ true →
        leb (length b.marks) lent.marks ≡ true →
        leb (length b.pool) lent.pool ≡ true →
        leb (length b.bootstraps) lent.bootstraps ≡ true →
        leb (length (class_out b.class)) lent.class ≡ true →
        Short lent b →
        ⊥
    go t₁ t₂ t₃ t₄ t₅ (inl h) = omega (arith, h, leb-true (length b.answers) lent.answers t₁)
    go t₁ t₂ t₃ t₄ t₅ (inr (inl h)) = omega (arith, h, leb-true (length b.marks) lent.marks t₂)
    go t₁ t₂ t₃ t₄ t₅ (inr (inr (inl h))) = omega (arith, h, leb-true (length b.pool) lent.pool t₃)
    go t₁ t₂ t₃ t₄ t₅ (inr (inr (inr (inl h)))) = omega (arith, h, leb-true (length b.bootstraps) lent.bootstraps t₄)
    go t₁ t₂ t₃ t₄ t₅ (inr (inr (inr (inr h)))) = omega (arith, h, leb-true (length (class_out b.class)) lent.class t₅)

much_lent : (lent : Lent) (n : ℕ) → enough n lent ≡ true → (lent.work < 6 * n + 1024) ⊎ (lent.gaps < n / 5 + 2) → ⊥
unfolding enough
much_lent lent n t short =
    let (t₁, t₂) = both_true (leb (6 * n + 1024) lent.work) (leb (n / 5 + 2) lent.gaps) t in
    go t₁ t₂ short
  where
    go : leb (6 * n + 1024) lent.work ≡ true → leb (n / 5 + 2) lent.gaps ≡ true → (lent.work < 6 * n + 1024) ⊎ (lent.gaps < n / 5 + 2) → ⊥
    go t₁ t₂ (inl h) = omega (arith, h, leb-true (6 * n + 1024) lent.work t₁)
    go t₁ t₂ (inr h) = omega (arith, h, leb-true (n / 5 + 2) lent.gaps t₂)

-- what a run that ends well passed
record Passed (lent : Lent) (bytes : List ℕ) : Type 0 where
  short_job : leb (length bytes) longest_job ≡ true
  lent_enough_lem : enough (length bytes) lent ≡ true
  job : Job (List ℕ)
  formed : form bytes ≡ good job
  laid_out : Layout
  laid : layout (top_of job) (numbered job) ≡ good laid_out
  room : fits (render (literals job) laid_out) lent ≡ true

passed : (lent : Lent) (bytes : List ℕ) (b : Built) → run lent bytes ≡ good b → Passed lent bytes
unfolding run build
passed lent bytes b e =
    good_then (at_record 0 (unless (leb (length bytes) longest_job) 1)) _ b e λ u₁ h₁ e₁.
    good_then (at_record 0 (unless (enough (length bytes) lent) 2)) _ b e₁ λ u₂ h₂ e₂.
    good_then (build bytes) _ b e₂ λ r h₃ e₃.
    good_then (form bytes) _ r h₃ λ job formed f₁.
    good_then (layout (top_of job) (numbered job)) _ r f₁ λ l laid f₂.
    good_then (at_record r.0 (unless (fits r.1 lent) 18)) _ b e₃ λ u₃ h₄ e₄.
    let is : (suc (length job.definitions + length job.requests), render (literals job) l) ≡ r = good_inj f₂ in
    let t : fits r.1 lent ≡ true = unless-good (fits r.1 lent) 18 u₃ (at_record-good r.0 (unless (fits r.1 lent) 18) u₃ h₄) in
    record {
      short_job = unless-good (leb (length bytes) longest_job) 1 u₁ (at_record-good 0 (unless (leb (length bytes) longest_job) 1) u₁ h₁);
      lent_enough_lem = unless-good (enough (length bytes) lent) 2 u₂ (at_record-good 0 (unless (enough (length bytes) lent) 2) u₂ h₂);
      job = job;
      formed = formed;
      laid_out = l;
      laid = laid;
      room = subst (λ (x : Placed). fits x.1 lent ≡ true) (sym is) t;
    }

module _ (lent : Lent) (bytes : List ℕ) (are : IsBytes bytes) (p : Passed lent bytes) where
  -- the job of a cause is the job
  same-job : (job : Job (List ℕ)) → form bytes ≡ good job → p.job ≡ job
  same-job job f = good_inj (sym p.formed ∙ f)

  uncaused : (code place : ℕ) → CauseOf lent bytes code place → ⊥
  uncaused code place (too_long_lem h) = omega (arith, h, leb-true (length bytes) longest_job p.short_job)
  uncaused code place (too_little h) = much_lent lent (length bytes) p.lent_enough_lem h
  uncaused code place (not_formed c) = form_refuted bytes p.job are p.formed c
  uncaused code place (defining job f c) =
      let laid = subst (λ j. layout (top_of j) (numbered j) ≡ good p.laid_out) (same-job job f) p.laid in
      let stg = stages (top_of job) (numbered job) p.laid_out laid in
      definition_refuted job stg.defined stg.is_defined c
  uncaused code place (resolving job f c) =
      resolving_refuted_lem bytes job are f p.laid_out (subst (λ j. layout (top_of j) (numbered j) ≡ good p.laid_out) (same-job job f) p.laid) c
  uncaused code place (slots job f c) =
      slot_refuted bytes job are f p.laid_out (subst (λ j. layout (top_of j) (numbered j) ≡ good p.laid_out) (same-job job f) p.laid) c
  uncaused code place (no_room_lem job l f laid short) =
      let same : p.laid_out ≡ l = good_inj (sym (subst (λ j. layout (top_of j) (numbered j) ≡ good p.laid_out) (same-job job f) p.laid) ∙ laid) in
      let room : fits (render (literals job) l) lent ≡ true =
      subst (λ l. fits (render (literals job) l) lent ≡ true) same (subst (λ (j : Job (List ℕ)). fits (render (literals j) p.laid_out) lent ≡ true) (same-job job f) p.room) in
      long_enough lent (render (literals job) l) room short

-- NO CAUSE: a job of bytes is built exactly if there is no cause of a refusal
pub no_cause : NoCause
no_cause lent bytes are = (λ built. uncaused lent bytes are (passed lent bytes built.0 built.1), λ gone. go gone (run lent bytes) refl)
  where
    go : ((code place : ℕ) → CauseOf lent bytes code place → ⊥) → (o : Result Refusal Built) → run lent bytes ≡ o → (b : Built) × (run lent bytes ≡ good b)
    go gone (good b) e = (b, e)
    go gone (bad r) e = absurd (gone r.code r.place (cause lent bytes r are e))
