-- MARKS: an answer is raw exactly if its reference leads to a raw number; new exactly if it leads to an entry and no earlier request leads to
-- the same constant; old exactly if one does. Assumes nothing.
use mathlib.Core.List.{List, map, ◌++◌}
use mathlib.Core.Logic.{◌↔◌, ◌⊎◌, inl, inr}
use mathlib.Core.Option.{some}
use mathlib.Core.Path.{◌≡◌, refl, sym, ap, subst, ◌∙◌}
use Prim.Native.Nat.{ℕ, zero, suc, ◌-◌, ◌≤◌}
use native.Mathlib.Omega.{arith}
use lib.ListN.{get_elem?, length-map}
use Rattle.definition.specs.Basics.{good, lookup}
use Rattle.definition.specs.Job.{Request, Job}
use Rattle.definition.specs.Form.{form}
use Rattle.definition.specs.Numbering.{top_of, literals, numbered}
use Rattle.definition.specs.Resolving.{Goal, raw_number, table_entry, goal_of, first_node, Mark, done, child_of}
use Rattle.definition.specs.Building.{Origin, raw, new, old, mark_of}
use Rattle.definition.specs.Layout.{Layout, layout_of, layout}
use Rattle.definition.specs.Run.{Built, render}
use Rattle.facts.proofs.Lists.{clash, none≢some, map-some}
use Rattle.facts.proofs.Each.{each_at}
use Rattle.laws.specs.Statements.{IsBytes}
use Rattle.laws.specs.LeadsStatement.{Leads}
use Rattle.laws.specs.Faithful.{Settled}
use Rattle.laws.specs.MarksStatement.{AskedBefore, MarkedBy, Marks}
use Rattle.laws.proofs.Numbering.RunsLaidOut.{run-laid}
use Rattle.laws.proofs.Resolving.JobGoals.{job_names, job_constants}
use Rattle.laws.proofs.Resolving.LeadsAsFollowed.{leads_followed, named-once, leads_as_followed}
use Rattle.laws.proofs.Resolving.ResolvedNodes.{child_done, settled-entry, settled-number}
use Rattle.laws.proofs.Resolving.SameConstants.{goal_numbered, goes_leads, same-child, child_same}
use Rattle.laws.proofs.Slots.PoolsThatOccur.{ended}
use Rattle.laws.proofs.Building.AfterRequests.{answers_many}
use Rattle.laws.proofs.Building.BeforeRequests.{begun_asks}
use Rattle.laws.proofs.Building.BuiltJob as BuiltJob
use Rattle.laws.proofs.Building.BuiltJob.{st, table, good_job_table, raws, started, is_asked_lem, asked}
use Rattle.laws.proofs.Building.JobNodesApart.{nodes_apart}
use Rattle.laws.proofs.Building.MarksOfAnswers.{none_yet, asked_origins, Told, told_same, HasSlot, Earlier, answers_told}

-- the origin of a mark
origin_for : ℕ → Origin
origin_for zero = raw
origin_for (suc zero) = new
origin_for (suc (suc n)) = old

-- an origin's mark is of that origin
marked-back : (o : Origin) → origin_for (mark_of o) ≡ o
unfolding mark_of origin_for
marked-back raw = refl
marked-back new = refl
marked-back old = refl

-- so no two origins have one mark
mark_inj : (o₁ o₂ : Origin) → mark_of o₁ ≡ mark_of o₂ → o₁ ≡ o₂
mark_inj o₁ o₂ e = sym (marked-back o₁) ∙ ap origin_for e ∙ marked-back o₂

-- and none is above 2
mark_low : (o : Origin) → mark_of o ≤ 2
unfolding mark_of
mark_low raw = omega arith
mark_low new = omega arith
mark_low old = omega arith

module _ (bytes : List ℕ) (job : Job (List ℕ)) (l : Layout) (are : IsBytes bytes) (formed : form bytes ≡ good job) (laid : layout (top_of job) (numbered job) ≡ good l) where
  -- the marks of entries, once all requests are answered
  abbrev became : List Mark
  became = BuiltJob.marks bytes job l are formed laid

  -- how the answers were come by
  abbrev origins : List Origin
  origins = (st bytes job l are formed laid).asked.origins

  -- where the definition follows a request
  abbrev goes : Request → Goal
  goes q = goal_of (job_names (numbered job)) (job_constants (numbered job)) q.what

  -- where it leads
  leads_goes : (q : Request) (goal : Goal) → Leads job.definitions q.what goal → goes q ≡ goal
  leads_goes q goal leads = goal_numbered job q.what ∙ leads_followed job.definitions (named-once job l laid) q.what goal leads

  -- it leads to one goal
  leads_once : (q : Request) (g₁ g₂ : Goal) → Leads job.definitions q.what g₁ → Leads job.definitions q.what g₂ → g₁ ≡ g₂
  leads_once q = (leads_as_followed.1 job.definitions (named-once job l laid) q.what).1

  -- which is settled
  goal_settled : (i : ℕ) (q : Request) → get_elem? job.requests i ≡ some q → Settled became (goes q)
  unfolding numbered
  goal_settled i q at = ((asked bytes job l are formed laid).2 i q at).2.settled

  -- the entry that a request leads to, if it became a node
  goal_entry :
      (i : ℕ) (q : Request) →
      get_elem? job.requests i ≡ some q →
      first_node ≤ child_of became (goes q) →
      (e : ℕ) × (k : ℕ) × (goes q ≡ table_entry e) × (get_elem? became e ≡ some (done k)) × Leads job.definitions q.what (table_entry e)
  unfolding numbered
  goal_entry i q at high =
      let s = st bytes job l are formed laid in
      let asks = each_at _ job.requests i q (begun_asks bytes job are formed s.defined s.is_defined s.ready s.is_ready) at in
      let (e, k, to, mark, _) = settled-entry (table bytes job l are formed laid) became (goes q) asks.1 (goal_settled i q at) high in
      (e, k, to, mark, goes_leads job became q.what (table_entry e) to (k, mark))

  -- before the requests nothing has a slot
  none-given : (child : ℕ) → HasSlot (st bytes job l are formed laid).ready.pool child → ⊥
  unfolding lookup
  none-given child (n, at) =
      let s = st bytes job l are formed laid in
      let none = (ended (top_of job) _ _ s.defined s.ready s.is_ready).1 in
      none≢some (subst (λ given. lookup (child - first_node) given ≡ some n) none at)

  -- so an origin goes by what earlier requests became
  request_told :
      (i : ℕ) (q : Request) (o : Origin) →
      get_elem? job.requests i ≡ some q →
      get_elem? origins i ≡ some o →
      Told (Earlier goes became job.requests i) (child_of became (goes q)) o
  unfolding numbered
  request_told i q o at there =
      let s = st bytes job l are formed laid in
      let (all, is, told) =
      answers_told (table bytes job l are formed laid) (good_job_table bytes job l are formed laid).cited (top_of job) s.defined.held (raws bytes job l are formed laid) (job_names (numbered job)) (job_constants (numbered job)) _ job.requests s.ready (s.answers, s.asked)
      (begun_asks bytes job are formed s.defined s.is_defined s.ready s.is_ready)
      (is_asked_lem bytes job l are formed laid)
      (started bytes job l are formed laid).0 in
      let same : origins ≡ all = is ∙ ap (λ before. before ++ all) (none_yet (top_of job) _ _ s.defined s.ready s.is_ready) in
      told_same
      (λ child. HasSlot s.ready.pool child ⊎ Earlier goes became job.requests i child)
      (Earlier goes became job.requests i)
      (child_of became (goes q)) o (λ _ h. ways h) (λ _ h. inr h) (told i q o at (subst (λ l. get_elem? l i ≡ some o) same there))
    where
      ways : HasSlot (st bytes job l are formed laid).ready.pool (child_of became (goes q)) ⊎ Earlier goes became job.requests i (child_of became (goes q)) → Earlier goes became job.requests i (child_of became (goes q))
      ways (inl h) = absurd (none-given (child_of became (goes q)) h)
      ways (inr h) = h

  -- earlier requests that became one node with an entry lead to the same constant, and back
  module _ (i e k : ℕ) (mark : get_elem? became e ≡ some (done k)) where
    earlier_before : Earlier goes became job.requests i (child_of became (table_entry e)) → AskedBefore job.definitions job.requests i e
    earlier_before (j, q, low, at, is) =
        let (e', k', to, mark', leads) = goal_entry j q at (omega (arith, is, child_done became e k mark)) in (
          j,
          q,
          e',
          low,
          at,
          leads,
          child_same bytes job are formed (good_job_table bytes job l are formed laid) (st bytes job l are formed laid).asked.resolved (asked bytes job l are formed laid).0.faithful (nodes_apart bytes job l are formed laid) (table_entry e') (table_entry e)
              (tt, (k', mark'))
              (tt, (k, mark))
              (ap (child_of became) (sym to) ∙ is),
        )

    before_earlier : AskedBefore job.definitions job.requests i e → Earlier goes became job.requests i (child_of became (table_entry e))
    before_earlier (j, q, e', low, at, leads, same) =
        let to = leads_goes q (table_entry e') leads in (
          j,
          q,
          low,
          at,
          ap (child_of became) to
              ∙ same-child bytes job are formed (good_job_table bytes job l are formed laid) (st bytes job l are formed laid).asked.resolved (asked bytes job l are formed laid).0.faithful (nodes_apart bytes job l are formed laid) (named-once job l laid) (table_entry e') (table_entry e) same
              (subst (Settled became) to (goal_settled j q at))
              (k, mark),
        )

  -- what is said of a request by its mark's origin
  abbrev Way : ℕ → Request → Origin → Type 0
  Way i q raw = (n : ℕ) × Leads job.definitions q.what (raw_number n)
  Way i q new = (e : ℕ) × Leads job.definitions q.what (table_entry e) × (AskedBefore job.definitions job.requests i e → ⊥)
  Way i q old = (e : ℕ) × Leads job.definitions q.what (table_entry e) × AskedBefore job.definitions job.requests i e

  -- it holds
  way : (i : ℕ) (q : Request) (o : Origin) → get_elem? job.requests i ≡ some q → Told (Earlier goes became job.requests i) (child_of became (goes q)) o → Way i q o
  way i q raw at low =
      let (n, to) = settled-number became (goes q) (goal_settled i q at) low in
      (n, goes_leads job became q.what (raw_number n) to tt)
  way i q new at (high, none-had) =
      let (e, k, to, mark, leads) = goal_entry i q at high in
      (e, leads, λ before. none-had (subst (λ g. Earlier goes became job.requests i (child_of became g)) (sym to) (before_earlier i e k mark before)))
  way i q old at (high, had) =
      let (e, k, to, mark, leads) = goal_entry i q at high in
      (e, leads, earlier_before i e k mark (subst (λ g. Earlier goes became job.requests i (child_of became g)) to had))

  -- nothing leads to a raw number and to an entry
  raw_or-entry : {C : Type 0} (q : Request) (n e : ℕ) → Leads job.definitions q.what (raw_number n) → Leads job.definitions q.what (table_entry e) → C
  raw_or-entry q n e leads₁ leads₂ = let same = leads_once q (raw_number n) (table_entry e) leads₁ leads₂ in clash (cc)

  -- or to an entry that was asked for before and one that wasn't
  new_or_old : {C : Type 0} (i : ℕ) (q : Request) → Way i q new → Way i q old → C
  new_or_old i q (e₁, leads₁, none_before) (e₂, leads₂, before) =
      let goals = leads_once q (table_entry e₂) (table_entry e₁) leads₂ leads₁ in
      let same : e₂ ≡ e₁ = cc in
      absurd (none_before (subst (AskedBefore job.definitions job.requests i) same before))

  -- so no two origins are said of a request
  one_way : (i : ℕ) (q : Request) (o₁ o₂ : Origin) → Way i q o₁ → Way i q o₂ → o₁ ≡ o₂
  one_way i q raw raw h₁ h₂ = refl
  one_way i q raw new h₁ h₂ = raw_or-entry q h₁.0 h₂.0 h₁.1 h₂.1
  one_way i q raw old h₁ h₂ = raw_or-entry q h₁.0 h₂.0 h₁.1 h₂.1
  one_way i q new raw h₁ h₂ = raw_or-entry q h₂.0 h₁.0 h₂.1 h₁.1
  one_way i q new new h₁ h₂ = refl
  one_way i q new old h₁ h₂ = new_or_old i q h₁ h₂
  one_way i q old raw h₁ h₂ = raw_or-entry q h₂.0 h₁.0 h₂.1 h₁.1
  one_way i q old new h₁ h₂ = new_or_old i q h₂ h₁
  one_way i q old old h₁ h₂ = refl

  -- and a mark is an origin's exactly if that is said
  mark_way : (o : Origin) (i m : ℕ) (q : Request) → get_elem? job.requests i ≡ some q → get_elem? (map mark_of origins) i ≡ some m → (m ≡ mark_of o) ↔ Way i q o
  mark_way o i m q at there =
      let (came, from, is) = map-some mark_of origins i m there in
      let said = way i q came at (request_told i q came at from) in
      (λ e. subst (Way i q) (mark_inj came o (is ∙ e)) said, λ h. sym is ∙ ap mark_of (one_way i q came o said h))

  -- all of it
  marked_by : MarkedBy job.definitions job.requests (map mark_of origins)
  unfolding mark_of numbered
  marked_by =
      let s = st bytes job l are formed laid in
      record {
        as_many_lem = length-map origins mark_of ∙ asked_origins s ∙ answers_many _ _ _ job.requests s.ready (s.answers, s.asked) s.is_asked;
        low = λ i m there. let (o, _, is) = map-some mark_of origins i m there in subst (λ m. m ≤ 2) is (mark_low o);
        raw_exactly = mark_way raw;
        new_exactly = mark_way new;
        old_exactly = mark_way old;
      }

-- of the layout that was returned
marks_laid :
    (bytes : List ℕ) (job : Job (List ℕ)) (l : Layout) →
    IsBytes bytes →
    form bytes ≡ good job →
    layout (top_of job) (numbered job) ≡ good l →
    MarkedBy job.definitions job.requests (render (literals job) l).marks
unfolding layout_of render
marks_laid bytes job l are formed laid =
    subst (λ (x : Layout). MarkedBy job.definitions job.requests (map mark_of x.origins)) (st bytes job l are formed laid).is_laid (marked_by bytes job l are formed laid)

pub marks : Marks
marks bytes job lent b are formed ran =
    let (l, laid, is) = run-laid bytes job lent b formed ran in
    subst (λ (b : Built). MarkedBy job.definitions job.requests b.marks) is (marks_laid bytes job l are formed laid)
