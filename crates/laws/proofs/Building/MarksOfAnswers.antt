-- How answers were come by: a job that is built has a mark for each, and a request's origin goes by what it and the earlier ones became.
-- Assumes nothing.
use mathlib.Core.Bool.{Bool, true, false, ◌||◌, not}
use mathlib.Core.List.{List, [], ◌∷◌, ◌++◌, map, append_assoc, append-nil}
use mathlib.Core.Logic.{◌⊎◌, inl, inr}
use mathlib.Core.Option.{Option, none, some}
use mathlib.Core.Path.{◌≡◌, refl, sym, ap, subst, ◌∙◌}
use Prim.Native.Nat.{ℕ, zero, suc, ◌+◌, ◌-◌, ◌≤◌, ◌<◌}
use native.Mathlib.Omega.{arith}
use lib.Dec.{leb, ltb}
use lib.ListN.{length, get_elem?, length-append, length-map}
use borrow.Author.Tests.{ltb-true, ltb-false}
use Rattle.definition.specs.Basics.{good, at_record, unless, lookup}
use Rattle.definition.specs.Shapes.{Entry}
use Rattle.definition.specs.Job.{Request, Job}
use Rattle.definition.specs.Form.{form}
use Rattle.definition.specs.Numbering.{top_of, numbered}
use Rattle.definition.specs.Definitions.{Held, Naming, Defined}
use Rattle.definition.specs.Resolving.{Goal, table_entry, goal_of, first_node, Mark, child_of, resolve, resolve_all, nothing_resolved}
use Rattle.definition.specs.Slots.{highest_ldc}
use Rattle.definition.specs.Building.{Pool, slot_of, Origin, raw, new, old, origin_of, mark_of}
use Rattle.definition.specs.Layout.{starters, Ready, end_definitions, answer, answer_all, Layout, layout_of, layout}
use Rattle.definition.specs.Run.{Built, render, Lent, longest_job, enough, build, run}
use Rattle.facts.specs.Lists.{Among}
use Rattle.facts.proofs.Lists.{none≢some, some_inj}
use Rattle.facts.proofs.Tables.{lookup-at, among-lookup}
use Rattle.facts.proofs.Each.{Each}
use Rattle.facts.proofs.Results.{good_inj, good_first, good_then, at_record-good}
use Rattle.laws.specs.Faithful.{Cited}
use Rattle.laws.proofs.Numbering.RunsLaidOut.{run-laid}
use Rattle.laws.proofs.Resolving.FaithfulToEntries.{child_grows}
use Rattle.laws.proofs.Building.ChildNumbers.{SlotFor}
use Rattle.laws.proofs.Building.AfterRequests.{Going, Answered, Further, answer-going, answer-given, Asks, answer_all-going}
use Rattle.laws.proofs.Building.LayoutStages.{Stages, stages}

-- ---- a mark for each answer

-- a request's origin comes behind those before it
answer-origin :
    (ldc : Bool) (goal : Goal) (w : Ready) (r : ℕ × Ready) → answer ldc goal w ≡ good r →
    r.1.origins ≡ w.origins ++ origin_of (child_of r.1.resolved.marks goal) w.pool ∷ []
unfolding answer
answer-origin ldc goal w r e =
    good_then (resolve w.table goal w.resolved) _ r e λ s _ e₁.
    good_then (slot_of s.nodes ldc (child_of s.marks goal) w.pool) _ r e₁ λ a _ e₂.
    good_then (unless (not ldc || leb a.0 highest_ldc) 16) _ r e₂ λ _ _ e₃.
    subst (λ (x : ℕ × Ready). x.1.origins ≡ w.origins ++ origin_of (child_of x.1.resolved.marks goal) w.pool ∷ []) (good_inj e₃) refl

-- so there are as many more as requests were answered
answers_origins :
    (names : List Naming) (n place : ℕ) (requests : List Request) (w : Ready) (r : List ℕ × Ready) → answer_all names n place requests w ≡ good r →
    length r.1.origins ≡ length w.origins + length r.0
unfolding answer_all
answers_origins names n place [] w r e =
    subst (λ (x : List ℕ × Ready). length x.1.origins ≡ length w.origins + length x.0) (good_inj e) (omega arith)
answers_origins names n place (q ∷ requests) w r e =
    good_then (at_record place (answer q.ldc (goal_of names n q.what) w)) _ r e λ x first e₁.
    good_then (answer_all names n (suc place) requests x.1) _ r e₁ λ rest others e₂.
    let one = ap length (answer-origin q.ldc (goal_of names n q.what) w x (at_record-good place _ x first)) ∙ length-append w.origins (_ ∷ []) in
    let more = answers_origins names n (suc place) requests x.1 rest others in
    subst (λ (y : List ℕ × Ready). length y.1.origins ≡ length w.origins + length y.0) (good_inj e₂) (omega (arith, one, more))

-- record 50 answers nothing
pub none_yet : (top : ℕ) (table : List (Entry ℕ Goal)) (n : ℕ) (d : Defined) (w : Ready) → end_definitions top table n d ≡ good w → w.origins ≡ []
unfolding end_definitions
none_yet top table n d w e =
    let goals = map (λ (r : ℕ × ℕ). table_entry r.1) (starters d.held) ++ map (λ (r : ℕ × ℕ). table_entry (n + r.1)) d.indexes in
    let (s, q, g) = good_first (resolve_all table goals (nothing_resolved table)) _ w e in
    let same = sym (good_inj g) in λ i. (same i).origins

-- so there are as many as answers
pub asked_origins : {top : ℕ} {job : Job ℕ} {l : Layout} (s : Stages top job l) → length s.asked.origins ≡ length s.answers
asked_origins {top} s =
    let all = answers_origins _ _ _ _ s.ready (s.answers, s.asked) s.is_asked in
    let none = ap length (none_yet top _ _ s.defined s.ready s.is_ready) in
    omega (arith, all, none)

-- in the layout too
layout-origins : (top : ℕ) (job : Job ℕ) (l : Layout) → layout top job ≡ good l → length l.origins ≡ length l.answers
unfolding layout_of
layout-origins top job l laid =
    let s = stages top job l laid in
    subst (λ (x : Layout). length x.origins ≡ length x.answers) s.is_laid (asked_origins s)

-- what was built was formed
formed_of_lem : (lent : Lent) (bytes : List ℕ) (b : Built) → run lent bytes ≡ good b → (job : Job (List ℕ)) × (form bytes ≡ good job)
unfolding run build
formed_of_lem lent bytes b e =
    good_then (at_record 0 (unless (leb (length bytes) longest_job) 1)) _ b e λ _ _ e₁.
    good_then (at_record 0 (unless (enough (length bytes) lent) 2)) _ b e₁ λ _ _ e₂.
    good_then (build bytes) _ b e₂ λ placed built e₃.
    let formed = good_first (form bytes) _ placed built in (formed.0, formed.1)

-- a built job has a mark for each answer
pub as_many-marks : (bytes : List ℕ) (lent : Lent) (b : Built) → run lent bytes ≡ good b → length b.marks ≡ length b.answers
unfolding render
as_many-marks bytes lent b ran =
    let (job, formed) = formed_of_lem lent bytes b ran in
    let (l, laid, is) = run-laid bytes job lent b formed ran in
    rw (← is) (length-map l.origins mark_of ∙ layout-origins (top_of job) (numbered job) l laid)

-- ---- which mark

-- the origin of a child, by which nodes had slots
abbrev pub Told : (ℕ → Type 0) → ℕ → Origin → Type 0
Told Had child raw = child < first_node
Told Had child new = (first_node ≤ child) × (Had child → ⊥)
Told Had child old = (first_node ≤ child) × Had child

-- the same nodes had slots
pub told_same :
    (Had Had' : ℕ → Type 0) (child : ℕ) (o : Origin) → (first_node ≤ child → Had child → Had' child) → (first_node ≤ child → Had' child → Had child) →
    Told Had child o → Told Had' child o
told_same Had Had' child raw there back low = low
told_same Had Had' child new there back (high, none-had) = (high, λ h. none-had (back high h))
told_same Had Had' child old there back (high, had) = (high, there high had)

-- a node has a slot
abbrev pub HasSlot : Pool → ℕ → Type 0
HasSlot p child = (s : ℕ) × (lookup (child - first_node) p.given ≡ some s)

-- the origin of a child is told by the pool
origin_told : (child : ℕ) (p : Pool) → Told (HasSlot p) child (origin_of child p)
unfolding origin_of
origin_told child p = go (ltb child first_node) refl (lookup (child - first_node) p.given) refl
  where
    go : (b : Bool) → ltb child first_node ≡ b → (o : Option ℕ) → lookup (child - first_node) p.given ≡ o → Told (HasSlot p) child (origin_of child p)
    go true t o e = rw (t, origin_of) (ltb-true child first_node t)
    go false t none e = rw (t, e, origin_of) (ltb-false child first_node t, λ h. none≢some (sym e ∙ h.1))
    go false t (some s) e = rw (t, e, origin_of) (ltb-false child first_node t, (s, e))

-- an answer gives a slot to what was asked for, and to no other node
module _ (ldc : Bool) (goal : Goal) (w : Ready) (r : ℕ × Ready) (e : answer ldc goal w ≡ good r) (child : ℕ) (high : first_node ≤ child) where
  slot-before : HasSlot r.1.pool child → HasSlot w.pool child ⊎ (child_of r.1.resolved.marks goal ≡ child)
  slot-before (s, at) = go (answer-given ldc goal w r (child - first_node) s e (lookup-at (child - first_node) s r.1.pool.given at))
    where
      go :
          Among (child - first_node, s) w.pool.given ⊎ ((child_of r.1.resolved.marks goal ≡ first_node + (child - first_node)) × (r.0 ≡ s)) →
          HasSlot w.pool child ⊎ (child_of r.1.resolved.marks goal ≡ child)
      go (inl h) = inl (among-lookup (child - first_node) s w.pool.given h)
      go (inr (is, _)) = inr (omega (arith, is, high))

  slot-after : Answered goal r.0 r.1 → Further w r.1 → HasSlot w.pool child ⊎ (child_of r.1.resolved.marks goal ≡ child) → HasSlot r.1.pool child
  slot-after answered further (inl (s, at)) = (s, further.kept.slot_stays (child - first_node) s at)
  slot-after answered further (inr is) = go answered.slot
    where
      go : SlotFor r.1.pool.given (child_of r.1.resolved.marks goal) r.0 → HasSlot r.1.pool child
      go (inl (low, _)) = absurd (omega (arith, low, is, high))
      go (inr (_, at)) = (r.0, subst (λ c. lookup (c - first_node) r.1.pool.given ≡ some r.0) is at)

-- a request before number i became this child
abbrev pub Earlier : (Request → Goal) → List Mark → List Request → ℕ → ℕ → Type 0
Earlier goes marks requests i child = (j : ℕ) × (q : Request) × (j < i) × (get_elem? requests j ≡ some q) × (child_of marks (goes q) ≡ child)

module _ (goes : Request → Goal) (marks : List Mark) where
  -- origins of requests, by the slots of a pool and by what earlier requests became
  abbrev pub AllTold : Pool → List Request → List Origin → Type 0
  AllTold p requests origins =
      (i : ℕ) (q : Request) (o : Origin) → get_elem? requests i ≡ some q → get_elem? origins i ≡ some o →
      Told (λ child. HasSlot p child ⊎ Earlier goes marks requests i child) (child_of marks (goes q)) o

  -- one request more in front
  told_more :
      (p p' : Pool) (q : Request) (requests : List Request) (o : Origin) (origins : List Origin) →
      ((child : ℕ) → first_node ≤ child → HasSlot p' child → HasSlot p child ⊎ (child_of marks (goes q) ≡ child)) →
      ((child : ℕ) → first_node ≤ child → HasSlot p child ⊎ (child_of marks (goes q) ≡ child) → HasSlot p' child) →
      Told (HasSlot p) (child_of marks (goes q)) o →
      AllTold p' requests origins →
      AllTold p (q ∷ requests) (o ∷ origins)
  told_more p p' q requests o origins before after first rest zero q₁ o₁ at there =
      subst (λ a. Told (λ child. HasSlot p child ⊎ Earlier goes marks (q ∷ requests) zero child) (child_of marks (goes a)) o₁) (some_inj at)
      (told_same (HasSlot p) (λ child. HasSlot p child ⊎ Earlier goes marks (q ∷ requests) zero child) (child_of marks (goes q)) o₁ (λ _ h. inl h) (λ _ h. none_before h)
      (subst (Told (HasSlot p) (child_of marks (goes q))) (some_inj there) first))
    where
      none_before : HasSlot p (child_of marks (goes q)) ⊎ Earlier goes marks (q ∷ requests) zero (child_of marks (goes q)) → HasSlot p (child_of marks (goes q))
      none_before (inl h) = h
      none_before (inr (j, _, low, _, _)) = absurd (omega (arith, low))
  told_more p p' q requests o origins before after first rest (suc i) q₁ o₁ at there =
      told_same
      (λ child. HasSlot p' child ⊎ Earlier goes marks requests i child)
      (λ child. HasSlot p child ⊎ Earlier goes marks (q ∷ requests) (suc i) child)
      (child_of marks (goes q₁)) o₁ forth back (rest i q₁ o₁ at there)
    where
      child : ℕ
      child = child_of marks (goes q₁)

      forth : first_node ≤ child → HasSlot p' child ⊎ Earlier goes marks requests i child → HasSlot p child ⊎ Earlier goes marks (q ∷ requests) (suc i) child
      forth high (inl h) = go (before child high h)
        where
          go : HasSlot p child ⊎ (child_of marks (goes q) ≡ child) → HasSlot p child ⊎ Earlier goes marks (q ∷ requests) (suc i) child
          go (inl h) = inl h
          go (inr is) = inr (0, q, omega arith, refl, is)
      forth high (inr (j, a, low, asked, is)) = inr (suc j, a, omega (arith, low), asked, is)

      back : first_node ≤ child → HasSlot p child ⊎ Earlier goes marks (q ∷ requests) (suc i) child → HasSlot p' child ⊎ Earlier goes marks requests i child
      back high (inl h) = inl (after child high (inl h))
      back high (inr (zero, a, low, asked, is)) = inl (after child high (inr (ap (λ a. child_of marks (goes a)) (some_inj asked) ∙ is)))
      back high (inr (suc j, a, low, asked, is)) = inr (j, a, omega (arith, low), asked, is)

module _ (table : List (Entry ℕ Goal)) (cited : Cited table) (top : ℕ) (held : List (ℕ × Held)) (raws : List (ℕ × ℕ)) (names : List Naming) (constants : ℕ) where
  -- where a request leads
  abbrev goes : Request → Goal
  goes q = goal_of names constants q.what

  -- the origins that requests add are told by the slots before them and by each other
  abbrev OriginsTold : List Request → Ready → Ready → Type 0
  OriginsTold requests w w' =
      (origins : List Origin) × (w'.origins ≡ w.origins ++ origins) × AllTold goes w'.resolved.marks w.pool requests origins

  -- so are those of all requests
  pub answers_told :
      (place : ℕ) (requests : List Request) (w : Ready) (r : List ℕ × Ready) →
      Each (Asks table cited top held raws names constants) requests →
      answer_all names constants place requests w ≡ good r →
      Going table top held raws w →
      OriginsTold requests w r.1
  unfolding answer_all
  answers_told place [] w r asks e h =
      subst (λ (x : List ℕ × Ready). OriginsTold [] w x.1) (good_inj e) ([], sym (append-nil w.origins), λ i q o at. none≢some at)
  answers_told place (q ∷ requests) w r asks e h =
      good_then (at_record place (answer q.ldc (goes q) w)) _ r e λ x here e₁.
      good_then (answer_all names constants (suc place) requests x.1) _ r e₁ λ rest there e₂.
      let now = at_record-good place _ x here in
      let (going, answered, further) = answer-going table cited top held raws q.ldc (goes q) w x asks.0.0 asks.0.1 now h in
      let more = answer_all-going table cited top held raws names constants (suc place) requests x.1 rest asks.1 there going in
      let (origins, are, told) = answers_told (suc place) requests x.1 rest asks.1 there going in
      let is : child_of x.1.resolved.marks (goes q) ≡ child_of rest.1.resolved.marks (goes q) =
      sym (child_grows x.1.resolved rest.1.resolved (goes q) more.1.grows answered.settled) in
      let o = origin_of (child_of x.1.resolved.marks (goes q)) w.pool in
      subst (λ (y : List ℕ × Ready). OriginsTold (q ∷ requests) w y.1) (good_inj e₂) (
        o ∷ origins,
        are ∙ ap (λ l. l ++ origins) (answer-origin q.ldc (goes q) w x now) ∙ append_assoc w.origins (o ∷ []) origins,
        told_more goes rest.1.resolved.marks w.pool x.1.pool q requests o origins
            (λ child high. subst (λ c. HasSlot x.1.pool child → HasSlot w.pool child ⊎ (c ≡ child)) is (slot-before q.ldc (goes q) w x now child high))
            (λ child high. subst (λ c. HasSlot w.pool child ⊎ (c ≡ child) → HasSlot x.1.pool child) is (slot-after q.ldc (goes q) w x now child high answered further))
            (subst (λ c. Told (HasSlot w.pool) c o) is (origin_told (child_of x.1.resolved.marks (goes q)) w.pool))
            told,
      )
