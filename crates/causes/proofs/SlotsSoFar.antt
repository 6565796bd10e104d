-- What the definition has behind answered requests, by the job's records and the answers: which constants have slots, and which slots are
-- free. Assumes nothing.
use mathlib.Core.Bool.{Bool, true, false, ◌||◌, not}
use mathlib.Core.List.{List, [], ◌∷◌, ◌++◌}
use mathlib.Core.Logic.{◌⊎◌, inl, inr}
use mathlib.Core.Option.{Option, none, some}
use mathlib.Core.Path.{◌≡◌, refl, sym, ap, subst, ◌∙◌}
use Prim.Native.Nat.{ℕ, zero, suc, ◌+◌, ◌-◌, ◌≤◌, ◌<◌}
use native.Mathlib.Omega.{arith}
use lib.Dec.{leb}
use lib.ListN.{length, drop, get_elem?}
use Rattle.definition.specs.Basics.{good, bad, unless, lookup}
use Rattle.definition.specs.Shapes.{Entry, is_wide}
use Rattle.definition.specs.Job.{Reference, Request, Job}
use Rattle.definition.specs.Form.{form}
use Rattle.definition.specs.Numbering.{top_of, constants_of, bootstraps_of, numbered}
use Rattle.definition.specs.Definitions.{Naming, Defined, tag_at, define_all, nothing_defined}
use Rattle.definition.specs.Resolving.{Goal, table_entry, goal_of, first_node, done, Resolved, child_of, intern, resolve, resolve_all, nothing_resolved}
use Rattle.definition.specs.Slots.{highest_ldc, slot_for}
use Rattle.definition.specs.Building.{Pool, no_slot, allocate, slot_of, Made, build_all, attribute_text}
use Rattle.definition.specs.Layout.{Ready, end_definitions, answer}
use Rattle.facts.specs.Lists.{Among}
use Rattle.facts.proofs.Lists.{clash, none≢some, some_inj, order, found_append, found_seam, append_at, among-nil, drop-place}
use Rattle.facts.proofs.Tables.{lookup-at}
use Rattle.facts.proofs.Each.{each_at}
use Rattle.facts.proofs.Outcomes.{when_good}
use Rattle.facts.proofs.Results.{good_inj, good_then}
use Rattle.laws.specs.Faithful.{InTable, Settled, Faithful}
use Rattle.laws.specs.LeadsStatement.{Leads, NamedOnce}
use Rattle.laws.specs.Statements.{IsBytes, entry_at, Occurs, after_request, more_resolved, stack_taken, free_slots}
use Rattle.causes.specs.CauseStatement.{Wide, TakesSlot, same_name, Behind, behind50, behind_request, goal_in, Got, HasSlot, HasNoSlot, GivenOut, Free, NoSlot, GivenToNode, AllAnswered}
use Rattle.laws.proofs.Resolving.FaithfulToEntries.{Grows, resolve-faithful}
use Rattle.laws.proofs.Resolving.Interning.{interned}
use Rattle.laws.proofs.Resolving.JobGoals.{job_names, job_constants, job_table, bootstrap_tag_lem}
use Rattle.laws.proofs.Resolving.LeadsAsFollowed.{leads_followed}
use Rattle.laws.proofs.Resolving.NodesAndChildren as NodesAndChildren
use Rattle.laws.proofs.Resolving.NodesAndChildren.{tag-found, KidsIn}
use Rattle.laws.proofs.Resolving.NodesApart.{Tidy, nothing_tidy, resolve-tidy, resolve_all-tidy}
use Rattle.laws.proofs.Resolving.ResolvedNodes.{ConstantGoal, child_done, settled-entry, GoodTable, kids_in_lem}
use Rattle.laws.proofs.Resolving.SameConstants.{goal_numbered, goes_leads, Became, became, same-child, child_same}
use Rattle.laws.proofs.Slots.PoolsThatOccur.{ended}
use Rattle.laws.proofs.Slots.SlotRequest.{Met, old, new, met, allocate-old}
use Rattle.laws.proofs.Building.AfterRecord50.{raw_goals}
use Rattle.laws.proofs.Building.AfterRequests.{Going, Answered, Further, answer-going, answer-given, answered-further}
use Rattle.laws.proofs.Building.BeforeRequests.{formed_table, begun_names, same-table, begun_raws, begun, begun_asks}
use Rattle.laws.proofs.Building.ChildNumbers.{SlotFor}
use Rattle.laws.proofs.Building.LayoutStages.{constants_in, table_in}
use Rattle.laws.proofs.Runs.RowsOccur.{built}
use Rattle.laws.proofs.Runs.StepRefusals.{allocate-refused}
use Rattle.laws.proofs.Runs.StepsOfRuns.{PoolIn, at_start, after_child, after_taken, Reaches, after_fifty, after_answer}
use Rattle.causes.proofs.CauseDefinitions.{wide_tag, tag-wide}
use Rattle.causes.proofs.CauseForm.{snoc_length}
use Rattle.causes.proofs.CauseNoSlot.{no_slot-same, lacks, lacks_refused, wide_pair, Above, had, gets, above}
use Rattle.causes.proofs.CausedDefinitions.{definition_refuted}
use Rattle.causes.proofs.FreeSlots.{pool_free, free_pool}

pub drop_all : {A : Type 0} (l : List A) → drop (length l) l ≡ []
drop_all [] = refl
drop_all (x ∷ l) = drop_all l

takes_same : {wide wide' : Type 0} {a t : ℕ} → (wide → wide') → TakesSlot wide a t → TakesSlot wide' a t
takes_same to (inl is) = inl is
takes_same to (inr (w, is)) = inr (to w, is)

module _ (bytes : List ℕ) (job : Job (List ℕ)) (are : IsBytes bytes) (formed : form bytes ≡ good job) where
  abbrev names : List Naming
  names = job_names (numbered job)

  abbrev size : ℕ
  size = job_constants (numbered job)

  abbrev table : List (Entry ℕ Goal)
  table = job_table (numbered job)

  abbrev goes : Reference → Goal
  goes r = goal_of names size r

  fine : GoodTable table
  fine = formed_table bytes job are formed

  abbrev IsDefined : Defined → Type 0
  IsDefined d = define_all (top_of job) (constants_in (numbered job)) 0 (numbered job).definitions nothing_defined ≡ good d

  -- ---- where references lead

  pub defined_once : (d : Defined) → IsDefined d → NamedOnce job.definitions
  defined_once d defined i k kind s r t a b = go (order i k) (order k i)
    where
      go : (i < k) ⊎ (k ≤ i) → (k < i) ⊎ (i ≤ k) → i ≡ k
      go (inl l) h = absurd (definition_refuted job d defined (same_name k i kind s t r b l a))
      go (inr g) (inl l) = absurd (definition_refuted job d defined (same_name i k kind s r t a l b))
      go (inr g) (inr l) = omega (arith, g, l)

  pub leads_goes : (d : Defined) → IsDefined d → (r : Reference) (goal : Goal) → Leads job.definitions r goal → goes r ≡ goal
  leads_goes d defined r goal leads = goal_numbered job r ∙ leads_followed job.definitions (defined_once d defined) r goal leads

  -- ---- what is kept from record 50 on

  -- a slot that a node has is the answer to a request that leads to what became that node
  abbrev From : List ℕ → Ready → ℕ → ℕ → Type 0
  From answers w k a =
      (i : ℕ) × (q : Request) × (e : ℕ) × (get_elem? job.requests i ≡ some q) × (get_elem? answers i ≡ some a) × (goes q.what ≡ table_entry e)
      × (get_elem? w.resolved.marks e ≡ some (done k))

  pub record Kept (d : Defined) (answers : List ℕ) (w : Ready) : Type 0 where
    pub is_defined : IsDefined d
    pub raws : List (ℕ × ℕ)
    pub asked : (i : ℕ) (q : Request) → get_elem? job.requests i ≡ some q → InTable (length table) (goes q.what) × ConstantGoal table (goes q.what)
    pub going : Going table (top_of job) d.held raws w
    pub tidy : Tidy table w.resolved
    pub answered : (i : ℕ) (q : Request) (a : ℕ) → get_elem? job.requests i ≡ some q → get_elem? answers i ≡ some a → Answered (goes q.what) a w
    pub given : (k a : ℕ) → Among (k, a) w.pool.given → From answers w k a

  module _ (d : Defined) where
    fifty_kept : (w : Ready) → IsDefined d → end_definitions (top_of job) (table_in (numbered job) d) size d ≡ good w → Kept d [] w
    unfolding end_definitions numbered
    fifty_kept w defined ready =
        record {
          is_defined = defined;
          raws = begun_raws bytes job are formed d defined w ready;
          asked = λ i q at. each_at _ job.requests i q (begun_asks bytes job are formed d defined w ready) at;
          going = (begun bytes job are formed d defined w ready).0;
          tidy =
              good_then (resolve_all table (raw_goals size d) (nothing_resolved table)) _ w
              (subst (λ t. end_definitions (top_of job) t size d ≡ good w) (same-table bytes job are formed d defined) ready) λ s resolved e.
              subst (λ (x : Ready). Tidy table x.resolved) (good_inj e) (resolve_all-tidy table fine (raw_goals size d) (nothing_resolved table) s (nothing_tidy table) resolved);
          answered = λ i q a at has. none≢some has;
          given = λ k a h. among-nil (k, a) (subst (Among (k, a)) (ended (top_of job) (table_in (numbered job) d) size d w ready).1 h);
        }

    module _ (answers : List ℕ) (q : Request) (w w' : Ready) (a : ℕ) (k : Kept d answers w) (at : get_elem? job.requests (length answers) ≡ some q) (e : answer q.ldc (goes q.what) w ≡ good (a, w')) where
      went : Going table (top_of job) d.held k.raws w' × Answered (goes q.what) a w' × Further w w'
      went =
          answer-going table fine.cited (top_of job) d.held k.raws q.ldc (goes q.what) w (a, w')
          (k.asked (length answers) q at).0
          (k.asked (length answers) q at).1
          e
          k.going

      still_tidy : Tidy table w'.resolved
      unfolding answer
      still_tidy =
          good_then (resolve w.table (goes q.what) w.resolved) _ (a, w') e λ s resolved e₁.
          good_then (slot_of s.nodes q.ldc (child_of s.marks (goes q.what)) w.pool) _ (a, w') e₁ λ x _ e₂.
          good_then (unless (not q.ldc || leb x.0 highest_ldc) 16) _ (a, w') e₂ λ _ _ e₃.
          subst (λ (y : ℕ × Ready). Tidy table y.1.resolved) (good_inj e₃)
          (resolve-tidy table fine (goes q.what) w.resolved s k.tidy (subst (λ t. resolve t (goes q.what) w.resolved ≡ good s) k.going.same_table resolved))

      -- the last answer is this one
      last : (i : ℕ) (x : ℕ) → (get_elem? answers i ≡ some x) ⊎ ((j : ℕ) × (i ≡ length answers + j) × (get_elem? (a ∷ []) j ≡ some x)) → (get_elem? answers i ≡ some x) ⊎ ((i ≡ length answers) × (a ≡ x))
      last i x (inl h) = inl h
      last i x (inr (zero, is, h)) = inr (omega (arith, is), some_inj h)
      last i x (inr (suc j, is, h)) = none≢some h

      still_answered : (i : ℕ) (p : Request) (x : ℕ) → get_elem? job.requests i ≡ some p → get_elem? (answers ++ a ∷ []) i ≡ some x → Answered (goes p.what) x w'
      still_answered i p x there has = go (last i x (append_at answers (a ∷ []) i x has))
        where
          go : (get_elem? answers i ≡ some x) ⊎ ((i ≡ length answers) × (a ≡ x)) → Answered (goes p.what) x w'
          go (inl h) = answered-further (goes p.what) x w w' went.2 (k.answered i p x there h)
          go (inr (is, same)) =
              let one : q ≡ p = some_inj (sym at ∙ ap (get_elem? job.requests) (sym is) ∙ there) in
              subst (λ x. Answered (goes p.what) x w') same (subst (λ (p : Request). Answered (goes p.what) a w') one went.1)

      still_given : (n x : ℕ) → Among (n, x) w'.pool.given → From (answers ++ a ∷ []) w' n x
      still_given n x h = go (answer-given q.ldc (goes q.what) w (a, w') n x e h)
        where
          go : Among (n, x) w.pool.given ⊎ ((child_of w'.resolved.marks (goes q.what) ≡ first_node + n) × (a ≡ x)) → From (answers ++ a ∷ []) w' n x
          go (inl old-one) =
              let (i, p, entry, there, has, is, mark) = k.given n x old-one in
              (i, p, entry, there, found_append answers (a ∷ []) i x has, is, went.2.grows.marks_kept entry n mark)
          go (inr (child, same)) =
              let (entry, m, is, mark, became-it) =
              settled-entry table w'.resolved.marks (goes q.what) (k.asked (length answers) q at).1 went.1.settled (omega (arith, child)) in
              let one : m ≡ n = omega (arith, child, became-it) in
              (length answers, q, entry, at, found_seam answers a [] ∙ ap some same, is, subst (λ m. get_elem? w'.resolved.marks entry ≡ some (done m)) one mark)

      request_kept : Kept d (answers ++ a ∷ []) w'
      request_kept =
          record {
            is_defined = k.is_defined;
            raws = k.raws;
            asked = k.asked;
            going = went.0;
            tidy = still_tidy;
            answered = still_answered;
            given = still_given;
          }

    pub kept : {answers : List ℕ} {w : Ready} → Behind job d answers w → Kept d answers w
    kept (behind50 w defined ready) = fifty_kept w defined ready
    kept (behind_request answers q w w' a b at e) =
        let k = kept b in
        request_kept answers q w w' a k at (subst (λ names. answer q.ldc (goal_of names size q.what) w ≡ good (a, w')) (begun_names bytes job are formed d k.is_defined) e)

    -- what the run came to, and once all requests are answered
    pub behind-reaches : {answers : List ℕ} {w : Ready} → Behind job d answers w → Reaches (top_of job) (numbered job) d (drop (length answers) job.requests) w
    unfolding numbered
    behind-reaches (behind50 w defined ready) = after_fifty w defined ready
    behind-reaches (behind_request answers q w w' a b at e) =
        let now = drop-place job.requests (length answers) q at in
        subst (λ n. Reaches (top_of job) (numbered job) d (drop n job.requests) w') (sym (snoc_length answers a))
        (after_answer q (drop (suc (length answers)) job.requests) w w' a (subst (λ l. Reaches (top_of job) (numbered job) d l w) now (behind-reaches b)) e)

    pub all_reaches : {w : Ready} → AllAnswered job d w → Reaches (top_of job) (numbered job) d [] w
    all_reaches {w} (answers, all, b) =
        subst (λ l. Reaches (top_of job) (numbered job) d l w) (ap (λ n. drop n job.requests) all ∙ drop_all job.requests) (behind-reaches b)

    -- ---- the request in turn

    -- what the definition has once what is asked for is resolved
    pub record Onward (w : Ready) (s : Resolved) : Type 0 where
      pub faithful : Faithful table s
      pub tidy : Tidy table s
      pub grows : Grows w.resolved s

    pub onward :
        (answers : List ℕ) (w : Ready) (k : Kept d answers w) (q : Request) (s : Resolved) →
        get_elem? job.requests (length answers) ≡ some q →
        resolve w.table (goal_in job d q) w.resolved ≡ good s →
        Onward w s × (goes q.what ≡ goal_in job d q) × Settled s.marks (goal_in job d q) × ConstantGoal table (goal_in job d q)
    onward answers w k q s at e =
        let is : goes q.what ≡ goal_in job d q = ap (λ names. goal_of names size q.what) (sym (begun_names bytes job are formed d k.is_defined)) in
        let here = subst (λ t. resolve t (goal_in job d q) w.resolved ≡ good s) k.going.same_table e in
        let (inside, constant) = subst (λ g. InTable (length table) g × ConstantGoal table g) is (k.asked (length answers) q at) in
        let now = resolve-faithful table (goal_in job d q) w.resolved s fine.cited inside k.going.faithful here in
        (record { faithful = now.0; tidy = resolve-tidy table fine (goal_in job d q) w.resolved s k.tidy here; grows = now.2 }, is, now.1, constant)

  -- ---- slots, over such a state

  module _ (d : Defined) (answers : List ℕ) (w : Ready) (k : Kept d answers w) (s : Resolved) (on : Onward d w s) where
    abbrev given-now : List (ℕ × ℕ)
    given-now = w.pool.given

    entry_node : (e n : ℕ) → get_elem? s.marks e ≡ some (done n) → Became job s.marks s.nodes e n
    entry_node e n mark = became bytes job are formed fine s on.faithful e n mark

    -- an entry is wide exactly if its node is
    node_tag : (e n : ℕ) (x : Entry (List ℕ) Reference) → get_elem? s.marks e ≡ some (done n) → entry_at job.definitions e ≡ some x → tag_at s.nodes n ≡ x.tag
    node_tag e n x mark at =
        let b = entry_node e n mark in
        tag-found s.nodes n b.node b.is_node ∙ b.tag_is ∙ ap (λ (y : Entry (List ℕ) Reference). y.tag) (some_inj (sym b.is_entry ∙ at))

    wide_node : (e n : ℕ) → get_elem? s.marks e ≡ some (done n) → Wide job e → is_wide (tag_at s.nodes n) ≡ true
    wide_node e n mark (x, at, tag) =
        ap is_wide (node_tag e n x mark (found_append (constants_of job.definitions) (bootstraps_of job.definitions) e x at)) ∙ tag-wide x.tag tag

    node_wide : (e n : ℕ) → get_elem? s.marks e ≡ some (done n) → is_wide (tag_at s.nodes n) ≡ true → Wide job e
    unfolding is_wide
    node_wide e n mark wide =
        let b = entry_node e n mark in
        let is = node_tag e n b.entry mark b.is_entry in
        go b.entry (sym (ap is_wide is) ∙ wide) (append_at (constants_of job.definitions) (bootstraps_of job.definitions) e b.entry b.is_entry)
      where
        go :
            (x : Entry (List ℕ) Reference) →
            is_wide x.tag ≡ true →
            (get_elem? (constants_of job.definitions) e ≡ some x) ⊎ ((j : ℕ) × (e ≡ length (constants_of job.definitions) + j) × (get_elem? (bootstraps_of job.definitions) j ≡ some x)) →
            Wide job e
        go x w (inl at) = (x, at, wide_tag x.tag w)
        go x w (inr (j, is, at)) = clash (cc (sym w ∙ ap is_wide (bootstrap_tag_lem job.definitions j x at).0))

    -- a constant that an answer went to has it, and what a node has went to its constant
    got_node : (e a : ℕ) → Got job answers e a → (n : ℕ) × (get_elem? s.marks e ≡ some (done n)) × (lookup n given-now ≡ some a)
    got_node e a (i, q, at, leads, has) =
        let is = leads_goes d k.is_defined q.what (table_entry e) leads in
        let h = subst (λ g. Answered g a w) is (k.answered i q a at has) in
        go h.settled h.slot
      where
        go :
            (m : (n : ℕ) × (get_elem? w.resolved.marks e ≡ some (done n))) →
            SlotFor given-now (child_of w.resolved.marks (table_entry e)) a →
            (n : ℕ) × (get_elem? s.marks e ≡ some (done n)) × (lookup n given-now ≡ some a)
        go (n, mark) (inl (low, _)) = absurd (omega (arith, low, child_done w.resolved.marks e n mark))
        go (n, mark) (inr (_, slot)) =
            let same : child_of w.resolved.marks (table_entry e) - first_node ≡ n = omega (arith, child_done w.resolved.marks e n mark) in
            (n, on.grows.marks_kept e n mark, subst (λ n. lookup n given-now ≡ some a) same slot)

    node_got : (n a : ℕ) → Among (n, a) given-now → (e : ℕ) × (get_elem? s.marks e ≡ some (done n)) × Got job answers e a
    node_got n a h =
        let (i, q, e, at, has, is, mark) = k.given n a h in
        (e, on.grows.marks_kept e n mark, (i, q, at, goes_leads job w.resolved.marks q.what (table_entry e) is (n, mark), has))

    slot-had : (e n a : ℕ) → get_elem? s.marks e ≡ some (done n) → HasSlot job answers e a → lookup n given-now ≡ some a
    slot-had e n a mark (f, got, same) =
        let (m, mark', slot) = got_node f a got in
        let one =
        same-child bytes job are formed fine s on.faithful on.tidy.orderly (defined_once d k.is_defined) (table_entry f) (table_entry e) same (m, mark') (n, mark) in
        let is : m ≡ n = omega (arith, one, child_done s.marks f m mark', child_done s.marks e n mark) in
        subst (λ n. lookup n given-now ≡ some a) is slot

    had_slot : (e n a : ℕ) → get_elem? s.marks e ≡ some (done n) → lookup n given-now ≡ some a → HasSlot job answers e a
    had_slot e n a mark slot =
        let (f, mark', got) = node_got n a (lookup-at n a given-now slot) in (
          f,
          got,
          child_same bytes job are formed fine s on.faithful on.tidy.orderly (table_entry f) (table_entry e) (tt, (n, mark')) (tt, (n, mark))
              (child_done s.marks f n mark' ∙ sym (child_done s.marks e n mark)),
        )

    -- so what is given out was given to nodes
    given_out : (t : ℕ) → GivenToNode s.nodes w.pool t → GivenOut job answers t
    given_out t (n, a, at, takes) =
        let (e, mark, got) = node_got n a at in
        (e, a, got, takes_same (node_wide e n mark) takes)

    out_given : (t : ℕ) → GivenOut job answers t → GivenToNode s.nodes w.pool t
    out_given t (e, a, got, takes) =
        let (n, mark, slot) = got_node e a got in
        (n, a, lookup-at n a given-now slot, takes_same (wide_node e n mark) takes)

    occurs : Occurs (top_of job) d.held s.nodes w.pool
    occurs = subst (λ nodes. Occurs (top_of job) d.held nodes w.pool) (sym on.grows.nodes_kept.1) (more_resolved on.grows.nodes_kept.0 k.going.pooled.occurs)

    pool_asked : (t : ℕ) → Among t (free_slots w.pool.slots.gaps) → Free job answers t
    pool_asked t h =
        let (low, high, raw, given) = pool_free job d k.is_defined s.nodes w.pool occurs t h in
        (low, high, raw, λ out. given (out_given t out))

    asked_pool : (t : ℕ) → Free job answers t → Among t (free_slots w.pool.slots.gaps)
    asked_pool t (low, high, raw, given) =
        free_pool job d k.is_defined s.nodes w.pool occurs t (low, high, raw, λ to. given (given_out t to))

    -- ---- an entry that became a node, and its request

    module _ (e n : ℕ) (mark : get_elem? s.marks e ≡ some (done n)) where
      has_none : lookup n given-now ≡ none → HasNoSlot job answers e
      has_none unheld a has = none≢some (sym unheld ∙ slot-had e n a mark has)

      not-held : HasNoSlot job answers e → lookup n given-now ≡ none
      not-held none-had = go (lookup n given-now) refl
        where
          go : (o : Option ℕ) → lookup n given-now ≡ o → lookup n given-now ≡ none
          go none at = at
          go (some a) at = absurd (none-had a (had_slot e n a mark at))

      -- it is refused a slot exactly if it has none and there is none for it
      pub asked_lacks :
          (ldc : Bool) (code : ℕ) → allocate s.nodes ldc n w.pool ≡ bad code →
          HasNoSlot job answers e × NoSlot (Wide job e) (Free job answers) ldc × (code ≡ no_slot ldc)
      asked_lacks ldc code refused =
          let (unheld, none_free) = lacks (top_of job) d.held s.nodes w.pool ldc n code occurs refused in (
            has_none unheld,
            no_slot-same (node_wide e n mark) (wide_node e n mark) asked_pool none_free,
            (allocate-refused s.nodes ldc n code w.pool refused).1,
          )

      pub lacks_asked : (ldc : Bool) → HasNoSlot job answers e → NoSlot (Wide job e) (Free job answers) ldc → allocate s.nodes ldc n w.pool ≡ bad (no_slot ldc)
      lacks_asked ldc none-had none_free =
          lacks_refused (top_of job) d.held s.nodes w.pool ldc n occurs (not-held none-had) (no_slot-same (wide_node e n mark) (node_wide e n mark) pool_asked none_free)

      -- and gets one above 255 for ldc if it has it, or is wide and no two neighbours that are free lie lower
      abbrev pub GetsPair : ℕ → Type 0
      GetsPair a = HasNoSlot job answers e × Wide job e × Free job answers a × Free job answers (suc a) × ((t : ℕ) → Free job answers t → Free job answers (suc t) → a ≤ t)

      pub asked_above : (a : ℕ) (p : Pool) → allocate s.nodes true n w.pool ≡ good (a, p) → 255 < a → HasSlot job answers e a ⊎ GetsPair a
      asked_above a p got high = go (above (top_of job) d.held s.nodes w.pool n a p occurs got high)
        where
          go : Above s.nodes n w.pool a → HasSlot job answers e a ⊎ GetsPair a
          go (had slot) = inl (had_slot e n a mark slot)
          go (gets unheld wide one two lowest) =
              inr (has_none unheld, node_wide e n mark wide, pool_asked a one, pool_asked (suc a) two, λ t f g. lowest t (asked_pool t f) (asked_pool (suc t) g))

      pub slot_kept : (ldc : Bool) (a b : ℕ) (p : Pool) → HasSlot job answers e a → allocate s.nodes ldc n w.pool ≡ good (b, p) → a ≡ b
      slot_kept ldc a b p has got =
          ap (λ (y : ℕ × Pool). y.0) (good_inj (sym (allocate-old s.nodes ldc n a w.pool (slot-had e n a mark has)) ∙ got))

      pub pair_lowest :
          (ldc : Bool) (a b : ℕ) (p : Pool) → GetsPair a → allocate s.nodes ldc n w.pool ≡ good (b, p) → a ≤ b
      unfolding slot_for
      pair_lowest ldc a b p (none-had, wide, _, _, lowest) got = go (met s.nodes ldc n b w.pool p got)
        where
          go : Met s.nodes ldc n w.pool b p → a ≤ b
          go (old h _) = none≢some (sym (not-held none-had) ∙ h)
          go (new slots _ taken _) =
              let pair =
              wide_pair (top_of job) d.held s.nodes w.pool b slots occurs
              (subst (λ (t : Bool). slot_for t ldc w.pool.slots ≡ some (b, slots)) (wide_node e n mark wide) taken) in
              lowest b (pool_asked b pair.0) (pool_asked (suc b) pair.1)

  -- ---- the pools of building

  module _ (d : Defined) (answers : List ℕ) (w : Ready) (k : Kept d answers w) where
    kids : KidsIn w.resolved.nodes
    kids = kids_in_lem table fine w.resolved k.going.faithful

    pub building_occurs : {p : Pool} → PoolIn w.resolved.nodes w.pool p → Occurs (top_of job) d.held w.resolved.nodes p
    building_occurs at_start = k.going.pooled.occurs
    building_occurs (after_child m c x p p' h a high e) =
        after_request false (c - first_node) x p' (building_occurs h) (omega (arith, NodesAndChildren.kids_in_lem w.resolved.nodes kids m c a high, high)) e
    building_occurs (after_taken pending p h) = stack_taken pending (building_occurs h)

    pub name_occurs : (indexes : List (ℕ × ℕ)) (m : Made) → build_all w.resolved.nodes indexes w.pool ≡ good m → Occurs (top_of job) d.held (intern attribute_text w.resolved.nodes) m.pool
    name_occurs indexes m e =
        let i = interned attribute_text w.resolved.nodes in
        subst (λ nodes. Occurs (top_of job) d.held nodes m.pool) (sym i.kept.1)
        (more_resolved i.kept.0 (building_occurs (when_good (built w.resolved.nodes indexes w.pool) e).0))
