-- LOWEST: where a job comes to be built, a refusal met at a node is told at the lowest record of the entries that are reached and are the same as one
-- that became the node. Assumes nothing.
use mathlib.Core.Bool.{true, ◌||◌, not}
use mathlib.Core.List.{List, [], ◌∷◌, ◌++◌, map}
use mathlib.Core.Logic.{◌⊎◌, inl, inr}
use mathlib.Core.Option.{some}
use mathlib.Core.Path.{◌≡◌, refl, sym, ap, subst, ◌∙◌}
use Prim.Native.Nat.{ℕ, suc, ◌+◌, ◌≤◌, ◌<◌}
use native.Mathlib.Omega.{arith}
use lib.Dec.{leb}
use lib.ListN.{length, get_or, get_elem?}
use borrow.Author.Tests.{eqb-true, eq-eqb}
use Rattle.definition.specs.Basics.{good, at_record, unless, position}
use Rattle.definition.specs.Shapes.{Kind, constant, bootstrap, bootstrap_tag, Entry, with_kids}
use Rattle.definition.specs.Job.{Reference, entry, placed, Request, Job}
use Rattle.definition.specs.Form.{form}
use Rattle.definition.specs.Numbering.{top_of, constants_of, bootstraps_of, numbered}
use Rattle.definition.specs.Definitions.{Defined, define_all, nothing_defined}
use Rattle.definition.specs.Resolving.{Goal, raw_number, table_entry, refusal, place_of, goal_of, Node, Mark, fresh, underway, done, child_of, resolve, resolve_all, nothing_resolved}
use Rattle.definition.specs.Places.{table_records, became, record_of}
use Rattle.definition.specs.Slots.{highest_ldc}
use Rattle.definition.specs.Building.{slot_of}
use Rattle.definition.specs.Layout.{starters, Ready, end_definitions, answer, answer_all}
use Rattle.facts.specs.Lists.{Among}
use Rattle.facts.proofs.Lists.{clash, true≢false, some_inj, order, found_inside, found_read, inside_found, among-nil, among-cons, among-left, among-right, among-either, among_later, map_at, unmap, position-before, position-hit}
use Rattle.facts.proofs.Each.{Each, each_from}
use Rattle.facts.proofs.Results.{good_inj, good_then, at_record-good}
use Rattle.laws.specs.Statements.{IsBytes}
use Rattle.laws.specs.LeadsStatement.{Leads, NamedOnce}
use Rattle.laws.specs.SharedStatement.{Same}
use Rattle.laws.specs.Faithful.{Settled, InTable}
use Rattle.laws.specs.Counted.{count_in}
use Rattle.laws.specs.LowestStatement.{Reached, by_raw, by_request, by_entry, LowestRecord, Lowest}
use Rattle.laws.proofs.Numbering.NumberedCited.{count_numbered}
use Rattle.laws.proofs.Definitions.DefinedAsPlaced.{DefinedFacts, wide_at, defined_facts, placed-forth, placed-back, starters-start, start_starters}
use Rattle.laws.proofs.Definitions.RecordsOfEntries.{table_many, record_found, found_record, records-rise, table_numbered}
use Rattle.laws.proofs.Resolving.JobGoals.{job_names, job_constants, job_table, linked-length, table_constant, table_bootstrap}
use Rattle.laws.proofs.Resolving.LeadsAsFollowed.{leads_followed, followed_leads, entry_leads, once_defined}
use Rattle.laws.proofs.Resolving.FaithfulToEntries.{settled-grows}
use Rattle.laws.proofs.Resolving.ResolvedNodes.{ConstantGoal, child_done, GoodTable}
use Rattle.laws.proofs.Resolving.NodesApart.{Tidy, nothing_tidy, resolve-tidy, resolve_all-tidy}
use Rattle.laws.proofs.Resolving.JobTableGood.{asks-good, numbered-cited, definitions_low_lem, requests_low_lem}
use Rattle.laws.proofs.Resolving.EntryOrigins.{origin}
use Rattle.laws.proofs.Resolving.SameConstants as SameConstants
use Rattle.laws.proofs.Resolving.SameConstants.{goal_numbered, Became, same-child, child_same}
use Rattle.laws.proofs.Resolving.OnlyReached.{GoalIn, OnlyIn, nothing_only, resolve-only, resolve_all-only}
use Rattle.laws.proofs.Building.AfterRequests.{Going, answer-going}
use Rattle.laws.proofs.Building.AfterRecord50.{raw_goals}
use Rattle.laws.proofs.Building.BeforeRequests.{formed_table, begun_names, same-table, begun_raws, begun}
use Rattle.laws.proofs.Building.LayoutStages.{constants_in, table_in}
use Rattle.laws.proofs.Runs.StepsOfRuns.{Reaches, after_fifty, after_answer}

-- an entry that became node k has this mark
became-done : (k : ℕ) (m : Mark) → became k m ≡ true → m ≡ done k
unfolding became
became-done k fresh t = clash (cc)
became-done k underway t = clash (cc)
became-done k (done n) t = ap done (sym (eqb-true k n t))

done_became : (k : ℕ) → became k (done k) ≡ true
unfolding became
done_became k = eq-eqb k k refl

-- the first that became node k: it did, and comes first
first_became :
    (marks : List Mark) (e k : ℕ) →
    get_elem? marks e ≡ some (done k) →
    (get_elem? marks (position (became k) marks) ≡ some (done k)) × ((d : ℕ) → get_elem? marks d ≡ some (done k) → position (became k) marks ≤ d)
first_became marks e k at =
    let (m, there, t) = position-hit (became k) marks e (done k) at (done_became k) in
    (there ∙ ap some (became-done k m t), λ d h. go d h (order d (position (became k) marks)))
  where
    go : (d : ℕ) → get_elem? marks d ≡ some (done k) → (d < position (became k) marks) ⊎ (position (became k) marks ≤ d) → position (became k) marks ≤ d
    go d h (inl low) = true≢false (sym (done_became k) ∙ position-before (became k) marks d (done k) h low)
    go d h (inr high) = high

module _ (bytes : List ℕ) (job : Job (List ℕ)) (are : IsBytes bytes) (formed : form bytes ≡ good job) where
  abbrev size : ℕ
  size = job_constants (numbered job)

  abbrev table : List (Entry ℕ Goal)
  table = job_table (numbered job)

  abbrev goes : Reference → Goal
  goes r = goal_of (job_names (numbered job)) size r

  fine : GoodTable table
  fine = formed_table bytes job are formed

  -- ---- what is reached, over the table

  -- a reference leads to the entry that it is followed to
  goes_to : (r : Reference) (e : ℕ) → goes r ≡ table_entry e → Leads job.definitions r (table_entry e)
  goes_to r e is = followed_leads job.definitions r (table_entry e) (sym (goal_numbered job r) ∙ is) (λ code q. clash (cc))

  onward : (e : ℕ) (x : Entry ℕ Goal) (g : Goal) → get_elem? table e ≡ some x → Among g x.kids → Reached job e → GoalIn (Reached job) g
  onward e x (raw_number n) at a h = tt
  onward e x (table_entry d) at a h =
      let o = origin bytes job are formed e x at in
      let (r, among, is) = unmap goes o.entry.kids (table_entry d) (subst (Among (table_entry d)) o.kids_are a) in
      by_entry e o.entry r d h o.there among (goes_to r d is)
  onward e x (refusal code) at a h = tt

  -- what a goal of a request or a raw definition is
  goal_in_lem : (r : Reference) (g : Goal) → goes r ≡ g → ((e : ℕ) → Leads job.definitions r (table_entry e) → Reached job e) → GoalIn (Reached job) g
  goal_in_lem r (raw_number n) is h = tt
  goal_in_lem r (table_entry e) is h = h e (goes_to r e is)
  goal_in_lem r (refusal code) is h = tt

  module _ (d : Defined) (is_defined : define_all (top_of job) (constants_in (numbered job)) 0 (numbered job).definitions nothing_defined ≡ good d) where
    facts : DefinedFacts (wide_at (constants_in (numbered job))) (numbered job).definitions d
    facts = defined_facts (top_of job) (constants_in (numbered job)) (numbered job).definitions d is_defined

    once : NamedOnce job.definitions
    once = once_defined job d is_defined

    leads_goes : (r : Reference) (goal : Goal) → Leads job.definitions r goal → goes r ≡ goal
    leads_goes r goal leads = goal_numbered job r ∙ leads_followed job.definitions once r goal leads

    -- where a raw definition's entry stands in the table
    same_place : (kind : Kind) (n : ℕ) → place_of size kind n ≡ place_of (length (constants_of job.definitions)) kind n
    unfolding count_in
    same_place kind n = ap (λ c. place_of c kind n) (count_numbered job constant)

    raw_in : (kind : Kind) (n number : ℕ) → Among (placed kind n number) (numbered job).definitions → Reached job (place_of size kind number)
    raw_in kind n number a =
        let (i, at) = placed-back job n number kind a in
        by_raw i kind n number (place_of size kind number) at (subst (λ e. Leads job.definitions (entry kind number) (table_entry e)) (sym (same_place kind number)) (entry_leads job.definitions kind number))

    raws_in_lem : Each (GoalIn (Reached job)) (raw_goals size d)
    unfolding place_of
    raws_in_lem = each_from (GoalIn (Reached job)) (raw_goals size d) λ i g at. go g (among-either g (map (λ r. table_entry r.1) (starters d.held)) (map (λ r. table_entry (size + r.1)) d.indexes) (i, at))
      where
        go : (g : Goal) → Among g (map (λ r. table_entry r.1) (starters d.held)) ⊎ Among g (map (λ r. table_entry (size + r.1)) d.indexes) → GoalIn (Reached job) g
        go g (inl h) =
            let u = unmap (λ (r : ℕ × ℕ). table_entry r.1) (starters d.held) g h in
            subst (GoalIn (Reached job)) u.2
            (raw_in constant u.0.0 u.0.1 (facts.all_held.start_placed u.0.0 u.0.1 (starters-start d.held u.0.0 u.0.1 u.1)))
        go g (inr h) =
            let u = unmap (λ (r : ℕ × ℕ). table_entry (size + r.1)) d.indexes g h in
            subst (GoalIn (Reached job)) u.2 (raw_in bootstrap u.0.0 u.0.1 (facts.all_indexes.index_placed u.0.0 u.0.1 u.1))

    -- what is placed is resolved at record 50
    placed-goal : (kind : Kind) (n number : ℕ) → Among (placed kind n number) (numbered job).definitions → Among (table_entry (place_of size kind number)) (raw_goals size d)
    unfolding place_of
    placed-goal constant n number a =
        let (i, at) = start_starters d.held n number (facts.all_held.start_held n number a) in
        among-left (table_entry number) (map (λ r. table_entry r.1) (starters d.held)) (map (λ r. table_entry (size + r.1)) d.indexes)
        (i, map_at (λ (r : ℕ × ℕ). table_entry r.1) (starters d.held) i (n, number) at)
    placed-goal bootstrap n number a =
        let (i, at) = facts.all_indexes.index_held n number a in
        among-right (table_entry (size + number)) (map (λ r. table_entry r.1) (starters d.held)) (map (λ r. table_entry (size + r.1)) d.indexes)
        (i, map_at (λ (r : ℕ × ℕ). table_entry (size + r.1)) d.indexes i (n, number) at)

    -- ---- what is kept from record 50 on, with the requests that are left

    record Kept (left : List Request) (w : Ready) : Type 0 where
      raws : List (ℕ × ℕ)
      going : Going table (top_of job) d.held raws w
      tidy : Tidy table w.resolved
      only : OnlyIn table (Reached job) onward w.resolved
      placed_there : (g : Goal) → Among g (raw_goals size d) → Settled w.resolved.marks g
      still : (q : Request) → Among q left → Among q job.requests
      asked : (q : Request) → Among q job.requests → Among q left ⊎ Settled w.resolved.marks (goes q.what)

    fifty_kept : (w : Ready) → end_definitions (top_of job) (table_in (numbered job) d) size d ≡ good w → Kept job.requests w
    unfolding end_definitions
    fifty_kept w ready =
        let (going, settled) = begun bytes job are formed d is_defined w ready in
        good_then (resolve_all table (raw_goals size d) (nothing_resolved table)) _ w
        (subst (λ t. end_definitions (top_of job) t size d ≡ good w) (same-table bytes job are formed d is_defined) ready) λ s resolved e.
        record {
          raws = begun_raws bytes job are formed d is_defined w ready;
          going = going;
          tidy = subst (λ (x : Ready). Tidy table x.resolved) (good_inj e) (resolve_all-tidy table fine (raw_goals size d) (nothing_resolved table) s (nothing_tidy table) resolved);
          only =
              subst (λ (x : Ready). OnlyIn table (Reached job) onward x.resolved) (good_inj e)
              (resolve_all-only table (Reached job) onward (raw_goals size d) (nothing_resolved table) s raws_in_lem (nothing_only table (Reached job) onward) resolved);
          placed_there = settled;
          still = λ q a. a;
          asked = λ q a. inl a;
        }

    asks : (q : Request) → Among q job.requests → InTable (length table) (goes q.what) × ConstantGoal table (goes q.what)
    unfolding numbered
    asks q (i, at) = asks-good (numbered job) (numbered-cited bytes job are formed) (definitions_low_lem bytes job are formed) (requests_low_lem bytes job are formed) i q at

    resolved_kept :
        (q : Request) (w w' : Ready) (a : ℕ) → Among q job.requests → answer q.ldc (goes q.what) w ≡ good (a, w') → w.table ≡ table →
        Tidy table w.resolved → OnlyIn table (Reached job) onward w.resolved →
        Tidy table w'.resolved × OnlyIn table (Reached job) onward w'.resolved
    unfolding answer
    resolved_kept q w w' a (i, at) e same tidy only =
        good_then (resolve w.table (goes q.what) w.resolved) _ (a, w') e λ s resolved e₁.
        good_then (slot_of s.nodes q.ldc (child_of s.marks (goes q.what)) w.pool) _ (a, w') e₁ λ x _ e₂.
        good_then (unless (not q.ldc || leb x.0 highest_ldc) 16) _ (a, w') e₂ λ _ _ e₃.
        let here = subst (λ t. resolve t (goes q.what) w.resolved ≡ good s) same resolved in
        subst (λ (y : ℕ × Ready). Tidy table y.1.resolved × OnlyIn table (Reached job) onward y.1.resolved) (good_inj e₃) (
          resolve-tidy table fine (goes q.what) w.resolved s tidy here,
          resolve-only table (Reached job) onward (goes q.what) w.resolved s (goal_in_lem q.what (goes q.what) refl (λ e leads. by_request i q e at leads)) only here,
        )

    answer-kept : (q : Request) (left : List Request) (w w' : Ready) (a : ℕ) → Kept (q ∷ left) w → answer q.ldc (goes q.what) w ≡ good (a, w') → Kept left w'
    unfolding answer
    answer-kept q left w w' a k e =
        let (i, at) = k.still q (0, refl) in
        let (inside, plain) = asks q (i, at) in
        let (going, settled, more) = answer-going table fine.cited (top_of job) d.held k.raws q.ldc (goes q.what) w (a, w') inside plain e k.going in
        let (tidy, only) = resolved_kept q w w' a (i, at) e k.going.same_table k.tidy k.only in
        record {
          raws = k.raws;
          going = going;
          tidy = tidy;
          only = only;
          placed_there = λ g h. settled-grows w.resolved w'.resolved g more.grows (k.placed_there g h);
          still = λ p h. k.still p (among_later p q left h);
          asked = λ p h. onward-asked p (λ s. settled-grows w.resolved w'.resolved (goes p.what) more.grows s) settled.settled (k.asked p h);
        }
      where
        onward-asked :
            (p : Request) → (Settled w.resolved.marks (goes p.what) → Settled w'.resolved.marks (goes p.what)) → Settled w'.resolved.marks (goes q.what) →
            Among p (q ∷ left) ⊎ Settled w.resolved.marks (goes p.what) → Among p left ⊎ Settled w'.resolved.marks (goes p.what)
        onward-asked p grow here (inr s) = inr (grow s)
        onward-asked p grow here (inl a) = ways (among-cons p q left a)
          where
            ways : (p ≡ q) ⊎ Among p left → Among p left ⊎ Settled w'.resolved.marks (goes p.what)
            ways (inl is) = inr (subst (λ (x : Request). Settled w'.resolved.marks (goes x.what)) (sym is) here)
            ways (inr b) = inl b

    kept : {left : List Request} {w : Ready} → Reaches (top_of job) (numbered job) d left w → Kept left w
    unfolding numbered
    kept (after_fifty w _ ready) = fifty_kept w ready
    kept (after_answer q left w w' a before e) =
        answer-kept q left w w' a (kept before) (subst (λ names. answer q.ldc (goal_of names size q.what) w ≡ good (a, w')) (begun_names bytes job are formed d is_defined) e)

    -- ---- once all requests are answered

    module _ (w : Ready) (all : Reaches (top_of job) (numbered job) d [] w) where
      abbrev marks : List Mark
      marks = w.resolved.marks

      -- what an entry became
      became-node : (e k : ℕ) → get_elem? marks e ≡ some (done k) → Became job marks w.resolved.nodes e k
      became-node = SameConstants.became bytes job are formed fine w.resolved (kept all).going.faithful

      -- what is reached became a node
      reached_done : {e : ℕ} → Reached job e → (k : ℕ) × (get_elem? marks e ≡ some (done k))
      reached_done (by_raw i kind n number e at leads) =
          let is = leads_goes (entry kind number) (table_entry e) leads in
          let to = leads_goes (entry kind number) (table_entry (place_of (length (constants_of job.definitions)) kind number)) (entry_leads job.definitions kind number) in
          let same : table_entry (place_of size kind number) ≡ table_entry e = ap table_entry (same_place kind number) ∙ sym to ∙ is in
          subst (Settled marks) same ((kept all).placed_there (table_entry (place_of size kind number)) (placed-goal kind n number (placed-forth job i n number kind at)))
      reached_done (by_request i q e at leads) = ways ((kept all).asked q (i, at))
        where
          ways : Among q [] ⊎ Settled marks (goes q.what) → (k : ℕ) × (get_elem? marks e ≡ some (done k))
          ways (inl a) = among-nil q a
          ways (inr s) = subst (Settled marks) (leads_goes q.what (table_entry e) leads) s
      reached_done (by_entry d x r e h at a leads) =
          let (k, mark) = reached_done h in
          let b = became-node d k mark in
          let same : b.entry ≡ x = some_inj (sym b.is_entry ∙ at) in
          let (i, there) = subst (λ (x : Entry (List ℕ) Reference). Among r x.kids) (sym same) a in
          subst (Settled marks) (leads_followed job.definitions once r (table_entry e) leads) (b.fine i r there).1

      -- the same entries became one node, and one node's entries are the same
      same-done : (e d k m : ℕ) → get_elem? marks e ≡ some (done k) → get_elem? marks d ≡ some (done m) → Same job.definitions (table_entry e) (table_entry d) → m ≡ k
      same-done e d k m at there same =
          let one = same-child bytes job are formed fine w.resolved (kept all).going.faithful (kept all).tidy.orderly once (table_entry e) (table_entry d) same (k, at) (m, there) in
          omega (arith, one, child_done marks e k at, child_done marks d m there)

      done_same : (e d k : ℕ) → get_elem? marks e ≡ some (done k) → get_elem? marks d ≡ some (done k) → Same job.definitions (table_entry e) (table_entry d)
      done_same e d k at there =
          child_same bytes job are formed fine w.resolved (kept all).going.faithful (kept all).tidy.orderly (table_entry e) (table_entry d) (tt, (k, at)) (tt, (k, there))
          (child_done marks e k at ∙ sym (child_done marks d k there))

      -- they are all constants, or all bootstraps
      one_side :
          (d e k : ℕ) → get_elem? marks d ≡ some (done k) → get_elem? marks e ≡ some (done k) →
          (e < length (constants_of job.definitions)) ⊎ (length (constants_of job.definitions) ≤ d)
      unfolding with_kids count_in
      one_side d e k there at = ways (order e size) (order d size)
        where
          same_size : size ≡ length (constants_of job.definitions)
          same_size = count_numbered job constant

          ways : (e < size) ⊎ (size ≤ e) → (d < size) ⊎ (size ≤ d) → (e < length (constants_of job.definitions)) ⊎ (length (constants_of job.definitions) ≤ d)
          ways (inl low) side = inl (omega (arith, low, same_size))
          ways (inr high) (inr far) = inr (omega (arith, far, same_size))
          ways (inr high) (inl low) =
              let (x, x-at, x-node, _) = (kept all).going.faithful.node_of d k there in
              let (y, y-at, y-node, _) = (kept all).going.faithful.node_of e k at in
              let one = some_inj (sym x-node ∙ y-node) in
              let tags : x.tag ≡ y.tag = ap (λ (n : Node). n.tag) one in
              let no = table_constant (numbered job).definitions (job_names (numbered job)) size d x x-at low in
              let yes = table_bootstrap (numbered job).definitions (job_names (numbered job)) size e y y-at high in
              true≢false (sym (eq-eqb x.tag bootstrap_tag (tags ∙ yes)) ∙ no)

      -- each entry has a record
      record_there : (e k : ℕ) → get_elem? marks e ≡ some (done k) → (i : ℕ) × (get_elem? (table_records job.definitions) e ≡ some i)
      record_there e k at =
          let ds = (numbered job).definitions in
          let low = found_inside marks e (done k) at in
          let many = (kept all).going.faithful.marks_length ∙ linked-length (job_names (numbered job)) size (constants_of ds ++ bootstraps_of ds) ∙ sym (table_many ds) ∙ ap length (table_numbered job) in
          inside_found (table_records job.definitions) e (omega (arith, low, many))

      -- LOWEST, of a state that a run comes to
      pub lowest_there : (e k : ℕ) → get_elem? marks e ≡ some (done k) → LowestRecord job e (record_of (table_records (numbered job).definitions) marks k)
      unfolding record_of
      lowest_there e k at =
          let first = position (became k) marks in
          let (there, before) = first_became marks e k at in
          let (i, found) = record_there first k there in
          let told : i ≡ get_or (table_records (numbered job).definitions) first 0 =
          sym (found_read (table_records job.definitions) first i 0 found) ∙ ap (λ l. get_or l first 0) (sym (table_numbered job)) in
          subst (LowestRecord job e) told
          (record {
            entry = first;
            is_reached = (kept all).only first k there;
            is_same = done_same e first k at there;
            is_record = found_record job.definitions first i found;
            lowest =
                λ d j reached same is.
                let (m, mark) = reached_done reached in
                let node : get_elem? marks d ≡ some (done k) = subst (λ m. get_elem? marks d ≡ some (done m)) (same-done e d k m at mark same) mark in
                records-rise job.definitions first d i j (before d node) (one_side first d k there node) found (record_found job.definitions d j is);
          })

  -- the requests in turn
  answered-reaches :
      (d : Defined) (place : ℕ) (left : List Request) (w : Ready) (r : List ℕ × Ready) →
      Reaches (top_of job) (numbered job) d left w →
      answer_all d.names size place left w ≡ good r →
      Reaches (top_of job) (numbered job) d [] r.1
  unfolding answer_all
  answered-reaches d place [] w r h e = subst (λ (x : List ℕ × Ready). Reaches (top_of job) (numbered job) d [] x.1) (good_inj e) h
  answered-reaches d place (q ∷ left) w r h e =
      good_then (at_record place (answer q.ldc (goal_of d.names size q.what) w)) _ r e λ a here e₁.
      good_then (answer_all d.names size (suc place) left a.1) _ r e₁ λ rest there e₂.
      subst (λ (x : List ℕ × Ready). Reaches (top_of job) (numbered job) d [] x.1) (good_inj e₂)
      (answered-reaches d (suc place) left a.1 rest (after_answer q left w a.1 a.0 h (at_record-good place _ a here)) there)

pub lowest : Lowest
lowest bytes job w e k are formed c at =
    let d = c.defined in
    let start = after_fifty c.ready c.is_defined c.is_ready in
    lowest_there bytes job are formed d c.is_defined w (answered-reaches bytes job are formed d _ (numbered job).requests c.ready (c.answers, w) start c.is_answered) e k at
