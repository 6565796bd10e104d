-- The cause of a refusal at record 50, at a request or at the build record of a formed job; or 0 for want of fuel. Assumes nothing.
use mathlib.Core.Bool.{Bool, true, false, ◌||◌, not}
use mathlib.Core.List.{List, [], ◌∷◌, ◌++◌, map}
use mathlib.Core.Logic.{◌⊎◌, inl, inr}
use mathlib.Core.Option.{Option, none, some}
use mathlib.Core.Path.{◌≡◌, refl, sym, ap, subst, ◌∙◌}
use Prim.Native.Nat.{ℕ, suc, ◌+◌, ◌-◌, ◌≤◌, ◌<◌}
use native.Mathlib.Omega.{arith}
use lib.Dec.{leb}
use lib.ListN.{length, get_elem?, length-map}
use borrow.Author.Tests.{leb-false}
use Rattle.definition.specs.Basics.{good, bad, Refusal, position, lookup}
use Rattle.definition.specs.Shapes.{Kind, constant, bootstrap, Entry}
use Rattle.definition.specs.Job.{Reference, entry, placed, Request, Job}
use Rattle.definition.specs.Form.{form}
use Rattle.definition.specs.Places.{table_records, record_of}
use Rattle.definition.specs.Settings.{since, known}
use Rattle.definition.specs.Numbering.{top_of, bootstraps_of, literals, numbered_definition, numbered}
use Rattle.definition.specs.Definitions.{Naming, Defined, define_all, nothing_defined, tag_at}
use Rattle.definition.specs.Resolving.{Goal, raw_number, table_entry, refusal, place_of, follow, goal_of, linked, Node, done, Resolved, same_node, intern, child_of, resolve, resolve_all, nothing_resolved}
use Rattle.definition.specs.Slots.{highest_ldc}
use Rattle.definition.specs.Building.{Pool, no_slot, allocate, slot_of, slots_of, Row, row_index, Made, build_all, attribute_text, kids_of, name_wanted, name_slot}
use Rattle.definition.specs.Layout.{starters, Ready, end_definitions, answer, answer_all, build_layout, layout}
use Rattle.facts.specs.Lists.{Among}
use Rattle.facts.proofs.Lists.{clash, true≢false, some_inj, found_inside, found_seam, among-nil, among-either, among_later, unmap}
use Rattle.facts.proofs.Outcomes.{Ends, well, next, weaker, ended, known-good, Anything}
use Rattle.laws.specs.Statements.{IsBytes}
use Rattle.laws.specs.Faithful.{InTable, Settled, Faithful}
use Rattle.causes.specs.CauseStatement.{request_place, Resolves, by_raw, by_request, ResolvingCause, Behind, behind50, behind_request, AsksFor, HasSlot, AllAnswered, NextNumber, build_place, goal_in, SlotCause, no_slot_asked, no_ldc_slot_asked, raw_above_lem, slot_above, pair_above, raw_lacks, child_lacks, bootstrap_lacks, name_lacks, no_index_lem, too_new, ToldAt, DefinitionCause, Lacks}
use Rattle.laws.proofs.Form.CitedEntries.{Cites, Cited, placed-cited}
use Rattle.laws.proofs.Form.FormedJobs.{form-formed}
use Rattle.laws.proofs.Definitions.DefinedAsPlaced.{DefinedFacts, wide_at, defined_facts, starters-start}
use Rattle.laws.proofs.Resolving.FaithfulToEntries.{nothing_faithful, resolve-faithful}
use Rattle.laws.proofs.Resolving.JobGoals.{job_names, job_constants, job_table}
use Rattle.laws.proofs.Resolving.JobTableGood.{placed-good, numbered-cited, definitions_low_lem, requests_low_lem}
use Rattle.laws.proofs.Resolving.NodesAndChildren.{kids_found}
use Rattle.laws.proofs.Resolving.ResolvedNodes.{ConstantGoal, child_done, settled-entry, GoodTable, kids_in_lem}
use Rattle.laws.proofs.Resolving.SameConstants.{goes_leads}
use Rattle.laws.proofs.Building.LayoutStages.{constants_in, table_in, rows_in}
use Rattle.laws.proofs.Building.AfterRecord50.{raw_goals}
use Rattle.laws.proofs.Building.BeforeRequests.{formed_table, begun_names}
use Rattle.laws.proofs.Building.ExactlySeventeen.{exactly_seventeen}
use Rattle.laws.proofs.Runs.StepsOfRuns.{PoolIn, RowOf, RowsIn, raws_at}
use Rattle.laws.proofs.Runs.StepsOfBuilding.{slot_of-by}
use Rattle.laws.proofs.Runs.StepRefusals.{allocate-refused, row_index-refused}
use Rattle.laws.proofs.Runs.IndexOccurs.{index_occurs}
use Rattle.laws.proofs.Runs.Lowest.{lowest_there}
use Rattle.causes.proofs.CauseSteps.{at_nodes_lem, unless-cause, at_place}
use Rattle.causes.proofs.CauseDefinitions.{placed-back, cause_of_definitions}
use Rattle.causes.proofs.CauseReached.{cause_of_resolving}
use Rattle.causes.proofs.CauseVersion.{building_version}
use Rattle.causes.proofs.CauseBuilding.{slot_of-good, cause_in_building}
use Rattle.causes.proofs.CauseForm.{snoc_length}
use Rattle.causes.proofs.CauseNoSlot.{pool_lacks}
use Rattle.causes.proofs.CausedReached.{resolving_refuted}
use Rattle.causes.proofs.UsedIndexes.{used_raw}
use Rattle.causes.proofs.SlotsSoFar.{Kept, kept, all_reaches, Onward, onward, asked_lacks, GetsPair, asked_above, building_occurs, name_occurs}

module _ (bytes : List ℕ) (job : Job (List ℕ)) (are : IsBytes bytes) (formed : form bytes ≡ good job) where
  abbrev names : List Naming
  names = job_names (numbered job)

  abbrev size : ℕ
  size = job_constants (numbered job)

  abbrev table : List (Entry ℕ Goal)
  table = job_table (numbered job)

  cited : Cited ℕ (numbered job)
  cited = numbered-cited bytes job are formed

  fine : GoodTable table
  fine = formed_table bytes job are formed

  -- the cause at a record behind the definitions
  abbrev pub Later : ℕ → ℕ → Type 0
  Later code place = (code ≡ 0) ⊎ (ResolvingCause job code place ⊎ SlotCause job code place)

  resolving_later : (place code : ℕ) → (code ≡ 0) ⊎ ResolvingCause job code place → Later code place
  resolving_later place code (inl z) = inl z
  resolving_later place code (inr c) = inr (inl c)

  module _ (d : Defined) (is_defined : define_all (top_of job) (constants_in (numbered job)) 0 (numbered job).definitions nothing_defined ≡ good d) where
    facts : DefinedFacts (wide_at (constants_in (numbered job))) (numbered job).definitions d
    facts = defined_facts (top_of job) (constants_in (numbered job)) (numbered job).definitions d is_defined

    same_names : d.names ≡ names
    same_names = begun_names bytes job are formed d is_defined

    same-table : table_in (numbered job) d ≡ table
    same-table = ap (λ names. linked names size (constants_in (numbered job) ++ bootstraps_of (numbered job).definitions)) same_names

    -- ---- record 50

    -- a goal that record 50 resolves
    abbrev Raw : Goal → Type 0
    Raw g = (r : Reference) × Resolves job (length job.definitions) r × Cites (numbered job).definitions r × (goal_of names size r ≡ g) × InTable (length table) g

    raw_goal_lem : (kind : Kind) (n e : ℕ) → Among (placed kind n e) (numbered job).definitions → Raw (table_entry (place_of size kind e))
    unfolding goal_of follow Cites
    raw_goal_lem kind n e a = (
      entry kind e,
      by_raw a.0 kind n e (placed-back job a.0 kind n e a.1),
      placed-cited (numbered job) cited kind n e a,
      refl,
      placed-good (numbered job) cited (definitions_low_lem bytes job are formed) (requests_low_lem bytes job are formed) kind n e a,
    )

    raws : (g : Goal) → Among g (raw_goals size d) → Raw g
    unfolding place_of
    raws g a = go (among-either g (map (λ r. table_entry r.1) (starters d.held)) (map (λ r. table_entry (size + r.1)) d.indexes) a)
      where
        go : Among g (map (λ r. table_entry r.1) (starters d.held)) ⊎ Among g (map (λ r. table_entry (size + r.1)) d.indexes) → Raw g
        go (inl h) =
            let u = unmap (λ (r : ℕ × ℕ). table_entry r.1) (starters d.held) g h in
            subst Raw u.2
            (raw_goal_lem constant u.0.0 u.0.1 (facts.all_held.start_placed u.0.0 u.0.1 (starters-start d.held u.0.0 u.0.1 u.1)))
        go (inr h) =
            let u = unmap (λ (r : ℕ × ℕ). table_entry (size + r.1)) d.indexes g h in
            subst Raw u.2 (raw_goal_lem bootstrap u.0.0 u.0.1 (facts.all_indexes.index_placed u.0.0 u.0.1 u.1))

    all_raws :
        (goals : List Goal) (s : Resolved) →
        ((g : Goal) → Among g goals → Raw g) →
        Faithful table s →
        Ends (λ code. (code ≡ 0) ⊎ ResolvingCause job code (length job.definitions)) Anything (resolve_all table goals s)
    unfolding resolve_all
    all_raws [] s h f = well tt
    all_raws (g ∷ goals) s h f =
        let (r, is, c, q, inside) = h g (0, refl) in
        next _
        (known-good (resolve table g s)
        (subst (λ g. Ends (λ code. (code ≡ 0) ⊎ ResolvingCause job code (length job.definitions)) Anything (resolve table g s)) q
        (cause_of_resolving job cited (length job.definitions) r s is c f))) λ s' k.
        all_raws goals s' (λ g' a. h g' (among_later g' g goals a)) (resolve-faithful table g s s' fine.cited inside f k.1).0

    -- CAUSE at record 50
    cause_of_fifty : Ends (λ code. Later code (length job.definitions)) Anything (end_definitions (top_of job) (table_in (numbered job) d) size d)
    unfolding end_definitions
    cause_of_fifty =
        subst (λ t. Ends (λ code. Later code (length job.definitions)) Anything (end_definitions (top_of job) t size d)) (sym same-table)
        (next _
        (weaker (λ code h. resolving_later (length job.definitions) code h) (λ a k. k)
        (all_raws (raw_goals size d) (nothing_resolved table) raws (nothing_faithful table fine.cited))) λ s _. well tt)

    -- ---- a request in turn

    -- what is kept behind these answers, and the requests that are left
    record Before (answers : List ℕ) (left : List Request) (w : Ready) : Type 0 where
      is_behind : Behind job d answers w
      places : (i : ℕ) → get_elem? left i ≡ get_elem? job.requests (length answers + i)
      number : length answers + length left ≡ length job.requests

    module _ (answers : List ℕ) (q : Request) (left : List Request) (w : Ready) (b : Before answers (q ∷ left) w) where
      abbrev place : ℕ
      place = request_place job (length answers)

      abbrev goal : Goal
      goal = goal_in job d q

      k : Kept bytes job are formed d answers w
      k = kept bytes job are formed d b.is_behind

      is_request : get_elem? job.requests (length answers) ≡ some q
      is_request =
          let zero_more : length answers + 0 ≡ length answers = omega arith in
          subst (λ i. get_elem? job.requests i ≡ some q) zero_more (sym (b.places 0))

      request_cited_lem : Cites (numbered job).definitions q.what
      unfolding numbered
      request_cited_lem = cited.request_cited (length answers) q is_request

      resolve-later : Ends (λ code. Later code place) Anything (resolve w.table goal w.resolved)
      resolve-later =
          weaker (λ code h. resolving_later place code h) (λ a k. k)
          (subst (λ t. Ends (λ code. (code ≡ 0) ⊎ ResolvingCause job code place) Anything (resolve t goal w.resolved)) (sym k.going.same_table)
          (subst (λ names. Ends (λ code. (code ≡ 0) ⊎ ResolvingCause job code place) Anything (resolve table (goal_of names size q.what) w.resolved)) (sym same_names)
          (cause_of_resolving job cited place q.what w.resolved (by_request (length answers) q is_request) request_cited_lem k.going.faithful)))

      module _ (s : Resolved) (resolved : resolve w.table goal w.resolved ≡ good s) where
        abbrev child : ℕ
        child = child_of s.marks goal

        on : Onward bytes job are formed d w s × (goal_of names size q.what ≡ goal) × Settled s.marks goal × ConstantGoal table goal
        on = onward bytes job are formed d answers w k q s is_request resolved

        -- it is refused neither with 12 nor with 13
        is_resolved : (code : ℕ) → ResolvingCause job code place → ⊥
        is_resolved code c = resolving_refuted job d is_defined s on.0.faithful on.0.tidy.orderly (λ r is. go is refl) c
          where
            go : {p : ℕ} {r : Reference} → Resolves job p r → p ≡ place → Settled s.marks (goal_of names size r)
            go (by_raw i kind n e at) same = absurd (omega (arith, same))
            go (by_request i p at) same =
                let one : i ≡ length answers = omega (arith, same) in
                let is : q ≡ p = some_inj (sym is_request ∙ ap (get_elem? job.requests) (sym one) ∙ at) in
                subst (λ (p : Request). Settled s.marks (goal_of names size p.what)) is (subst (Settled s.marks) (sym on.1) on.2)

        asks : (ldc : Bool) → q.ldc ≡ ldc → (g : Goal) → goal ≡ g → AsksFor job (length answers) ldc g
        asks ldc is g same =
            (q, is_request, is, goes_leads job s.marks q.what g (on.1 ∙ same) (subst (Settled s.marks) same on.2), is_resolved)

        -- a request that leads to a constant, which became node n
        module _ (e n : ℕ) (is : goal ≡ table_entry e) (mark : get_elem? s.marks e ≡ some (done n)) where
          no_slot_lem : (ldc : Bool) → q.ldc ≡ ldc → (code : ℕ) → allocate s.nodes ldc n w.pool ≡ bad code → SlotCause job code place
          unfolding no_slot
          no_slot_lem true ldc code refused =
              let (none-had, none_free, number) = asked_lacks bytes job are formed d answers w k s on.0 e n mark true code refused in
              subst (λ code. SlotCause job code place) (sym number) (no_ldc_slot_asked answers e (d, w, b.is_behind) (asks true ldc (table_entry e) is) none-had none_free)
          no_slot_lem false ldc code refused =
              let (none-had, none_free, number) = asked_lacks bytes job are formed d answers w k s on.0 e n mark false code refused in
              subst (λ code. SlotCause job code place) (sym number) (no_slot_asked answers e (d, w, b.is_behind) (asks false ldc (table_entry e) is) none-had none_free)

          node_above : q.ldc ≡ true → (r : ℕ × Pool) → allocate s.nodes true n w.pool ≡ good r → 255 < r.0 → SlotCause job 16 place
          node_above ldc r got more = go (asked_above bytes job are formed d answers w k s on.0 e n mark r.0 r.1 got more)
            where
              go : HasSlot job answers e r.0 ⊎ GetsPair bytes job are formed d answers w k s on.0 e n mark r.0 → SlotCause job 16 place
              go (inl has) = slot_above answers e r.0 (d, w, b.is_behind) (asks true ldc (table_entry e) is) has more
              go (inr (none-had, wide, one, two, lowest)) =
                  pair_above answers e r.0 (d, w, b.is_behind) (asks true ldc (table_entry e) is) none-had wide more one two lowest

        -- the entry that is asked for, and its node
        asked : 65536 ≤ child → (e : ℕ) × (n : ℕ) × (goal ≡ table_entry e) × (get_elem? s.marks e ≡ some (done n)) × (child - 65536 ≡ n)
        asked high =
            let (e, n, is, mark, became) = settled-entry table s.marks goal on.3 on.2 high in
            (e, n, is, mark, omega (arith, became))

        slot-refused : 65536 ≤ child → (code : ℕ) → allocate s.nodes q.ldc (child - 65536) w.pool ≡ bad code → Later code place
        slot-refused high code refused =
            let (e, n, is, mark, same) = asked high in
            inr (inr (no_slot_lem e n is mark q.ldc refl code (subst (λ n. allocate s.nodes q.ldc n w.pool ≡ bad code) same refused)))

        raw_above : (g : Goal) → goal ≡ g → q.ldc ≡ true → Settled s.marks g → child_of s.marks g < 65536 → 255 < child_of s.marks g → SlotCause job 16 place
        unfolding child_of
        raw_above (raw_number n) is ldc h low high = raw_above_lem answers n (d, w, b.is_behind) (asks true ldc (raw_number n) is) high
        raw_above (table_entry e) is ldc h low high = absurd (omega (arith, child_done s.marks e h.0 h.1, low))
        raw_above (refusal code) is ldc h low high = absurd h

        got_above :
            (r : ℕ × Pool) →
            ((child < 65536) × (r.0 ≡ child)) ⊎ ((65536 ≤ child) × (allocate s.nodes q.ldc (child - 65536) w.pool ≡ good r)) →
            q.ldc ≡ true →
            255 < r.0 →
            SlotCause job 16 place
        got_above r (inl (low, is)) ldc more = raw_above goal refl ldc on.2 low (subst (λ n. 255 < n) is more)
        got_above r (inr (high, got)) ldc more =
            let (e, n, is, mark, same) = asked high in
            node_above e n is mark ldc r
            (subst (λ n. allocate s.nodes true n w.pool ≡ good r) same (subst (λ b. allocate s.nodes b (child - 65536) w.pool ≡ good r) ldc got))
            more

        too_high_lem : (ldc : Bool) (a : ℕ) → (not ldc || leb a highest_ldc) ≡ false → (ldc ≡ true) × (255 < a)
        too_high_lem true a t = (refl, leb-false a highest_ldc t)
        too_high_lem false a t = clash (cc)

        slot-later : Ends (λ code. Later code place) Anything (slot_of s.nodes q.ldc child w.pool)
        slot-later =
            slot_of-by s.nodes q.ldc child w.pool tt λ high.
            ended (allocate s.nodes q.ldc (child - 65536) w.pool) (λ r e. tt) (slot-refused high)

      -- CAUSE at a request
      cause_of_request : Ends (λ code. Later code place) Anything (answer q.ldc goal w)
      unfolding answer
      cause_of_request =
          next _ (known-good (resolve w.table goal w.resolved) resolve-later) λ s k.
          next _ (known-good (slot_of s.nodes q.ldc (child_of s.marks goal) w.pool) (slot-later s k.1)) λ r e.
          next _
          (unless-cause (not q.ldc || leb r.0 highest_ldc) 16 λ t.
          let h = too_high_lem s k.1 q.ldc r.0 t in
          inr (inr (got_above s k.1 r (slot_of-good s.nodes q.ldc (child_of s.marks goal) w.pool r e.1) h.0 h.1))) λ _ _. well tt

      after : (r : ℕ × Ready) → answer q.ldc goal w ≡ good r → Before (answers ++ r.0 ∷ []) left r.1
      after r e =
          let longer = snoc_length answers r.0 in
          record {
            is_behind = behind_request answers q w r.1 r.0 b.is_behind is_request e;
            places = λ i.
                let more : length answers + suc i ≡ length (answers ++ r.0 ∷ []) + i = omega (arith, longer) in
                b.places (suc i) ∙ ap (get_elem? job.requests) more;
            number = omega (arith, longer, b.number);
          }

    -- ---- all requests

    abbrev Z : Refusal → Type 0
    Z e = Later e.code e.place

    abbrev Ended : List ℕ × Ready → Type 0
    Ended r = AllAnswered job d r.1

    all_answered :
        (answers : List ℕ) (left : List Request) (w : Ready) →
        Before answers left w →
        Ends Z Ended (answer_all d.names size (request_place job (length answers)) left w)
    unfolding answer_all
    all_answered answers [] w b = well {a = ([], w)} (answers, omega (arith, b.number), b.is_behind)
    all_answered answers (q ∷ left) w b =
        next _ (at_place Later (request_place job (length answers)) (known-good (answer q.ldc (goal_in job d q) w) (cause_of_request answers q left w b))) λ r k.
        let later : request_place job (length (answers ++ r.0 ∷ [])) ≡ suc (request_place job (length answers)) = omega (arith, snoc_length answers r.0) in
        next _
        (subst (λ p. Ends Z Ended (answer_all d.names size p left r.1)) later
        (all_answered (answers ++ r.0 ∷ []) left r.1 (after answers q left w b r k.1))) λ rest h.
        well {a = (r.0 ∷ rest.0, rest.1)} h

    -- what is kept behind record 50
    behind-fifty : (w : Ready) → end_definitions (top_of job) (table_in (numbered job) d) size d ≡ good w → Before [] (numbered job).requests w
    unfolding numbered
    behind-fifty w ready =
        record {
          is_behind = behind50 w is_defined ready;
          places = λ i. let None-more : i ≡ 0 + i = omega arith in ap (get_elem? job.requests) None-more;
          number = omega arith;
        }

    -- ---- the build record

    module _ (w : Ready) (b : AllAnswered job d w) where
      abbrev nodes : List Node
      nodes = w.resolved.nodes

      abbrev indexes : List (ℕ × ℕ)
      indexes = raws_at (numbered job) d w

      -- the record of a node
      abbrev node_place : ℕ → ℕ
      node_place k = record_of (table_records (numbered job).definitions) w.resolved.marks k

      -- at a node, and at the build record
      abbrev AtNode : ℕ → ℕ → Type 0
      AtNode code k = Later code (node_place k)

      abbrev Y : ℕ → Type 0
      Y code = Later code (build_place job)

      all_kept : Kept bytes job are formed d b.0 w
      all_kept = kept bytes job are formed d b.2

      fourteen : {code : ℕ} → code ≡ no_slot false → code ≡ 14
      unfolding no_slot
      fourteen is = is

      -- a node is told at its record
      node_told : (k : ℕ) → k < length nodes → ToldAt job w k (node_place k)
      node_told k low =
          let (e, mark) = all_kept.going.faithful.from_entry k low in
          (e, mark, lowest_there bytes job are formed d is_defined w (all_reaches bytes job are formed d b) e k mark)

      -- and so is a child
      child_told : (k m : ℕ) → Among (65536 + m) (kids_of nodes k) → ToldAt job w m (node_place m)
      unfolding kids_of
      child_told k m a = go (get_elem? nodes k) refl
        where
          go : (o : Option Node) → get_elem? nodes k ≡ o → ToldAt job w m (node_place m)
          go none at = among-nil (65536 + m) (rw (at, kids_of) at a)
          go (some nd) at =
              let inside = kids_in_lem table fine w.resolved all_kept.going.faithful k nd at (65536 + m) (rw (at, kids_of) at a) (omega arith) in
              node_told m (omega (arith, inside))

      child_refused :
          (k c code : ℕ) (p : Pool) → PoolIn nodes w.pool p → Among c (kids_of nodes k) → 65536 ≤ c → allocate nodes false (c - 65536) p ≡ bad code →
          (code ≡ 14) × Lacks job nodes (c - 65536) p
      child_refused m c code p o a high e = (
        fourteen (allocate-refused nodes false (c - 65536) code p e).1,
        pool_lacks job d is_defined nodes p (building_occurs bytes job are formed d b.0 w all_kept o) (c - 65536) code e,
      )

      -- the next child is among the children
      seam_told : (k m : ℕ) (before after : List ℕ) → kids_of nodes k ≡ before ++ (65536 + m) ∷ after → ToldAt job w m (node_place m)
      seam_told k m before after is = child_told k m (length before, ap (λ l. get_elem? l (length before)) is ∙ found_seam before (65536 + m) after)

      number-told : (n : NextNumber nodes indexes w.pool) → ToldAt job w n.node (node_place n.node)
      number-told n = seam_told n.owner n.node n.before n.after (kids_found nodes n.owner n.parent n.is_parent ∙ n.is_kids)

      -- a kind that a version lacks is a node's
      owner_told : (v m : ℕ) → known v (tag_at nodes m) ≡ false → ToldAt job w m (node_place m)
      unfolding tag_at known since lookup
      owner_told v m t = go (get_elem? nodes m) refl
        where
          every-has : known v 0 ≡ true
          every-has = refl

          go : (o : Option Node) → get_elem? nodes m ≡ o → ToldAt job w m (node_place m)
          go none at =
              let none-there : tag_at nodes m ≡ 0 = rw (at, tag_at) refl in
              true≢false (sym every-has ∙ ap (known v) (sym none-there) ∙ t)
          go (some nd) at = node_told m (found_inside nodes m nd at)

      row_refused :
          (n : NextNumber nodes indexes w.pool) (row : Row) (p : Pool) (code : ℕ) →
          tag_at nodes n.node ≡ 0x40 →
          slots_of nodes (kids_of nodes n.node) n.pool ≡ good (row, p) →
          RowsIn nodes indexes w.pool n.rows →
          RowOf nodes w.pool row →
          row_index row n.rows ≡ bad code →
          AtNode code n.node
      row_refused n row p code tag slots q is e =
          let rows = n.rows in
          let o = index_occurs (top_of job) (numbered job) row rows (record { defined = d; state = w; reached = all_reaches bytes job are formed d b; rows_in = q; row_of = is }) in
          let number = row_index-refused row code rows e in
          let why = (exactly_seventeen rows row o).0 (subst (λ c. row_index row rows ≡ bad c) number e) in
          inr
          (inr
          (subst (λ code. SlotCause job code (node_place n.node)) (sym number)
          (no_index_lem d w b n row p tag slots why.0 (λ i l. used_raw job d is_defined nodes size w.resolved.marks w.pool q i (why.1 i (omega (arith, l)))) (node_place n.node) (number-told n))))

      name_cause :
          (wanted : Bool) (m : Made) →
          build_all nodes indexes w.pool ≡ good m →
          name_wanted (numbered job).build.name_byte (length (rows_in m)) ≡ wanted →
          Ends Y Anything (name_slot wanted nodes m)
      unfolding name_slot numbered
      name_cause false m made is = well tt
      name_cause true m made wanted-name =
          let text = position (same_node attribute_text) nodes in
          let o = name_occurs bytes job are formed d b.0 w all_kept indexes m made in
          next {P = Anything} _
          (ended (allocate (intern attribute_text nodes) false text m.pool) (λ r e. tt) λ code e.
          let is = fourteen (allocate-refused (intern attribute_text nodes) false text code m.pool e).1 in
          inr
          (inr
          (subst (λ code. SlotCause job code (build_place job)) (sym is)
          (name_lacks d w m b made wanted-name (pool_lacks job d is_defined (intern attribute_text nodes) m.pool o text code e))))) λ r _.
          well tt

      -- CAUSE at the build record
      cause_of_build :
          (place : ℕ) → build_place job ≡ place → (answers : List ℕ) →
          Ends (λ e. Later e.code e.place) Anything
          (build_layout (top_of job) (table_records (numbered job).definitions) place indexes (numbered job).build answers w)
      unfolding build_layout
      cause_of_build place is answers =
          next _
          (at_nodes_lem Later (table_records (numbered job).definitions) w.resolved.marks
          (known-good (build_all nodes indexes w.pool)
          (cause_in_building nodes indexes w.pool AtNode (Lacks job nodes) (λ _. inl refl) child_refused
          (λ r c l. inr (inr (raw_lacks d w b r c l (node_place c.node) (seam_told r.node c.node c.before c.after c.is_kids))))
          (λ n tag l. inr (inr (child_lacks d w b n tag l (node_place n.node) (number-told n))))
          (λ n tag c l. inr (inr (bootstrap_lacks d w b n tag c l (node_place c.node) (seam_told n.node c.node c.before c.after c.is_kids))))
          row_refused
          (λ slot owner pending m st o t.
          inr
          (inr
          (too_new d w b slot owner pending m st (subst (λ v. known v (tag_at nodes owner) ≡ false) (building_version job d b.2 o) t) (node_place owner) (owner_told m.pool.version owner t))))))) λ m k.
          next _
          (at_place Later place
          (subst (λ p. Ends (λ code. Later code p) Anything (name_slot (name_wanted (numbered job).build.name_byte (length (rows_in m))) nodes m)) is
          (name_cause (name_wanted (numbered job).build.name_byte (length (rows_in m))) m k.1 refl))) λ s _. well tt

  -- ---- the layout

  same_ended : length (numbered job).definitions ≡ length job.definitions
  unfolding numbered
  same_ended = length-map job.definitions (numbered_definition (literals job))

  same-requests : length (numbered job).requests ≡ length job.requests
  unfolding numbered
  same-requests = refl

  abbrev pub InTurn : ℕ → ℕ → Type 0
  InTurn code place = DefinitionCause job code place ⊎ Later code place

  -- CAUSE of a job that is formed: what its records in turn are refused for, or 0 for want of fuel
  pub cause_of_records : Ends (λ e. InTurn e.code e.place) Anything (layout (top_of job) (numbered job))
  unfolding layout
  cause_of_records =
      next _
      (weaker (λ e h. inl h) (λ a k. k)
      (known-good (define_all (top_of job) (constants_in (numbered job)) 0 (numbered job).definitions nothing_defined) (cause_of_definitions job (form-formed bytes job are formed)))) λ d defined.
      next _
      (weaker (λ e h. inr h) (λ a k. k)
      (at_place Later (length (numbered job).definitions)
      (subst (λ p. Ends (λ code. Later code p) (λ w. Unit {0} × (end_definitions (top_of job) (table_in (numbered job) d) size d ≡ good w)) (end_definitions (top_of job) (table_in (numbered job) d) size d)) (sym same_ended)
      (known-good (end_definitions (top_of job) (table_in (numbered job) d) size d) (cause_of_fifty d defined.1))))) λ w ready.
      next _
      (weaker (λ e h. inr h) (λ a k. k)
      (subst (λ p. Ends (λ e. Later e.code e.place) (λ r. AllAnswered job d r.1) (answer_all d.names size p (numbered job).requests w)) first_place_lem
      (all_answered d defined.1 [] (numbered job).requests w (behind-fifty d defined.1 w ready.1)))) λ r b.
      weaker (λ e h. inr h) (λ a k. k) (cause_of_build d defined.1 r.1 b _ last-place r.0)
    where
      first_place_lem : suc (length job.definitions) + 0 ≡ suc (length (numbered job).definitions)
      first_place_lem = omega (arith, same_ended)

      last-place : build_place job ≡ suc (length (numbered job).definitions) + length (numbered job).requests
      last-place = omega (arith, same_ended, same-requests)
