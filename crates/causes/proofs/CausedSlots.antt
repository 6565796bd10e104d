-- A job that is laid out has no cause of 12 to 17 or of 24: each record behind the definitions got what it asked for. Assumes nothing.
use mathlib.Core.Bool.{Bool, true, false, ◌||◌, not}
use mathlib.Core.List.{List, []}
use mathlib.Core.Logic.{◌⊎◌, inl, inr, ◌≢◌}
use mathlib.Core.Option.{none, some}
use mathlib.Core.Path.{◌≡◌, refl, sym, ap, subst, ◌∙◌}
use Prim.Native.Nat.{ℕ, suc, ◌+◌, ◌-◌, ◌≤◌, ◌<◌}
use native.Mathlib.Omega.{arith}
use lib.Dec.{leb}
use lib.ListN.{length, drop, get_elem?}
use borrow.Author.Tests.{leb-true}
use Rattle.definition.specs.Basics.{good, at_record, unless, position}
use Rattle.definition.specs.Shapes.{bootstrap_tag}
use Rattle.definition.specs.Job.{Request, Job}
use Rattle.definition.specs.Form.{form}
use Rattle.definition.specs.Numbering.{top_of, numbered}
use Rattle.definition.specs.Settings.{known}
use Rattle.definition.specs.Definitions.{Defined, tag_at}
use Rattle.definition.specs.Resolving.{Goal, raw_number, table_entry, Node, done, Resolved, same_node, intern, child_of, resolve}
use Rattle.definition.specs.Slots.{highest_ldc}
use Rattle.definition.specs.Building.{Pool, allocate, slot_of, slots_of, Row, Rows, index_of, row_index, Made, kids_of, build_all, attribute_text, name_wanted, name_slot}
use Rattle.definition.specs.Layout.{Ready, end_definitions, answer, answer_all, Layout, layout}
use Rattle.facts.proofs.Lists.{true≢false, clash, drop-place}
use Rattle.facts.proofs.Results.{bad≢good, good_inj, good_then, at_record-good, unless-good}
use Rattle.laws.specs.Faithful.{Settled}
use Rattle.laws.specs.Statements.{IsBytes}
use Rattle.causes.specs.CauseStatement.{Wide, Behind, behind50, behind_request, AsksFor, HasSlot, HasNoSlot, Free, NoSlot, AllAnswered, NextRaw, NextChild, NextNumber, RawIndex, raw_indexes, goal_in, SlotCause, no_slot_asked, no_ldc_slot_asked, raw_above_lem, slot_above, pair_above, raw_lacks, child_lacks, bootstrap_lacks, name_lacks, no_index_lem, too_new, Lacks}
use Rattle.laws.proofs.Resolving.ResolvedNodes.{ConstantGoal, child_done}
use Rattle.laws.proofs.Resolving.JobGoals.{job_constants, job_table}
use Rattle.laws.proofs.Building.LayoutStages.{table_in, rows_in, Stages, stages}
use Rattle.laws.proofs.Building.ExactlySeventeen.{exactly_seventeen}
use Rattle.laws.proofs.Runs.StepsOfRuns.{PoolIn, RowsIn}
use Rattle.laws.proofs.Runs.IndexOccurs.{index_occurs}
use Rattle.causes.proofs.CauseBuilding.{slot_of-good}
use Rattle.causes.proofs.CauseForm.{snoc_length}
use Rattle.causes.proofs.CauseNoSlot.{lacks_pool}
use Rattle.causes.proofs.UsedIndexes.{raw_used}
use Rattle.causes.proofs.SlotsSoFar.{drop_all, leads_goes, Kept, kept, all_reaches, Onward, onward, lacks_asked, GetsPair, slot_kept, pair_lowest, building_occurs, name_occurs}
use Rattle.causes.proofs.CauseVersion.{building_version}
use Rattle.causes.proofs.CausedBuilding.{stack_pool, known-got, number-got, raw_got, child_got, node_good, node_got}

-- an answer that came: what was resolved, the slot, and that ldc can name it
answered :
    (ldc : Bool) (g : Goal) (w : Ready) (r : ℕ × Ready) →
    answer ldc g w ≡ good r →
    (s : Resolved) × (resolve w.table g w.resolved ≡ good s)
    × ((a : ℕ × Pool) × (slot_of s.nodes ldc (child_of s.marks g) w.pool ≡ good a) × ((not ldc || leb a.0 highest_ldc) ≡ true))
unfolding answer
answered ldc g w r e =
    good_then (resolve w.table g w.resolved) _ r e λ s h e₁.
    good_then (slot_of s.nodes ldc (child_of s.marks g) w.pool) _ r e₁ λ a k e₂.
    good_then (unless (not ldc || leb a.0 highest_ldc) 16) _ r e₂ λ u t e₃.
    (s, h, (a, k, unless-good (not ldc || leb a.0 highest_ldc) 16 u t))

low-answer : (ldc : Bool) (a : ℕ) → ldc ≡ true → (not ldc || leb a highest_ldc) ≡ true → a ≤ 255
low-answer true a is t = leb-true a highest_ldc t
low-answer false a is t = clash (cc)

module _ (bytes : List ℕ) (job : Job (List ℕ)) (are : IsBytes bytes) (formed : form bytes ≡ good job) (l : Layout) (laid : layout (top_of job) (numbered job) ≡ good l) where
  abbrev stg : Stages (top_of job) (numbered job) l
  stg = stages (top_of job) (numbered job) l laid

  abbrev size : ℕ
  size = job_constants (numbered job)

  abbrev left : ℕ → List Request
  left j = drop j job.requests

  -- what the statement has behind these answers is what the run has there
  record Gone (d : Defined) (answers : List ℕ) (w : Ready) : Type 0 where
    same_defined : stg.defined ≡ d
    place : ℕ
    more : List ℕ
    rest : answer_all d.names size place (left (length answers)) w ≡ good (more, stg.asked)

  -- the answer of the request in turn
  record Answers (d : Defined) (answers : List ℕ) (w : Ready) (q : Request) : Type 0 where
    answer-is : ℕ × Ready
    answer-came : answer q.ldc (goal_in job d q) w ≡ good answer-is
    place : ℕ
    more : List ℕ
    rest : answer_all d.names size place (left (suc (length answers))) answer-is.1 ≡ good (more, stg.asked)

  gone_answers : (d : Defined) (answers : List ℕ) (w : Ready) (q : Request) → Gone d answers w → get_elem? job.requests (length answers) ≡ some q → Answers d answers w q
  unfolding answer_all
  gone_answers d answers w q g at =
      let now = drop-place job.requests (length answers) q at in
      let e = subst (λ l. answer_all d.names size g.place l w ≡ good (g.more, stg.asked)) now g.rest in
      good_then (at_record g.place (answer q.ldc (goal_in job d q) w)) _ (g.more, stg.asked) e λ r h e₁.
      good_then (answer_all d.names size (suc g.place) (left (suc (length answers))) r.1) _ (g.more, stg.asked) e₁ λ more k e₂.
      let ends : more.1 ≡ stg.asked = ap (λ (x : List ℕ × Ready). x.1) (good_inj e₂) in
      record {
        answer-is = r;
        answer-came = at_record-good g.place (answer q.ldc (goal_in job d q) w) r h;
        place = suc g.place;
        more = more.0;
        rest = k ∙ ap (λ w. good (more.0, w)) ends;
      }

  gone : {d : Defined} {answers : List ℕ} {w : Ready} → Behind job d answers w → Gone d answers w
  unfolding numbered
  gone {d} (behind50 w defined ready) =
      let one : stg.defined ≡ d = good_inj (sym stg.is_defined ∙ defined) in
      let two : stg.ready ≡ w = good_inj (sym (subst (λ (d : Defined). end_definitions (top_of job) (table_in (numbered job) d) size d ≡ good stg.ready) one stg.is_ready) ∙ ready) in
      record {
        same_defined = one;
        place = suc (length (numbered job).definitions);
        more = stg.answers;
        rest =
            subst (λ w. answer_all d.names size (suc (length (numbered job).definitions)) job.requests w ≡ good (stg.answers, stg.asked)) two
            (subst (λ (d : Defined). answer_all d.names size (suc (length (numbered job).definitions)) job.requests stg.ready ≡ good (stg.answers, stg.asked)) one stg.is_asked);
      }
  gone {d} (behind_request answers q w w' a b at e) =
      let g = gone b in
      let h = gone_answers d answers w q g at in
      let one : h.answer-is ≡ (a, w') = good_inj (sym h.answer-came ∙ e) in
      record {
        same_defined = g.same_defined;
        place = h.place;
        more = h.more;
        rest =
            subst (λ n. answer_all d.names size h.place (left n) w' ≡ good (h.more, stg.asked)) (sym (snoc_length answers a))
            (subst (λ (x : ℕ × Ready). answer_all d.names size h.place (left (suc (length answers))) x.1 ≡ good (h.more, stg.asked)) one h.rest);
      }

  -- ---- requests

  -- a request that leads to a goal got its answer: the goal was resolved, and the answer is the slot of what it became
  record Came (answers : List ℕ) (d : Defined) (w : Ready) (ldc : Bool) (goal : Goal) : Type 0 where
    state : Kept bytes job are formed d answers w
    resolved : Resolved
    on : Onward bytes job are formed d w resolved
    settled : Settled resolved.marks goal
    constant_goal : ConstantGoal (job_table (numbered job)) goal
    slot : ℕ × Pool
    is_slot : slot_of resolved.nodes ldc (child_of resolved.marks goal) w.pool ≡ good slot
    is_low : ldc ≡ true → slot.0 ≤ 255

  came : (answers : List ℕ) (d : Defined) (w : Ready) (ldc : Bool) (goal : Goal) → Behind job d answers w → AsksFor job (length answers) ldc goal → Came answers d w ldc goal
  came answers d w ldc goal b (q, at, is, leads, _) =
      let k = kept bytes job are formed d b in
      let h = gone_answers d answers w q (gone b) at in
      let (s, resolved, (x, slotted, low)) = answered q.ldc (goal_in job d q) w h.answer-is h.answer-came in
      let (on, same, settled, constant) = onward bytes job are formed d answers w k q s at resolved in
      let to : goal_in job d q ≡ goal = sym same ∙ leads_goes bytes job are formed d k.is_defined q.what goal leads in
      record {
        state = k;
        resolved = s;
        on = on;
        settled = subst (Settled s.marks) to settled;
        constant_goal = subst (ConstantGoal (job_table (numbered job))) to constant;
        slot = x;
        is_slot =
            subst (λ b. slot_of s.nodes b (child_of s.marks goal) w.pool ≡ good x) is
            (subst (λ g. slot_of s.nodes q.ldc (child_of s.marks g) w.pool ≡ good x) to slotted);
        is_low = λ t. low-answer q.ldc x.0 (is ∙ t) low;
      }

  raw_refuted : (answers : List ℕ) (n : ℕ) (d : Defined) (w : Ready) → Came answers d w true (raw_number n) → 255 < n → ⊥
  unfolding child_of
  raw_refuted answers n d w c high = go (slot_of-good c.resolved.nodes true n w.pool c.slot c.is_slot)
    where
      go : ((n < 65536) × (c.slot.0 ≡ n)) ⊎ ((65536 ≤ n) × (allocate c.resolved.nodes true (n - 65536) w.pool ≡ good c.slot)) → ⊥
      go (inl (_, is)) = omega (arith, c.is_low refl, is, high)
      go (inr (big, _)) = omega (arith, c.constant_goal, big)

  -- a constant that is asked for became node n, which got the slot
  module _ (answers : List ℕ) (e : ℕ) (d : Defined) (w : Ready) (ldc : Bool) (c : Came answers d w ldc (table_entry e)) where
    abbrev n : ℕ
    n = c.settled.0

    mark : get_elem? c.resolved.marks e ≡ some (done n)
    mark = c.settled.1

    got : allocate c.resolved.nodes ldc n w.pool ≡ good c.slot
    got = go (slot_of-good c.resolved.nodes ldc child w.pool c.slot c.is_slot)
      where
        child : ℕ
        child = child_of c.resolved.marks (table_entry e)

        is : child ≡ 65536 + n
        is = child_done c.resolved.marks e n mark

        go : ((child < 65536) × (c.slot.0 ≡ child)) ⊎ ((65536 ≤ child) × (allocate c.resolved.nodes ldc (child - 65536) w.pool ≡ good c.slot)) → allocate c.resolved.nodes ldc n w.pool ≡ good c.slot
        go (inl (low, _)) = absurd (omega (arith, low, is))
        go (inr (_, f)) =
            let same : child - 65536 ≡ n = omega (arith, is) in
            subst (λ n. allocate c.resolved.nodes ldc n w.pool ≡ good c.slot) same f

    lacks_refuted : HasNoSlot job answers e → NoSlot (Wide job e) (Free job answers) ldc → ⊥
    lacks_refuted none-had none_free =
        bad≢good (sym (lacks_asked bytes job are formed d answers w c.state c.resolved c.on e n mark ldc none-had none_free) ∙ got)

    above_refuted : (s : ℕ) → ldc ≡ true → HasSlot job answers e s → 255 < s → ⊥
    above_refuted s is has high =
        let same = slot_kept bytes job are formed d answers w c.state c.resolved c.on e n mark ldc s c.slot.0 c.slot.1 has got in
        omega (arith, same, c.is_low is, high)

    pair_refuted : (s : ℕ) → ldc ≡ true → GetsPair bytes job are formed d answers w c.state c.resolved c.on e n mark s → 255 < s → ⊥
    pair_refuted s is pair high =
        let lowest = pair_lowest bytes job are formed d answers w c.state c.resolved c.on e n mark ldc s c.slot.0 c.slot.1 pair got in
        omega (arith, lowest, c.is_low is, high)

  -- ---- the build record

  module _ (d : Defined) (w : Ready) (b : AllAnswered job d w) where
    abbrev made_nodes : List Node
    made_nodes = w.resolved.nodes

    abbrev indexes : List (ℕ × ℕ)
    indexes = raw_indexes job d w

    k₀ : Kept bytes job are formed d b.0 w
    k₀ = kept bytes job are formed d b.2

    asked_is : stg.asked ≡ w
    unfolding answer_all
    asked_is =
        let g = gone b.2 in
        let none_left : left (length b.0) ≡ [] = ap (λ n. drop n job.requests) b.1 ∙ drop_all job.requests in
        let e = subst (λ l. answer_all d.names size g.place l w ≡ good (g.more, stg.asked)) none_left g.rest in
        sym (ap (λ (x : List ℕ × Ready). x.1) (good_inj e))

    built : build_all made_nodes indexes w.pool ≡ good stg.made
    built =
        subst (λ (w : Ready). build_all w.resolved.nodes (raw_indexes job d w) w.pool ≡ good stg.made) asked_is
        (subst (λ (d : Defined). build_all stg.asked.resolved.nodes (raw_indexes job d stg.asked) stg.asked.pool ≡ good stg.made) (gone b.2).same_defined stg.is_made)

    -- a child that lacks a slot gets none
    node_refuted :
        (c : ℕ) (p : Pool) (r : ℕ × Pool) →
        PoolIn made_nodes w.pool p →
        allocate made_nodes false c p ≡ good r →
        Lacks job made_nodes c p →
        ⊥
    node_refuted c p r o e h =
        bad≢good (sym (lacks_pool job d k₀.is_defined made_nodes p (building_occurs bytes job are formed d b.0 w k₀ o) c h) ∙ e)

    child_refuted :
        (k : ℕ) (p : Pool) (z : List ℕ × Pool) →
        PoolIn made_nodes w.pool p →
        slots_of made_nodes (kids_of made_nodes k) p ≡ good z →
        (c : NextChild made_nodes (kids_of made_nodes k) p) →
        Lacks job made_nodes c.node c.pool →
        ⊥
    child_refuted k p z o e c h =
        let (o₁, (r, f)) = child_got made_nodes indexes w.pool k p z o e c in
        node_refuted c.node c.pool r o₁ f h

    raw_lacks_refuted :
        (r : NextRaw made_nodes indexes w.pool) (c : NextChild made_nodes (kids_of made_nodes r.node) r.pool) → Lacks job made_nodes c.node c.pool → ⊥
    raw_lacks_refuted r c h =
        let (o, (row, e)) = raw_got made_nodes indexes w.pool stg.made built r in
        child_refuted r.node r.pool row o e c h

    -- a node from the stack
    module _ (n : NextNumber made_nodes indexes w.pool) where
      abbrev Got : ℕ × Pool × Rows → Type 0
      Got y =
          ((tag_at made_nodes n.node ≡ bootstrap_tag)
          × ((r : List ℕ × Pool) × (slots_of made_nodes (kids_of made_nodes n.node) n.pool ≡ good r) × ((i : ℕ × Rows) × (row_index r.0 n.rows ≡ good i) × ((i.0, r.1, i.1) ≡ y))))
          ⊎ ((tag_at made_nodes n.node ≢ bootstrap_tag) × ((r : ℕ × Pool) × (allocate made_nodes false n.node n.pool ≡ good r) × ((r.0, r.1, n.rows) ≡ y)))

      number-came : PoolIn made_nodes w.pool n.pool × RowsIn made_nodes indexes w.pool n.rows × ((y : ℕ × Pool × Rows) × Got y)
      number-came =
          let (o, q, (y, e)) = number-got made_nodes indexes w.pool stg.made built n in
          (o, q, (y, node_good made_nodes indexes w.pool n.node n.pool n.rows y (node_got made_nodes indexes w.pool n.node n.pool n.rows y e)))

      constant_refuted : tag_at made_nodes n.node ≢ 0x40 → Lacks job made_nodes n.node n.pool → ⊥
      constant_refuted tag h = let (o, q, (y, g)) = number-came in go o y g
        where
          go : PoolIn made_nodes w.pool n.pool → (y : ℕ × Pool × Rows) → Got y → ⊥
          go o y (inl (t, _)) = tag t
          go o y (inr (t, (r, e, _))) = node_refuted n.node n.pool r o e h

      bootstrap_refuted :
          tag_at made_nodes n.node ≡ 0x40 → (c : NextChild made_nodes (kids_of made_nodes n.node) n.pool) → Lacks job made_nodes c.node c.pool → ⊥
      bootstrap_refuted tag c h = let (o, q, (y, g)) = number-came in go o y g
        where
          go : PoolIn made_nodes w.pool n.pool → (y : ℕ × Pool × Rows) → Got y → ⊥
          go o y (inl (t, (r, e, _))) = child_refuted n.node n.pool r o e c h
          go o y (inr (t, _)) = t tag

      index-refuted :
          (row : Row) (p : Pool) →
          tag_at made_nodes n.node ≡ 0x40 →
          slots_of made_nodes (kids_of made_nodes n.node) n.pool ≡ good (row, p) →
          index_of row n.rows.inline ≡ none →
          ((i : ℕ) → i < 65535 → (i < length n.rows.written) ⊎ RawIndex job i) →
          ⊥
      index-refuted row p tag slots unshared used = let (o, q, (y, g)) = number-came in go o q y g
        where
          go : PoolIn made_nodes w.pool n.pool → RowsIn made_nodes indexes w.pool n.rows → (y : ℕ × Pool × Rows) → Got y → ⊥
          go o q y (inl (t, (r, e, (i, f, _)))) =
              let one : r ≡ (row, p) = good_inj (sym e ∙ slots) in
              let given : row_index row n.rows ≡ good i = subst (λ (x : List ℕ × Pool). row_index x.0 n.rows ≡ good i) one f in
              let occurs-there =
              index_occurs (top_of job) (numbered job) row n.rows
              (record {
                defined = d;
                state = w;
                reached = all_reaches bytes job are formed d b;
                rows_in = q;
                row_of = record { node = n.node; tag = tag; before = n.pool; after = p; pools = o; slots = slots };
              }) in
              bad≢good (sym ((exactly_seventeen n.rows row occurs-there).1 (unshared, λ i l. raw_used job d k₀.is_defined made_nodes size w.resolved.marks w.pool q i (used i l))) ∙ given)
          go o q y (inr (t, _)) = t tag

    name_refuted :
        (m : Made) →
        build_all made_nodes indexes w.pool ≡ good m →
        name_wanted job.build.name_byte (length (rows_in m)) ≡ true →
        Lacks job (intern attribute_text made_nodes) (position (same_node attribute_text) made_nodes) m.pool →
        ⊥
    unfolding name_slot numbered
    name_refuted m made wanted h =
        let one : stg.made ≡ m = good_inj (sym built ∙ made) in
        let named : name_slot (name_wanted job.build.name_byte (length (rows_in m))) made_nodes m ≡ good stg.named =
        subst (λ (m : Made). name_slot (name_wanted job.build.name_byte (length (rows_in m))) made_nodes m ≡ good stg.named) one
        (subst (λ (w : Ready). name_slot (name_wanted job.build.name_byte (length (rows_in stg.made))) w.resolved.nodes stg.made ≡ good stg.named) asked_is stg.is_named) in
        let asked : name_slot true made_nodes m ≡ good stg.named = subst (λ t. name_slot t made_nodes m ≡ good stg.named) wanted named in
        let o = name_occurs bytes job are formed d b.0 w k₀ indexes m made in
        good_then (allocate (intern attribute_text made_nodes) false (position (same_node attribute_text) made_nodes) m.pool) _ stg.named asked λ r e _.
        bad≢good (sym (lacks_pool job d k₀.is_defined (intern attribute_text made_nodes) m.pool o (position (same_node attribute_text) made_nodes) h) ∙ e)

  -- a job that is laid out has no cause of 14 to 17, or of 24
  pub slot_refuted : {code place : ℕ} → SlotCause job code place → ⊥
  slot_refuted (no_slot_asked answers e (d, w, b) a none-had none_free) = lacks_refuted answers e d w false (came answers d w false (table_entry e) b a) none-had none_free
  slot_refuted (no_ldc_slot_asked answers e (d, w, b) a none-had none_free) = lacks_refuted answers e d w true (came answers d w true (table_entry e) b a) none-had none_free
  slot_refuted (raw_above_lem answers n (d, w, b) a high) = raw_refuted answers n d w (came answers d w true (raw_number n) b a) high
  slot_refuted (slot_above answers e s (d, w, b) a has high) = above_refuted answers e d w true (came answers d w true (table_entry e) b a) s refl has high
  slot_refuted (pair_above answers e s (d, w, b) a none-had wide high one two lowest) =
      pair_refuted answers e d w true (came answers d w true (table_entry e) b a) s refl (none-had, wide, one, two, lowest) high
  slot_refuted (raw_lacks d w b r c h _ _) = raw_lacks_refuted d w b r c h
  slot_refuted (child_lacks d w b n tag h _ _) = constant_refuted d w b n tag h
  slot_refuted (bootstrap_lacks d w b n tag c h _ _) = bootstrap_refuted d w b n tag c h
  slot_refuted (name_lacks d w m b made wanted h) = name_refuted d w b m made wanted h
  slot_refuted (no_index_lem d w b n row p tag slots unshared used _ _) = index-refuted d w b n row p tag slots unshared (λ i l. used i (omega (arith, l)))
  slot_refuted (too_new d w b slot owner pending m st t _ _) =
      let nodes = w.resolved.nodes in
      let passed = known-got nodes (raw_indexes job d w) w.pool stg.made (built d w b) slot owner pending m st in
      let same = building_version job d b.2 (stack_pool nodes (raw_indexes job d w) w.pool st).0 in
      true≢false (sym passed ∙ ap (λ v. known v (tag_at nodes owner)) same ∙ t)
