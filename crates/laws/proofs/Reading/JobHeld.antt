-- What the finished pool of a built job shows: its answers, raw definitions, class name and name slot, one by one. Assumes nothing.
use mathlib.Core.Bool.{Bool, true, false}
use mathlib.Core.List.{List, [], map}
use mathlib.Core.Logic.{◌⊎◌, inl, inr}
use mathlib.Core.Option.{Option, none, some}
use mathlib.Core.Path.{◌≡◌, refl, sym, ap, subst, ◌∙◌}
use Prim.Native.Nat.{ℕ, zero, suc, ◌+◌, ◌≤◌, ◌<◌}
use native.Mathlib.Omega.{arith}
use lib.Dec.{eqb}
use lib.ListN.{length, get_or, get_elem?, length-map, get_or-eq_default}
use borrow.Author.Tests.{lt-ltb, le-ltb}
use Rattle.definition.specs.Basics.{good, lookup}
use Rattle.definition.specs.Shapes.{Kind, bootstrap_tag, is_wide, Entry, with_literal, constant, bootstrap}
use Rattle.definition.specs.Job.{entry, placed, Job}
use Rattle.definition.specs.Form.{form}
use Rattle.definition.specs.Numbering.{top_of, Literal, attribute_name, literals, literal_of, numbered}
use Rattle.definition.specs.Definitions.{starts, tag_at}
use Rattle.definition.specs.Resolving.{Goal, raw_number, table_entry, refusal, place_of, follow, goal_of, done, child_of}
use Rattle.definition.specs.Building.{Row, kids_of, attribute_text, name_wanted, Content, nothing, empty_text, holds, behind, content_of, text_in, class_name}
use Rattle.definition.specs.Layout.{starters, node_at_lem, class_slot_of, Layout, layout_of, index_nodes, layout}
use Rattle.definition.specs.Run.{shown, class_bytes, render}
use Rattle.facts.specs.Lists.{Among}
use Rattle.facts.proofs.Lists.{true≢false, some_inj, order, found_inside, found_read, read_found, among-right, among-forth, map_at}
use Rattle.facts.proofs.Tables.{rising_lookup}
use Rattle.facts.proofs.Each.{each_at, Both}
use Rattle.facts.proofs.Results.{decided}
use Rattle.laws.specs.Statements.{IsBytes, Finished, slot_shows, Shows, text_of, text_at_lem, class_of, HeldBy}
use Rattle.laws.proofs.Definitions.DefinedAsPlaced.{placed-forth, starters-start, start_starters}
use Rattle.laws.proofs.Resolving.JobGoals.{job_constants}
use Rattle.laws.specs.Faithful.{Settled}
use Rattle.laws.proofs.Form.FormedJobs.{form-formed}
use Rattle.laws.proofs.Resolving.LeadsAsFollowed.{entry_leads, settled-leads}
use Rattle.laws.proofs.Resolving.NodesAndChildren.{tag-append, kids_append}
use Rattle.laws.proofs.Resolving.ResolvedNodes.{ConstantGoal}
use Rattle.laws.proofs.Resolving.JobTableGood.{asks-good, numbered-cited, definitions_low_lem, requests_low_lem}
use Rattle.laws.proofs.Slots.SlotsToHold.{count_range, wide_in_lem}
use Rattle.laws.proofs.Building.ChildNumbers.{SlotFor, SlotsKept, slots_twice, slot_kept, slots_kept}
use Rattle.laws.proofs.Building.SlotsAndRowsBuilt.{slots_stay, raw_rows_there}
use Rattle.laws.proofs.Building.AfterRequests.{Answered, answers_many, answers_low}
use Rattle.laws.proofs.Building.BuiltJob.{table, facts, rising, asked, nodes, marks, node_at, raw_node_lem, index-node, indexes, indexes_are, starts-here, rows}
use Rattle.laws.proofs.Reading.PoolContents.{content_holds, content_behind}
use Rattle.laws.proofs.Reading.BuiltPoolReadBack.{stg, end, all_nodes, raw, pool, owned, soundly, raw_keys, raw_wide, count, starts-at, index-rises, owner_tag}
use Rattle.laws.proofs.Reading.IndexesHeld.{index-held}
use Rattle.laws.proofs.Reading.SlotsShow.{leads_to, finished, is_of, same-goal, pool_length, slot-shown, slot_shows_lem, all_show}

starts-inj : {a b : ℕ} → starts a ≡ starts b → a ≡ b
starts-inj e = cc

-- the text that a content is, as the reader shows it
text_of_lem : (all : List Literal) (c : Content) → class_bytes all (text_in c) ≡ text_of (shown all c)
unfolding text_in text_of shown class_bytes with_literal
text_of_lem all nothing = refl
text_of_lem all empty_text = refl
text_of_lem all (holds e) = go (eqb e.tag 1) refl
  where
    go :
        (b : Bool) →
        eqb e.tag 1 ≡ b →
        class_bytes all (text_in (holds e)) ≡ text_of (shown all (holds e))
    go true t = rw (t, text_in, text_of)
    go false t = rw (t, text_in, text_of)

-- the text at a slot below the count, and past it
text_below : (f : Finished) (n : ℕ) → n < length f.pool → text_at_lem f (suc n) ≡ text_of (get_or f.pool n none)
unfolding text_at_lem
text_below f n h =
    found_read (map text_of f.pool) n (text_of (get_or f.pool n none)) (some [])
    (map_at text_of f.pool n (get_or f.pool n none) (read_found f.pool n none h))

text_past : (f : Finished) (n : ℕ) → length f.pool ≤ n → text_at_lem f (suc n) ≡ some []
unfolding text_at_lem
text_past f n h = get_or-eq_default (map text_of f.pool) (some []) (omega (arith, h, length-map f.pool text_of))

module _ (bytes : List ℕ) (job : Job (List ℕ)) (l : Layout) (are : IsBytes bytes) (formed : form bytes ≡ good job) (laid : layout (top_of job) (numbered job) ≡ good l) where
  abbrev own : List (ℕ × Entry ℕ ℕ)
  own = owned bytes job l are formed laid

  abbrev top : ℕ
  top = count bytes job l are formed laid

  abbrev f : Finished
  f = finished bytes job l are formed laid

  -- nothing is owned at or past the count
  nobody : (n : ℕ) → top ≤ n → (o : Option (Entry ℕ ℕ)) → lookup n own ≡ o → lookup n own ≡ none
  nobody n high none h = h
  nobody n high (some e) h =
      let o = owner_tag bytes job l are formed laid n e h in
      absurd (omega (arith, high, starts-at bytes job l are formed laid n o.0 o.1))

  -- so such a slot counts as the empty text
  behind-past : (n : ℕ) → top ≤ suc n → (o : Option (Entry ℕ ℕ)) → lookup n own ≡ o → behind o ≡ empty_text
  unfolding behind
  behind-past n high none h = refl
  behind-past n high (some e) h =
      decided (is_wide e.tag) nothing empty_text (behind (some e)) refl
      (λ w _.
      let o = owner_tag bytes job l are formed laid n e h in
      absurd
      (omega (
        arith,
        high,
        wide_in_lem (top_of job) (stg bytes job l are formed laid).defined.held (all_nodes bytes job l are formed laid) (pool bytes job l are formed laid) (raw bytes job l are formed laid) (soundly bytes job l are formed laid) (raw_keys bytes job l are formed laid) (raw_wide bytes job l are formed laid) n o.0 o.1 (ap is_wide o.2 ∙ w),
      )))
      (λ _ e. sym e)

  content_past : (n : ℕ) → top ≤ suc n → content_of own (suc n) ≡ empty_text
  content_past n high = content_behind own n (nobody (suc n) high (lookup (suc n) own) refl) ∙ behind-past n high (lookup n own) refl

  -- the count is at least 1
  some-count : 1 ≤ top
  some-count = (count_range (top_of job) (pool bytes job l are formed laid).slots.gaps (soundly bytes job l are formed laid).apart).0

  -- the text at a slot
  text_at : (u : ℕ) → class_bytes (literals job) (text_in (content_of own u)) ≡ text_at_lem f u
  unfolding content_of text_in text_of class_bytes text_at_lem
  text_at zero = refl
  text_at (suc n) = go (order (suc n) top)
    where
      below : suc n < top → n < length f.pool
      below h = omega (arith, h, pool_length bytes job l are formed laid)

      past : top ≤ suc n → length f.pool ≤ n
      past h = omega (arith, h, pool_length bytes job l are formed laid, some-count)

      go : (suc n < top) ⊎ (top ≤ suc n) → class_bytes (literals job) (text_in (content_of own (suc n))) ≡ text_at_lem f (suc n)
      go (inl h) =
          text_of_lem (literals job) (content_of own (suc n))
          ∙ ap text_of (sym (slot-shown bytes job l are formed laid n h))
          ∙ sym (text_below f n (below h))
      go (inr h) = ap (λ c. class_bytes (literals job) (text_in c)) (content_past n h) ∙ sym (text_past f n (past h))

  -- the class name that a content gives
  class_of_lem : (c : Content) → class_bytes (literals job) (class_name own c) ≡ class_of f (shown (literals job) c)
  unfolding class_name class_bytes class_of shown with_literal
  class_of_lem nothing = refl
  class_of_lem empty_text = refl
  class_of_lem (holds e) = go (eqb e.tag 7) refl
    where
      go : (b : Bool) → eqb e.tag 7 ≡ b → class_bytes (literals job) (class_name own (holds e)) ≡ class_of f (shown (literals job) (holds e))
      go true t = rw (t, class_name, class_of) (text_at (get_or e.kids 0 0))
      go false t = rw (t, class_name, class_of)

  -- the class name at a slot
  class_at_lem : (c : ℕ) → class_bytes (literals job) (class_name own (content_of own c)) ≡ class_of f (slot_shows f c)
  unfolding content_of class_name class_bytes class_of slot_shows
  class_at_lem zero = refl
  class_at_lem (suc n) = go (order (suc n) top)
    where
      go : (suc n < top) ⊎ (top ≤ suc n) → class_bytes (literals job) (class_name own (content_of own (suc n))) ≡ class_of f (slot_shows f (suc n))
      go (inl h) = class_of_lem (content_of own (suc n)) ∙ ap (class_of f) (sym (slot-shown bytes job l are formed laid n h))
      go (inr h) =
          ap (λ c. class_bytes (literals job) (class_name own c)) (content_past n h)
          ∙ ap (class_of f) (sym (get_or-eq_default f.pool none (omega (arith, h, pool_length bytes job l are formed laid, some-count))))

  -- the name's slot shows the name
  name_shows : (n : ℕ) → lookup n own ≡ some attribute_text → text_at_lem f n ≡ some attribute_name
  unfolding shown text_of with_literal attribute_text literal_of literals
  name_shows zero h = absurd (omega (arith, starts-at bytes job l are formed laid 0 (owner_tag bytes job l are formed laid 0 attribute_text h).0 (owner_tag bytes job l are formed laid 0 attribute_text h).1))
  name_shows (suc n) h =
      let o = owner_tag bytes job l are formed laid (suc n) attribute_text h in
      let range = starts-at bytes job l are formed laid (suc n) o.0 o.1 in
      text_below f n (omega (arith, range, pool_length bytes job l are formed laid))
      ∙ ap text_of (slot-shown bytes job l are formed laid n range.2 ∙ ap (shown (literals job)) (content_holds own n attribute_text h))

  -- what has a slot before building has it in the end
  pub stays : SlotsKept (stg bytes job l are formed laid).asked.pool.given (pool bytes job l are formed laid).given
  stays =
      slots_twice
      (record { slot_stays = slots_stay (nodes bytes job l are formed laid) (indexes bytes job l are formed laid) (raw bytes job l are formed laid) (stg bytes job l are formed laid).asked.pool (stg bytes job l are formed laid).made (starts-here bytes job l are formed laid) (stg bytes job l are formed laid).is_made })
      (end bytes job l are formed laid).kept

  -- an answer shows what was asked for
  answer-shows :
      (depth : ℕ) (g : Goal) (a : ℕ) →
      ConstantGoal (table bytes job l are formed laid) g →
      Answered g a (stg bytes job l are formed laid).asked →
      Shows depth f g a
  answer-shows depth g a c h = go g c h.settled (slot_kept stays (child_of (marks bytes job l are formed laid) g) a h.slot)
    where
      go :
          (g : Goal) →
          ConstantGoal (table bytes job l are formed laid) g →
          Settled (marks bytes job l are formed laid) g →
          SlotFor (pool bytes job l are formed laid).given (child_of (marks bytes job l are formed laid) g) a →
          Shows depth f g a
      go (raw_number v) c s slot = slot_shows_lem bytes job l are formed laid depth (all_show bytes job l are formed laid depth).0 (all_show bytes job l are formed laid depth).1 (raw_number v) a (c, s) slot
      go (table_entry e) c s slot = slot_shows_lem bytes job l are formed laid depth (all_show bytes job l are formed laid depth).0 (all_show bytes job l are formed laid depth).1 (table_entry e) a (tt, s) slot
      go (refusal code) c s slot = absurd s

  -- a definition of the job that places something is one of the numbered job
  pub placed-there : (i n e : ℕ) (kind : Kind) → get_elem? job.definitions i ≡ some (placed kind n e) → Among (placed kind n e) (numbered job).definitions
  placed-there = placed-forth job

  -- a raw constant's slot is to hold the node that its entry became
  pub constant_held : (n e : ℕ) → Among (placed constant n e) (numbered job).definitions → (k : ℕ) × (get_elem? (marks bytes job l are formed laid) e ≡ some (done k)) × Among (n, k) (raw bytes job l are formed laid)
  constant_held n e a =
      let facts' = (facts bytes job l are formed laid).all_held in
      let ready = (stg bytes job l are formed laid).ready.resolved.marks in
      let held = (stg bytes job l are formed laid).defined.held in
      let starter = start_starters held n e (facts'.start_held n e a) in
      let k = node_at_lem ready e in
      let there : Among (n, k) (raw bytes job l are formed laid) =
      among-forth (n, k) (map (λ r. (r.0, node_at_lem ready r.1)) (starters held))
      (starter.0, map_at (λ (r : ℕ × ℕ). (r.0, node_at_lem ready r.1)) (starters held) starter.0 (n, e) starter.1) in
      let back = raw_node_lem bytes job l are formed laid n k there in
      let found : (e : ℕ) → Among (n, starts e) held → lookup n held ≡ some (starts e) =
      λ e a. rising_lookup 1 (top_of job) held n (starts e) (rising bytes job l are formed laid).0 a in
      let one = found e (facts'.start_held n e a) in
      let two = found back.0 (starters-start held n back.0 back.1) in
      let same : back.0 ≡ e = starts-inj (some_inj (sym two ∙ one)) in
      (k, subst (λ e'. get_elem? (marks bytes job l are formed laid) e' ≡ some (done k)) same back.2, there)

  raw_shows_there : (depth n e : ℕ) → Among (placed constant n e) (numbered job).definitions → Shows depth f (table_entry e) n
  raw_shows_there depth n e a =
      let h = constant_held n e a in
      (all_show bytes job l are formed laid depth).0 e h.0 n h.1
      (among-right (n, h.0) (map (λ r. (r.1, r.0)) (pool bytes job l are formed laid).given) (raw bytes job l are formed laid) h.2)

  -- a raw bootstrap's row stands at its index, with the slots of its node's children
  pub index_row_lem :
      (n e : ℕ) →
      Among (placed bootstrap n e) (numbered job).definitions →
      (k : ℕ)
      × (get_elem? (marks bytes job l are formed laid) (job_constants (numbered job) + e) ≡ some (done k))
      × (tag_at (all_nodes bytes job l are formed laid) k ≡ bootstrap_tag)
      × (row : Row)
      × (get_elem? (rows bytes job l are formed laid) n ≡ some row)
      × Both (SlotFor (pool bytes job l are formed laid).given) (kids_of (all_nodes bytes job l are formed laid) k) row
  unfolding index_nodes
  index_row_lem n e a =
      let nd = nodes bytes job l are formed laid in
      let more = (end bytes job l are formed laid).more in
      let at = (facts bytes job l are formed laid).all_indexes.index_held n e a in
      let (k, mark) = index-node bytes job l are formed laid n e at in
      let inside = found_inside nd k _ ((asked bytes job l are formed laid).0.faithful.node_of (job_constants (numbered job) + e) k mark).2 in
      let here : Among (n, k) (indexes bytes job l are formed laid) = (
        at.0,
        map_at (λ (r : ℕ × ℕ). (r.0, node_at_lem (marks bytes job l are formed laid) (job_constants (numbered job) + r.1))) (stg bytes job l are formed laid).defined.indexes at.0 (n, e) at.1
            ∙ ap (λ m. some (n, m)) (node_at bytes job l are formed laid (marks bytes job l are formed laid) (job_constants (numbered job) + e) k mark),
      ) in
      let (row, found, slots) =
      raw_rows_there nd (indexes bytes job l are formed laid) (raw bytes job l are formed laid) (stg bytes job l are formed laid).asked.pool (stg bytes job l are formed laid).made (starts-here bytes job l are formed laid) (stg bytes job l are formed laid).is_made (index-rises bytes job l are formed laid) n k here in
      let tag = each_at (λ (x : ℕ × ℕ). tag_at nd x.1 ≡ bootstrap_tag) (indexes bytes job l are formed laid) here.0 (n, k) (indexes_are bytes job l are formed laid) here.1 in (
        k,
        mark,
        tag-append nd more k inside ∙ tag,
        row,
        found,
        subst (λ cs. Both (SlotFor (pool bytes job l are formed laid).given) cs row) (sym (kids_append nd more k inside)) (slots_kept (end bytes job l are formed laid).kept (kids_of nd k) row slots),
      )

  index-shows_there : (depth n e : ℕ) → Among (placed bootstrap n e) (numbered job).definitions → Shows depth f (table_entry (job_constants (numbered job) + e)) n
  index-shows_there depth n e a =
      let (k, mark, tag, row, found, slots) = index_row_lem n e a in
      (all_show bytes job l are formed laid depth).1 (job_constants (numbered job) + e) k n row mark tag found slots

  -- where an entry's reference leads
  pub entry_goal_is : (kind : Kind) (e : ℕ) → is_of bytes job l are formed laid (entry kind e) ≡ table_entry (place_of (job_constants (numbered job)) kind e)
  unfolding goal_of follow
  entry_goal_is kind e = refl

  placed-shows : (depth n e : ℕ) (kind : Kind) → Among (placed kind n e) (numbered job).definitions → Shows depth f (leads_to f (entry kind e)) n
  unfolding place_of
  placed-shows depth n e constant a = subst (λ g. Shows depth f g n) (sym (entry_goal_is constant e) ∙ same-goal bytes job l are formed laid (entry constant e)) (raw_shows_there depth n e a)
  placed-shows depth n e bootstrap a = subst (λ g. Shows depth f g n) (sym (entry_goal_is bootstrap e) ∙ same-goal bytes job l are formed laid (entry bootstrap e)) (index-shows_there depth n e a)

  -- the name has a slot that holds it, or none is wanted
  abbrev Ways : Type 0
  Ways =
      ((name_wanted (numbered job).build.name_byte (length (rows bytes job l are formed laid)) ≡ false) × ((stg bytes job l are formed laid).named.0 ≡ 0))
      ⊎ ((name_wanted (numbered job).build.name_byte (length (rows bytes job l are formed laid)) ≡ true) × (lookup (stg bytes job l are formed laid).named.0 own ≡ some attribute_text))

  -- all of it
  pub held_by : HeldBy f job.requests job.build (render (literals job) (layout_of (top_of job) (stg bytes job l are formed laid).answers (stg bytes job l are formed laid).asked.origins (stg bytes job l are formed laid).asked.resolved.visits (numbered job).build.class (rows bytes job l are formed laid) (stg bytes job l are formed laid).named))
  unfolding render layout_of numbered name_wanted goal_of follow
  held_by =
      record {
        as_many_lem = answers_many (stg bytes job l are formed laid).defined.names _ _ job.requests (stg bytes job l are formed laid).ready ((stg bytes job l are formed laid).answers, (stg bytes job l are formed laid).asked) (stg bytes job l are formed laid).is_asked;
        answered =
            λ i q at.
            let (a, there, h) = (asked bytes job l are formed laid).2 i q at in
            let good = asks-good (numbered job) (numbered-cited bytes job are formed) (definitions_low_lem bytes job are formed) (requests_low_lem bytes job are formed) i q at in
            let low = answers_low (stg bytes job l are formed laid).defined.names _ _ job.requests (stg bytes job l are formed laid).ready ((stg bytes job l are formed laid).answers, (stg bytes job l are formed laid).asked) (stg bytes job l are formed laid).is_asked in
            let to = same-goal bytes job l are formed laid q.what in (
              a,
              there,
              low i q a at there,
              leads_to f q.what,
              settled-leads job.definitions (marks bytes job l are formed laid) q.what (subst (Settled (marks bytes job l are formed laid)) to h.settled),
              λ depth. subst (λ g. Shows depth f g a) to (answer-shows depth (is_of bytes job l are formed laid q.what) a good.1 h),
            );
        placed_there = λ i n e kind at. (leads_to f (entry kind e), entry_leads job.definitions kind e, λ depth. placed-shows depth n e kind (placed-there i n e kind at));
        holes = index-held bytes job l are formed laid;
        class_there = class_at_lem (class_slot_of (stg bytes job l are formed laid).answers job.build.class);
        byte_is = let h = (form-formed bytes job are formed).build.name_byte in omega (arith, h);
        name_always = λ e. named-there (ap (λ n. name_wanted n count) e) (end bytes job l are formed laid).name;
        name_if_present =
            λ e. (
              λ there. named-there (ap (λ n. name_wanted n count) e ∙ lt-ltb 0 count there) (end bytes job l are formed laid).name,
              λ zero. no_name (ap (λ n. name_wanted n count) e ∙ le-ltb 0 count (omega (arith, zero))) (end bytes job l are formed laid).name,
            );
        name_never = λ e. no_name (ap (λ n. name_wanted n count) e) (end bytes job l are formed laid).name;
      }
    where
      count : ℕ
      count = length (rows bytes job l are formed laid)

      named-there : name_wanted job.build.name_byte (length (rows bytes job l are formed laid)) ≡ true → Ways → text_at_lem f (stg bytes job l are formed laid).named.0 ≡ some attribute_name
      named-there wanted (inl h) = true≢false (sym wanted ∙ h.0)
      named-there wanted (inr h) = name_shows (stg bytes job l are formed laid).named.0 h.1

      no_name : name_wanted job.build.name_byte (length (rows bytes job l are formed laid)) ≡ false → Ways → (stg bytes job l are formed laid).named.0 ≡ 0
      no_name unwanted (inl h) = h.1
      no_name unwanted (inr h) = true≢false (sym h.0 ∙ unwanted)
