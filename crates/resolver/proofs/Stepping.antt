-- One item taken from the stack is one step of the definition, and what holds between items holds again. Assumes nothing.
use mathlib.Core.List.{List, [], ◌∷◌, ◌++◌, map, append_assoc}
use mathlib.Core.Logic.{◌⊎◌, inl, inr, ⊎_elim}
use mathlib.Core.Option.{some}
use mathlib.Core.Path.{◌≡◌, refl, sym, ap, subst, ◌∙◌}
use Prim.Native.Nat.{ℕ, zero, suc, ◌+◌, ◌-◌, ◌≤◌, ◌<◌}
use native.Mathlib.Omega.{arith}
use lib.ListN.{length, get_or, get_elem?, set, take, length-append, length-map}
use lib.Seq.{get_or-set_other}
use Rattle.definition.specs.Basics.{good, bad, every, from}
use Rattle.definition.specs.Shapes.{Entry}
use Rattle.definition.specs.Resolving.{Goal, table_entry, Mark, fresh, underway, done, Resolved, Item, enter, leave}
use Rattle.definition.specs.Resolving.{kids_at, visited, entering, step, work, fuel_for}
use Rattle.facts.proofs.Lists.{found_inside, map-set, equal, order}
use Rattle.facts.proofs.Outcomes.{when_good}
use Rattle.facts.proofs.Chunks.{length_from}
use Rattle.laws.specs.Faithful.{owing}
use Rattle.laws.proofs.Resolving.OwedVisits.{owing-enter, ItemOk, TableOk, Stepped, step-steps}
use Rattle.laws.specs.Faithful.{Now, Cited}
use Rattle.laws.proofs.Resolving.FaithfulToEntries.{step_kept, kids_at-some}
use Rattle.store.specs.Store.{Store, size, put, IsWord, Kept}
use Rattle.store.specs.JobIn.{entries_in, linked_in}
use Rattle.store.specs.Regions.{COUNTS, MARKS, NODE-HEADS, NODE-LINKS, OFFSETS, FIRSTS, SIZES, GOALS, CHILDREN, NODES, STACK, NODE-COUNT, Work}
use Rattle.store.specs.Words.{ENTRY, LEAVE, REFUSED, mark_word, goal_word, item_word, IsGoal}
use Rattle.store.specs.Small.{Small}
use Rattle.store.proofs.Keeping.{kept_then, kept_more, kept_put}
use Rattle.store.proofs.Laying.{work-sizes, work-formed, entries-counted}
use Rattle.store.proofs.Bounds.{small}
use Rattle.interner.specs.Nodes.{node_at_lem, node_count, nodes_in}
use Rattle.std.specs.Prelude.{Result, Ok, Err}
use Rattle.refusal.specs.Numbers.{number}
use Rattle.refusal.specs.declared.Refusal.{Refusal}
use Rattle.refusal.specs.declared.Refusal.TheVariants.{Circular}
use Rattle.resolver.specs.Resolved.{Table}
use Rattle.resolver.specs.Moves.{state_at, stack_of, IsItem, Places, ToLeave, Pushed, Enters, NodesHold, Running, CountersKept, Leaves, Steps}
use Rattle.resolver.proofs.Meanings.{goal_refused, goal_ok, item_goal, item_leave, is_fresh_lem, is_underway_lem, is_done_lem, mark_at, found_underway, done_found, settled-became}
use Rattle.resolver.proofs.Lowest.{lowest_entered}
use Rattle.resolver.proofs.Tabled.{Kids, kids_there, word_kid, cited, table_ok_lem, linked-count, fuel_counted}
use Rattle.resolver.proofs.Stacks.{stack_length, stack_pushed, words_pushed}
use Rattle.resolver.proofs.Leaving.{unfinished-same}
use Rattle.store.proofs.Goals.{goal_raw, goal_entry}

-- the regions that a step writes
abbrev pub step_regions : List ℕ
step_regions = COUNTS ∷ MARKS ∷ NODE-HEADS ∷ NODE-LINKS ∷ CHILDREN ∷ NODES ∷ STACK ∷ []

-- where an entry's words stand
pub places : (s p : List ℕ) (t : Store) (e : ℕ) → Work s p → Table s t → e < entries_in s → Places p t e
places s p t e work table h =
    let z = work-sizes s p work in
    let c = entries-counted s in
    let (x, at, k) = kids_there s (t OFFSETS) (t FIRSTS) (t SIZES) (t GOALS) table.entered table.linked e h in
    record {
      mark = omega (arith, z.marks);
      first = omega (arith, z.firsts);
      count = omega (arith, z.sizes);
      goals = omega (arith, z.goals, k.room);
      children = omega (arith, z.children, k.room);
    }

-- the definition's work takes the item on top
work-good :
    (table : List (Entry ℕ Goal)) (fuel : ℕ) (i : Item) (rest : List Item) (st : Resolved) (r : List Item × Resolved) →
    step table i st ≡ good r → work (suc fuel) table (i ∷ rest) st ≡ work fuel table (r.0 ++ rest) r.1
unfolding work
work-good table fuel i rest st r e = rw e

work-bad :
    (table : List (Entry ℕ Goal)) (fuel : ℕ) (i : Item) (rest : List Item) (st : Resolved) (code : ℕ) →
    step table i st ≡ bad code → work (suc fuel) table (i ∷ rest) st ≡ bad code
unfolding work
work-bad table fuel i rest st code e = rw e

module _ (h : ℕ) (s : List ℕ) (t : Store) (n : ℕ) (few : Small s) (table : Table s t) (run : Running h s t (suc n)) where
  item : Item
  item = item_word (get_or (t STACK) n 0)

  rest : List Item
  rest = stack_of (t STACK) n

  top : Now (linked_in s) run.goal (state_at s t 0) (item ∷ rest)
  unfolding stack_of item rest
  top = run.stacked

  stack_is : stack_of (t STACK) (suc n) ≡ item ∷ rest
  unfolding stack_of item rest
  stack_is = refl

  -- the word on top
  word : IsItem (entries_in s) (get_or (t STACK) n 0)
  word = run.words n (omega arith)

  all_cited : Cited (linked_in s)
  all_cited = cited s (t OFFSETS) (t FIRSTS) (t SIZES) (t GOALS) table.entered table.linked few.entries

  all_ok : TableOk ⊥ (linked_in s)
  all_ok = table_ok_lem s (t OFFSETS) (t FIRSTS) (t SIZES) (t GOALS) table.entered table.linked few.entries

  item_ok : ItemOk ⊥ item
  unfolding item
  item_ok = ways word
    where
      ways : IsItem (entries_in s) (get_or (t STACK) n 0) → ItemOk ⊥ (item_word (get_or (t STACK) n 0))
      ways (inl g) = rw (item_goal (entries_in s) (get_or (t STACK) n 0) few.entries g) (goal_ok (entries_in s) (get_or (t STACK) n 0) few.entries g)
      ways (inr (a, b)) = rw (item_leave (get_or (t STACK) n 0) a (omega (arith, few.entries))) tt

  -- the stack's room is less than a refusal
  fuel_low : fuel_for (linked_in s) < REFUSED
  fuel_low = omega (arith, fuel_counted s, few.entries, few.references)

  -- A STEP THAT GOES ON
  module _
      (u : Store) (r : ℕ) (pushed : List Item)
      (is : (visits : ℕ) → step (linked_in s) item (state_at s t visits) ≡ good (pushed, state_at s u (suc visits)))
      (stack : stack_of (u STACK) r ≡ pushed ++ rest)
      (hold : NodesHold h s u)
      (words : (i : ℕ) → i < r → IsItem (entries_in s) (get_or (u STACK) i 0))
      (counters : CountersKept t u)
      (kept : Kept step_regions t u) where
    stepped : Stepped ⊥ (linked_in s) (state_at s t 0) (pushed, state_at s u 1)
    stepped = when_good (step-steps ⊥ (linked_in s) item (state_at s t 0) all_ok item_ok) (is 0)

    long : r ≡ length pushed + n
    unfolding rest
    long = sym (stack_length (u STACK) r) ∙ ap length stack ∙ length-append pushed rest ∙ ap (λ m. length pushed + m) (stack_length (t STACK) n)

    less : r + owing (linked_in s) (map mark_word (u MARKS)) ≤ n + owing (linked_in s) (map mark_word (t MARKS))
    less = omega (arith, long, stepped.paid)

    running : Running h s u r
    running =
        let k = step_kept (linked_in s) run.goal item rest (state_at s t 0) (pushed, state_at s u 1) all_cited run.partial top (is 0) in
        record {
          hold = hold;
          words = words;
          goal = run.goal;
          partial = record { marks_length = k.0.marks_length; node_of = k.0.node_of; from_entry = k.0.from_entry };
          stacked = subst (λ (l : List Item). Now (linked_in s) run.goal (state_at s u 0) l) (sym stack) k.1;
          paid = omega (arith, less, run.paid);
        }

    good_step : Steps h s t u n (Ok r)
    good_step =
        record {
          is =
              record {
                is =
                    λ fuel visits.
                    rw (stack_is, stack) (work-good (linked_in s) fuel item rest (state_at s t visits) (pushed, state_at s u (suc visits)) (is visits));
                again = running;
                falls = less;
              };
          counters = counters;
          kept = kept;
        }

  -- A STEP THAT IS REFUSED
  bad_step :
      (u : Store) (q : Refusal) → ((visits : ℕ) → step (linked_in s) item (state_at s t visits) ≡ bad (number q)) →
      CountersKept t u → Kept step_regions t u → Steps h s t u n (Err q)
  bad_step u q is counters kept =
      record {
        is = λ fuel visits. rw stack_is (work-bad (linked_in s) fuel item rest (state_at s t visits) (number q) (is visits));
        counters = counters;
        kept = kept;
      }

  -- A RAW NUMBER
  nothing : CountersKept t t
  nothing c _ = refl

  visit : (visits : ℕ) → step (linked_in s) item (state_at s t visits) ≡ good ([], visited (state_at s t visits)) → step (linked_in s) item (state_at s t visits) ≡ good ([], state_at s t (suc visits))
  unfolding visited
  visit visits e = e

  unchanged : ((visits : ℕ) → step (linked_in s) item (state_at s t visits) ≡ good ([], visited (state_at s t visits))) → Steps h s t t n (Ok n)
  unfolding rest
  unchanged is = good_step t n [] (λ visits. visit visits (is visits)) refl run.hold (λ i l. run.words i (omega arith)) nothing (λ k _. refl)

  pub step-raw : get_or (t STACK) n 0 < ENTRY → Steps h s t t n (Ok n)
  unfolding item step
  step-raw l =
      let g : IsGoal (entries_in s) (get_or (t STACK) n 0) = inl (omega arith) in
      unchanged (λ visits. rw (item_goal (entries_in s) (get_or (t STACK) n 0) few.entries g, goal_raw (get_or (t STACK) n 0) l))

  -- A REFUSAL
  pub goal-refused : REFUSED ≤ get_or (t STACK) n 0 → (get_or (t STACK) n 0 ≡ REFUSED + 12) ⊎ (get_or (t STACK) n 0 ≡ REFUSED + 13)
  goal-refused l = ways word
    where
      ways : IsItem (entries_in s) (get_or (t STACK) n 0) → (get_or (t STACK) n 0 ≡ REFUSED + 12) ⊎ (get_or (t STACK) n 0 ≡ REFUSED + 13)
      ways (inl (inl a)) = absurd (omega (arith, few.entries))
      ways (inl (inr q)) = q
      ways (inr (a, b)) = absurd (omega (arith, few.entries))

  pub step-refused : (q : Refusal) → REFUSED ≤ get_or (t STACK) n 0 → get_or (t STACK) n 0 ≡ REFUSED + number q → Steps h s t t n (Err q)
  unfolding item step
  step-refused q l told =
      let z : get_or (t STACK) n 0 - REFUSED ≡ number q = omega arith in
      bad_step t q (λ visits. rw (item_goal (entries_in s) (get_or (t STACK) n 0) few.entries (inr (goal-refused l)), goal_refused (get_or (t STACK) n 0) l, z)) nothing (λ k _. refl)

  -- AN ENTRY ENTERED
  marks_long : length (t MARKS) ≡ entries_in s
  marks_long = sym (length-map (t MARKS) mark_word) ∙ run.partial.marks_length ∙ linked-count s

  module _ (e : ℕ) (inside : e < entries_in s) where
    kids : (x : Entry ℕ Goal) × (get_elem? (linked_in s) e ≡ some x) × Kids s (t FIRSTS) (t SIZES) (t GOALS) e x
    kids = kids_there s (t OFFSETS) (t FIRSTS) (t SIZES) (t GOALS) table.entered table.linked e inside

    goals : List Goal
    goals = from (λ i. goal_word (get_or (t GOALS) (get_or (t FIRSTS) e 0 + i) 0)) 0 (get_or (t SIZES) e 0)

    kids_are_lem : kids_at (linked_in s) e ≡ goals
    unfolding goals
    kids_are_lem = kids_at-some (linked_in s) e kids.0 kids.1 ∙ sym kids.2.is

    mark_is : (m : Mark) → mark_word (get_or (t MARKS) e 0) ≡ m → get_or (map mark_word (t MARKS)) e (done 0) ≡ m
    mark_is m q = mark_at (t MARKS) e (done 0) (omega (arith, marks_long)) ∙ q

    -- the stack has room for its goals and its leaving
    pub entry_room : get_or (t MARKS) e 0 ≡ 0 → n + get_or (t SIZES) e 0 + 2 ≤ fuel_for (linked_in s)
    unfolding goals
    entry_room z =
        let pays = owing-enter (linked_in s) (map mark_word (t MARKS)) e (mark_is fresh (is_fresh_lem (get_or (t MARKS) e 0) z)) in
        let long : length (kids_at (linked_in s) e) ≡ get_or (t SIZES) e 0 = ap length kids_are_lem ∙ length_from _ 0 (get_or (t SIZES) e 0) in
        omega (arith, run.paid)

    module _ (at : item ≡ enter (table_entry e)) where
      stepping : (m : Mark) → mark_word (get_or (t MARKS) e 0) ≡ m → (visits : ℕ) → step (linked_in s) item (state_at s t visits) ≡ entering (linked_in s) e m (state_at s t visits)
      unfolding step
      stepping m q visits = rw (at, mark_is m q)

      entry_done : 1 < get_or (t MARKS) e 0 → Steps h s t t n (Ok n)
      unfolding entering
      entry_done l =
          let k = get_or (t MARKS) e 0 - 2 in
          unchanged (stepping (done k) (is_done_lem (get_or (t MARKS) e 0) k (omega arith)))

      module _ (u : Store) (r : ℕ) where
        entry_underway : get_or (t MARKS) e 0 ≡ 1 → Kept (MARKS ∷ STACK ∷ []) t u → Steps h s t u n (Err Circular)
        unfolding entering every number
        entry_underway q kept =
            (bad_step u Circular (stepping underway (is_underway_lem (get_or (t MARKS) e 0) q))
            (λ c _. ap (λ (l : List ℕ). get_or l c 0) (kept COUNTS refl))
            (kept_more (MARKS ∷ STACK ∷ []) step_regions t u refl kept))

        module _ (z : get_or (t MARKS) e 0 ≡ 0) (pushed : Pushed (put t MARKS e 1) u e n r) where
          items : List Item
          items = map enter (kids_at (linked_in s) e) ++ leave e ∷ []

          marks_are : map mark_word (u MARKS) ≡ set (map mark_word (t MARKS)) e underway
          unfolding mark_word
          marks_are = ap (map mark_word) (pushed.kept MARKS refl) ∙ map-set mark_word (t MARKS) e 1

          nodes_are : nodes_in s u ≡ nodes_in s t
          nodes_are =
              let a = pushed.kept FIRSTS refl in
              let b = pushed.kept SIZES refl in
              let c = pushed.kept NODES refl in
              let d = pushed.kept COUNTS refl in
              let f = pushed.kept CHILDREN refl in
              λ i. map (node_at_lem s (a i) (b i) (f i)) (take (get_or (d i) NODE-COUNT 0) (c i))

          is : (visits : ℕ) → step (linked_in s) item (state_at s t visits) ≡ good (items, state_at s u (suc visits))
          unfolding entering items
          is visits =
              stepping fresh (is_fresh_lem (get_or (t MARKS) e 0) z) visits
              ∙ (λ i. good (items, record { marks = sym marks_are i; nodes = sym nodes_are i; visits = suc visits }))

          stack : stack_of (u STACK) r ≡ items ++ rest
          unfolding items rest goals
          stack =
              rw (pushed.count, kids_are_lem)
              (stack_pushed (t STACK) (u STACK) (λ i. get_or (t GOALS) (get_or (t FIRSTS) e 0 + i) 0) (entries_in s) e n (get_or (t SIZES) e 0) few.entries inside pushed.below pushed.leaving pushed.goals kids.2.words
              ∙ sym (append_assoc (map enter goals) (leave e ∷ []) (stack_of (t STACK) n)))

          hold : NodesHold h s u
          hold =
              record {
                nodes =
                    rw (pushed.kept FIRSTS refl, pushed.kept SIZES refl, pushed.kept CHILDREN refl, pushed.kept NODES refl, pushed.kept NODE-HEADS refl, pushed.kept NODE-LINKS refl, pushed.kept COUNTS refl)
                    run.hold.nodes;
                made =
                    rw (pushed.kept COUNTS refl, pushed.kept NODES refl, pushed.kept MARKS refl)
                    λ i l.
                    let m = run.hold.made i l in
                    let other : get_or (t NODES) i 0 ≡ e → ⊥ = λ q. omega (arith, ap (λ d. get_or (t MARKS) d 0) q) in
                    rw (get_or-set_other (t MARKS) e (get_or (t NODES) i 0) 1 0 other) m;
                lowest =
                    rw (pushed.kept COUNTS refl, pushed.kept NODES refl, pushed.kept MARKS refl)
                    (λ k l. run.hold.lowest k l ∙ sym (lowest_entered (t MARKS) e (omega arith) k));
                room = rw (pushed.kept COUNTS refl, pushed.kept MARKS refl, unfinished-same (t MARKS) e 1 (omega arith) (omega arith)) run.hold.room;
              }

          words : (i : ℕ) → i < r → IsItem (entries_in s) (get_or (u STACK) i 0)
          words =
              rw pushed.count
              (words_pushed (t STACK) (u STACK) (λ i. get_or (t GOALS) (get_or (t FIRSTS) e 0 + i) 0) (entries_in s) e n (get_or (t SIZES) e 0) few.entries inside pushed.below pushed.leaving pushed.goals kids.2.words
              (λ i l. run.words i (omega arith)))

          entry_fresh : Steps h s t u n (Ok r)
          unfolding every
          entry_fresh =
              good_step u r items is stack hold words
              (λ c _. ap (λ (l : List ℕ). get_or l c 0) (pushed.kept COUNTS refl))
              (kept_then step_regions t (put t MARKS e 1) u
              (kept_put step_regions t t MARKS e 1 refl (λ k _. refl))
              (kept_more (STACK ∷ []) step_regions (put t MARKS e 1) u refl pushed.kept))

  -- the word on top is an entry's
  pub entered_inside : ENTRY ≤ get_or (t STACK) n 0 → get_or (t STACK) n 0 < LEAVE → get_or (t STACK) n 0 - ENTRY < entries_in s
  entered_inside l g = ways word
    where
      ways : IsItem (entries_in s) (get_or (t STACK) n 0) → get_or (t STACK) n 0 - ENTRY < entries_in s
      ways (inl (inl a)) = omega arith
      ways (inl (inr (inl q))) = absurd (omega arith)
      ways (inl (inr (inr q))) = absurd (omega arith)
      ways (inr (a, b)) = absurd (omega arith)

  pub step-entered :
      (u : Store) (r : Result ℕ Refusal) → ENTRY ≤ get_or (t STACK) n 0 → get_or (t STACK) n 0 < LEAVE → Enters t u (get_or (t STACK) n 0 - ENTRY) n r → Steps h s t u n r
  unfolding item
  step-entered u r l g enters = ways (order 1 (get_or (t MARKS) e 0))
    where
      x : ℕ
      x = get_or (t STACK) n 0

      e : ℕ
      e = x - ENTRY

      inside : e < entries_in s
      inside = entered_inside l g

      at : item_word x ≡ enter (table_entry e)
      at = item_goal (entries_in s) x few.entries (inl (omega (arith, inside))) ∙ ap enter (goal_entry x l (omega arith))

      ways : (1 < get_or (t MARKS) e 0) ⊎ (get_or (t MARKS) e 0 ≤ 1) → Steps h s t u n r
      ways (inl m) = let (a, b) = enters.is_done m in rw (a, b) (entry_done e inside at m)
      ways (inr m) =
          ⊎_elim
          (λ (q : get_or (t MARKS) e 0 ≡ 1). rw (enters.is_underway q) (entry_underway e inside at u 0 q enters.kept))
          (λ (q : get_or (t MARKS) e 0 ≡ 1 → ⊥). let z : get_or (t MARKS) e 0 ≡ 0 = omega arith in let (m, is, pushed) = enters.is_fresh z in rw is (entry_fresh e inside at u m z pushed))
          (equal (get_or (t MARKS) e 0) 1)

  -- AN ENTRY LEFT
  pub left-inside : LEAVE ≤ get_or (t STACK) n 0 → get_or (t STACK) n 0 < REFUSED → get_or (t STACK) n 0 - LEAVE < entries_in s
  left-inside l g = ways word
    where
      ways : IsItem (entries_in s) (get_or (t STACK) n 0) → get_or (t STACK) n 0 - LEAVE < entries_in s
      ways (inl (inl a)) = absurd (omega (arith, few.entries))
      ways (inl (inr (inl q))) = absurd (omega arith)
      ways (inl (inr (inr q))) = absurd (omega arith)
      ways (inr (a, b)) = omega arith

  -- a mark that is done tells of a node
  mark_told : (d : ℕ) → get_or (t MARKS) d 0 < 2 + node_count t
  mark_told d =
      ⊎_elim
      (λ (l : 1 < get_or (t MARKS) d 0).
      let k = get_or (t MARKS) d 0 - 2 in
      let node = run.partial.node_of d k (done_found (t MARKS) d k (omega arith)) in
      let low = found_inside (nodes_in s t) k _ node.2 in
      omega (arith, length-map (take (node_count t) (t NODES)) (node_at_lem s (t FIRSTS) (t SIZES) (t CHILDREN)), taken (node_count t) (t NODES)))
      (λ (l : get_or (t MARKS) d 0 ≤ 1). omega arith)
      (order 1 (get_or (t MARKS) d 0))
    where
      taken : (n : ℕ) (l : List ℕ) → length (take n l) ≤ n
      taken zero l = omega arith
      taken (suc n) [] = omega arith
      taken (suc n) (x ∷ l) = let ih = taken n l in omega arith

  -- and there aren't more nodes than entries
  mark_low : (d : ℕ) → get_or (t MARKS) d 0 < REFUSED
  mark_low d = omega (arith, mark_told d, run.hold.nodes.few, few.entries)

  module _ (l : LEAVE ≤ get_or (t STACK) n 0) (g : get_or (t STACK) n 0 < REFUSED) where
    e : ℕ
    e = get_or (t STACK) n 0 - LEAVE

    is_left : item ≡ leave e
    unfolding item e
    is_left = item_leave (get_or (t STACK) n 0) l g

    now_left : Now (linked_in s) run.goal (state_at s t 0) (leave e ∷ rest)
    now_left = subst (λ (i : Item). Now (linked_in s) run.goal (state_at s t 0) (i ∷ rest)) is_left top

    pub to_leave : ToLeave t (get_or (t STACK) n 0 - LEAVE)
    unfolding e
    to_leave =
        let (x, at, k) = kids e (left-inside l g) in
        record {
          is_underway = found_underway (t MARKS) e now_left.0;
          became =
              λ i b.
              settled-became (entries_in s) (t MARKS) (get_or (t GOALS) (get_or (t FIRSTS) e 0 + i) 0) few.entries (k.words i b)
              (now_left.1 x at _ (word_kid s (t OFFSETS) (t FIRSTS) (t SIZES) (t GOALS) table.entered table.linked e x at i b));
          low = mark_low;
          told = mark_told;
        }

    module _ (u : Store) (leaves : Leaves h s t u (get_or (t STACK) n 0 - LEAVE)) where
      left_is : (visits : ℕ) → step (linked_in s) item (state_at s t visits) ≡ good ([], state_at s u (suc visits))
      unfolding e step
      left_is visits = rw is_left (ap (λ (st : Resolved). good ([], st)) (leaves.is visits))

      left-stack : stack_of (u STACK) n ≡ rest
      unfolding rest
      left-stack = rw (leaves.kept STACK refl)

      left-words : (i : ℕ) → i < n → IsItem (entries_in s) (get_or (u STACK) i 0)
      left-words i b = rw (leaves.kept STACK refl) (run.words i (omega arith))

      pub step_left : Steps h s t u n (Ok n)
      unfolding every
      step_left =
          good_step u n [] left_is left-stack leaves.hold left-words leaves.counters
          (kept_more (COUNTS ∷ MARKS ∷ NODE-HEADS ∷ NODE-LINKS ∷ CHILDREN ∷ NODES ∷ []) step_regions t u refl leaves.kept)

  -- THE SAME FOR THE WORD x, READ FROM THE TOP
  module _ (x : ℕ) (got : x ≡ get_or (t STACK) n 0) where
    pub raw_steps : x < ENTRY → Steps h s t t n (Ok n)
    raw_steps l = step-raw (rw got at l)

    pub refused_goal : REFUSED ≤ x → (x ≡ REFUSED + 12) ⊎ (x ≡ REFUSED + 13)
    refused_goal l = rw got (goal-refused (rw got at l))

    pub refused_steps : REFUSED ≤ x → (q : Refusal) → x ≡ REFUSED + number q → Steps h s t t n (Err q)
    refused_steps l q told = step-refused q (rw got at l) (rw got at told)

    module _ (l : ENTRY ≤ x) (g : x < LEAVE) where
      pub entered_low : x - ENTRY < entries_in s
      entered_low = rw got (entered_inside (rw got at l) (rw got at g))

      pub enter_room : (p : List ℕ) → Work s p → get_or (t MARKS) (x - ENTRY) 0 ≡ 0 → n + get_or (t SIZES) (x - ENTRY) 0 < size p STACK
      enter_room p work z =
          omega (arith, entry_room (x - ENTRY) entered_low z, (work-sizes s p work).stack, entries-counted s, fuel_counted s)

      pub enter_word : IsWord (LEAVE + (x - ENTRY))
      enter_word = omega (arith, entered_low, few.entries)

      pub entered_steps : (u : Store) (r : Result ℕ Refusal) → Enters t u (x - ENTRY) n r → Steps h s t u n r
      entered_steps u r enters = step-entered u r (rw got at l) (rw got at g) (rw got at enters)

    module _ (l : LEAVE ≤ x) (g : x < REFUSED) where
      pub left-low : x - LEAVE < entries_in s
      left-low = rw got (left-inside (rw got at l) (rw got at g))

      pub left-ready : ToLeave t (x - LEAVE)
      left-ready = rw got (to_leave (rw got at l) (rw got at g))

      pub left-steps : (u : Store) → Leaves h s t u (x - LEAVE) → Steps h s t u n (Ok n)
      left-steps u leaves = step_left (rw got at l) (rw got at g) u (rw got at leaves)

-- the item on top has its place
pub top-inside : (h : ℕ) (s p : List ℕ) (t : Store) (n : ℕ) → Work s p → Running h s t (suc n) → n < size p STACK
top-inside h s p t n work run = omega (arith, run.paid, (work-sizes s p work).stack, entries-counted s, fuel_counted s)

pub few_of : (s p : List ℕ) → Work s p → Small s
few_of s p work = small s (work-formed s p work)
