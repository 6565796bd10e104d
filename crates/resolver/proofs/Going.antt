-- The loop over the stack: what is left of the definition's run is the whole, until no item is left or one is refused. Assumes nothing.
use mathlib.Core.List.{List, [], ◌∷◌, map}
use mathlib.Core.Logic.{inl, inr}
use mathlib.Core.Path.{◌≡◌, refl, sym, ap, subst, ◌∙◌}
use Prim.Native.Nat.{ℕ, zero, suc, ◌+◌, ◌-◌, ◌≤◌, ◌<◌}
use native.Mathlib.Numerals.{add-one}
use native.Mathlib.Omega.{arith}
use lib.ListN.{length, get_or, set, take}
use lib.Seq.{get_or-set_same, get_or-set_other}
use Rattle.definition.specs.Basics.{good, bad}
use Rattle.definition.specs.Shapes.{Entry}
use Rattle.definition.specs.Resolving.{Goal, Resolved, Item, enter, work, fuel_for, resolve}
use Rattle.facts.proofs.Outcomes.{when_good}
use Rattle.laws.specs.Faithful.{owing}
use Rattle.laws.proofs.Resolving.OwedVisits.{Worked, resolve-works}
use Rattle.laws.specs.Faithful.{Faithful, InTable, Now}
use Rattle.laws.proofs.Resolving.FaithfulToEntries.{resolve-faithful}
use Rattle.store.specs.Store.{Store, size, put, IsWord, Kept}
use Rattle.store.specs.JobIn.{entries_in, linked_in}
use Rattle.store.specs.Regions.{COUNTS, MARKS, OFFSETS, FIRSTS, SIZES, GOALS, CHILDREN, NODES, STACK, VALUES, NODE-COUNT, VISITS, Work}
use Rattle.store.specs.Words.{mark_word, goal_word, IsGoal}
use Rattle.store.specs.Small.{Small}
use Rattle.store.proofs.Laying.{work-sizes}
use Rattle.store.proofs.Keeping.{kept_then, kept_put}
use Rattle.interner.specs.Nodes.{node_at_lem, node_count}
use Rattle.std.specs.Prelude.{Ok, Err}
use Rattle.refusal.specs.Numbers.{number}
use Rattle.refusal.specs.declared.Refusal.{Refusal}
use Rattle.refusal.proofs.Numbers.{number_tag}
use Rattle.resolver.specs.Resolved.{resolved_in, Table, AtRest, visits_owed, told, Resolves}
use Rattle.resolver.specs.Moves.{state_at, stack_of, Running, CountersKept, Steps}
use Rattle.resolver.proofs.Meanings.{goal_in_lem, goal_ok, item_goal}
use Rattle.resolver.proofs.Tabled.{cited, table_ok_lem, linked-count}
use Rattle.resolver.proofs.Stepping.{step_regions, few_of}

pub told-good : (state : Resolved) → told 0 state ≡ good state
unfolding told
told-good state = refl

pub told-bad : (code : ℕ) (state : Resolved) → 0 < code → told code state ≡ bad code
unfolding told
told-bad zero state h = absurd (omega arith)
told-bad (suc code) state h = refl

work-empty : (fuel : ℕ) (table : List (Entry ℕ Goal)) (state : Resolved) → work fuel table [] state ≡ good state
unfolding work
work-empty zero table state = refl
work-empty (suc fuel) table state = refl

-- t where the loop begins, u now: so many visits are counted, and n items are left
pub record Resolving (h : ℕ) (s : List ℕ) (goal : ℕ) (t u : Store) (visits n : ℕ) : Type 0 where
  pub running : Running h s u n
  pub fuel : ℕ
  pub lasts : n + owing (linked_in s) (map mark_word (u MARKS)) ≤ fuel
  pub rest : work fuel (linked_in s) (stack_of (u STACK) n) (state_at s u visits) ≡ resolve (linked_in s) (goal_word goal) (resolved_in s t)
  pub bound : visits + n + owing (linked_in s) (map mark_word (u MARKS)) ≤ visits_owed s t + 1
  pub counters : CountersKept t u
  pub kept : Kept step_regions t u

module _ (h : ℕ) (s : List ℕ) (t : Store) (goal : ℕ) (few : Small s) (rests : AtRest h s t) (is : IsGoal (entries_in s) goal) (room : 0 < length (t STACK)) where
  -- the first item
  first : stack_of (set (t STACK) 0 goal) 1 ≡ enter (goal_word goal) ∷ []
  unfolding stack_of
  first = rw (get_or-set_same (t STACK) 0 goal 0 room, item_goal (entries_in s) goal few.entries is)

  goal_inside : InTable (length (linked_in s)) (goal_word goal)
  goal_inside = rw (linked-count s) (goal_in_lem (entries_in s) goal few.entries is)

  pub resolving_begin : (visits : ℕ) → visits ≡ get_or (t COUNTS) VISITS 0 → Resolving h s goal (put t STACK 0 goal) (put t STACK 0 goal) visits 1
  unfolding resolve
  resolving_begin visits q =
      let f = rests.faithful in
      record {
        running =
            record {
              hold = record { nodes = rests.nodes; made = rests.made; lowest = rests.lowest; room = rests.room };
              words = λ i l. let z : i ≡ 0 = omega arith in rw (z, get_or-set_same (t STACK) 0 goal 0 room) (inl is);
              goal = goal_word goal;
              partial = record { marks_length = f.marks_length; node_of = f.node_of; from_entry = f.from_entry };
              stacked =
                  subst (λ (l : List Item). Now (linked_in s) (goal_word goal) (state_at s t 0) l) (sym first) (goal_inside, (f.none_underway, inr refl));
              paid = omega (arith, rests.owed);
            };
        fuel = fuel_for (linked_in s);
        lasts = omega (arith, rests.owed);
        rest = rw (first, q);
        bound = omega arith;
        counters = λ c _. refl;
        kept = λ k _. refl;
      }

-- the table is where it was
pub table_kept : (s : List ℕ) (t u : Store) → Table s t → Kept step_regions t u → Table s u
table_kept s t u table kept =
    record {
      entered = rw (kept OFFSETS refl, kept FIRSTS refl, kept SIZES refl, kept VALUES refl) table.entered;
      linked = rw (kept FIRSTS refl, kept GOALS refl) table.linked;
    }

module _ (h : ℕ) (s : List ℕ) (goal : ℕ) (t u : Store) (visits n : ℕ) (z : Resolving h s goal t u visits n) where
  -- an item is on top
  pub running_top : 0 < n → Running h s u (suc (n - 1))
  running_top l = let q : suc (n - 1) ≡ n = omega arith in rw q z.running

  module _ (v : Store) (l : 0 < n) where
    back : suc (n - 1) ≡ n
    back = omega arith

    more : suc (z.fuel - 1) ≡ z.fuel
    more = omega (arith, z.lasts)

    whole : work (suc (z.fuel - 1)) (linked_in s) (stack_of (u STACK) (suc (n - 1))) (state_at s u visits) ≡ resolve (linked_in s) (goal_word goal) (resolved_in s t)
    whole = rw (back, more) z.rest

    pub resolving_next : (m : ℕ) → Steps h s u v (n - 1) (Ok m) → Resolving h s goal t v (visits + 1) m
    resolving_next m steps =
        rw (add-one visits)
        (record {
          running = steps.is.again;
          fuel = z.fuel - 1;
          lasts = omega (arith, z.lasts, steps.is.falls);
          rest = sym (steps.is.is (z.fuel - 1) visits) ∙ whole;
          bound = omega (arith, z.bound, steps.is.falls);
          counters = λ c k. steps.counters c k ∙ z.counters c k;
          kept = kept_then step_regions t u v z.kept steps.kept;
        })

    pub resolving_less :
        (m : ℕ) → Steps h s u v (n - 1) (Ok m) → m + owing (linked_in s) (map mark_word (v MARKS)) < n + owing (linked_in s) (map mark_word (u MARKS))
    resolving_less m steps = omega (arith, steps.is.falls)

    pub resolving_refused : (q : Refusal) → Steps h s u v (n - 1) (Err q) → Resolves h s t v goal (number q)
    resolving_refused q steps =
        record {
          is = sym whole ∙ steps.is (z.fuel - 1) visits ∙ sym (told-bad (number q) (resolved_in s v) (omega (arith, number_tag q)));
          again = λ e. absurd (omega (arith, number_tag q));
          visits = λ e. absurd (omega (arith, number_tag q));
          counters = λ c k _. steps.counters c k ∙ z.counters c k;
          kept = kept_then step_regions t u v z.kept steps.kept;
        }

-- no item is left
module _
    (h : ℕ) (s : List ℕ) (goal : ℕ) (t u : Store) (visits n : ℕ) (few : Small s) (table : Table s t) (rests : AtRest h s t) (isGoal : IsGoal (entries_in s) goal)
    (long : VISITS < length (u COUNTS)) (empty : n ≤ 0) (z : Resolving h s goal t u visits n) where
  v : Store
  v = put u COUNTS VISITS visits

  count_is : get_or (set (u COUNTS) VISITS visits) NODE-COUNT 0 ≡ node_count u
  count_is = get_or-set_other (u COUNTS) VISITS NODE-COUNT visits 0 (λ q. omega arith)

  visits_are : get_or (set (u COUNTS) VISITS visits) VISITS 0 ≡ visits
  visits_are = get_or-set_same (u COUNTS) VISITS visits 0 long

  state_is : resolved_in s v ≡ state_at s u visits
  unfolding v
  state_is = λ i. record { marks = map mark_word (u MARKS); nodes = map (node_at_lem s (u FIRSTS) (u SIZES) (u CHILDREN)) (take (count_is i) (u NODES)); visits = visits_are i }

  resolves_is : resolve (linked_in s) (goal_word goal) (resolved_in s t) ≡ good (resolved_in s v)
  unfolding stack_of
  resolves_is =
      let q : n ≡ 0 = omega arith in
      sym z.rest ∙ (rw q (work-empty z.fuel (linked_in s) (state_at s u visits))) ∙ ap (λ (st : Resolved). good st) (sym state_is)

  worked : Worked ⊥ (linked_in s) 1 (resolved_in s t) (resolved_in s v)
  worked =
      when_good
      (resolve-works ⊥ (linked_in s) (goal_word goal) (resolved_in s t)
      (table_ok_lem s (t OFFSETS) (t FIRSTS) (t SIZES) (t GOALS) table.entered table.linked few.entries)
      (goal_ok (entries_in s) goal few.entries isGoal)
      rests.owed)
      resolves_is

  faithful : Faithful (linked_in s) (resolved_in s v)
  faithful =
      (resolve-faithful (linked_in s) (goal_word goal) (resolved_in s t) (resolved_in s v)
      (cited s (t OFFSETS) (t FIRSTS) (t SIZES) (t GOALS) table.entered table.linked few.entries)
      (rw (linked-count s) (goal_in_lem (entries_in s) goal few.entries isGoal))
      rests.faithful
      resolves_is
      ).0

  pub resolving_end : Resolves h s t (put u COUNTS VISITS visits) goal 0
  unfolding v
  resolving_end =
      let hold = z.running.hold in
      record {
        is = resolves_is ∙ sym (told-good (resolved_in s v));
        again =
            λ _.
            record {
              nodes = rw count_is hold.nodes;
              made = rw count_is hold.made;
              lowest = rw count_is hold.lowest;
              room = rw count_is hold.room;
              faithful = faithful;
              owed = omega (arith, rests.owed, worked.paid);
            };
        visits = λ _. omega (arith, worked.counted);
        counters = λ c k m. get_or-set_other (u COUNTS) VISITS c visits 0 m ∙ z.counters c k;
        kept = kept_put step_regions t u COUNTS VISITS visits refl z.kept;
      }

-- the stack's first word was written before the loop began
pub resolves_whole : (h : ℕ) (s : List ℕ) (t u : Store) (goal x r : ℕ) → Resolves h s (put t STACK 0 x) u goal r → Resolves h s t u goal r
resolves_whole h s t u goal x r k =
    record {
      is = k.is;
      again = k.again;
      visits = k.visits;
      counters = k.counters;
      kept = kept_then step_regions t (put t STACK 0 x) u (kept_put step_regions t t STACK 0 x refl (λ k _. refl)) k.kept;
    }

-- and what held still holds
pub rests-still : (h : ℕ) (s : List ℕ) (t : Store) (x : ℕ) → AtRest h s t → AtRest h s (put t STACK 0 x)
rests-still h s t x k =
    record { nodes = k.nodes; made = k.made; lowest = k.lowest; room = k.room; faithful = k.faithful; owed = k.owed }

pub table_still : (s : List ℕ) (t : Store) (x : ℕ) → Table s t → Table s (put t STACK 0 x)
table_still s t x k = record { entered = k.entered; linked = k.linked }

-- a goal is a word
pub goal_fits : (entries goal : ℕ) → entries ≤ 131072 → IsGoal entries goal → IsWord goal
goal_fits entries goal few (inl h) = omega arith
goal_fits entries goal few (inr (inl h)) = omega arith
goal_fits entries goal few (inr (inr h)) = omega arith

-- the same from the store t, before the first item was put onto the stack; b is the store where the loop begins
module _ (h : ℕ) (s : List ℕ) (goal : ℕ) (t b : Store) (begun : b ≡ put t STACK 0 goal) where
  pub begin : (p : List ℕ) → Work s p → AtRest h s t → IsGoal (entries_in s) goal → length (t STACK) ≡ size p STACK → (visits : ℕ) → visits ≡ get_or (t COUNTS) VISITS 0 → Resolving h s goal b b visits 1
  begin p work rests is long visits q =
      rw begun (resolving_begin h s t goal (few_of s p work) rests is (omega (arith, (work-sizes s p work).stack)) visits q)

  pub table_now : (u : Store) → Table s t → Kept step_regions b u → Table s u
  table_now u table kept = table_kept s b u (rw begun (table_still s t goal table)) kept

  pub visits_fit : (u : Store) (visits n : ℕ) → IsWord (visits_owed s t + 1) → Resolving h s goal b u visits n → visits + n ≤ 4294967295
  visits_fit u visits n fits z =
      let low : visits + n ≤ visits_owed s b + 1 = omega (arith, z.bound) in
      let same : visits_owed s b ≡ visits_owed s t = rw begun in
      omega arith

  pub end_refused :
      (u v : Store) (visits n : ℕ) (q : Refusal) → Resolving h s goal b u visits n → 0 < n → Steps h s u v (n - 1) (Err q) → Resolves h s t v goal (number q)
  end_refused u v visits n q z l steps =
      resolves_whole h s t v goal goal (number q) (subst (λ (x : Store). Resolves h s x v goal (number q)) begun (resolving_refused h s goal b u visits n z v l q steps))

  pub end-good :
      (p : List ℕ) → Work s p → (u : Store) (visits n : ℕ) → Table s t → AtRest h s t → IsGoal (entries_in s) goal → VISITS < length (u COUNTS) → n ≤ 0 →
      Resolving h s goal b u visits n → Resolves h s t (put u COUNTS VISITS visits) goal 0
  end-good p work u visits n table rests is long empty z =
      resolves_whole h s t (put u COUNTS VISITS visits) goal goal 0
      (resolving_end h s goal (put t STACK 0 goal) u visits n (few_of s p work) (table_still s t goal table) (rests-still h s t goal rests) is long empty
      (subst (λ (x : Store). Resolving h s goal x u visits n) begun z))
