-- Raw definitions are resolved in their order, and so record 50 ends. Assumes nothing.
use mathlib.Core.List.{List, [], ◌∷◌, ◌++◌, map}
use mathlib.Core.Logic.{⊎_elim}
use mathlib.Core.Path.{◌≡◌, refl, ap, ◌∙◌}
use Prim.Native.Nat.{ℕ, zero, suc, ◌+◌, ◌-◌, ◌≤◌, ◌<◌}
use native.Mathlib.Numerals.{add-one}
use native.Mathlib.Omega.{arith}
use lib.ListN.{length, get_or, replicate}
use borrow.Author.Tests.{ne_eqb}
use Rattle.definition.specs.Basics.{Result, good, bad, ◌>>=◌, every}
use Rattle.definition.specs.Definitions.{Defined}
use Rattle.definition.specs.Resolving.{Goal, table_entry, Node, fresh, Resolved, fuel_for, resolve, resolve_all, nothing_resolved}
use Rattle.laws.specs.Statements.{IsBytes}
use Rattle.laws.proofs.Resolving.OwedVisits.{owing-start}
use Rattle.store.specs.Store.{Store, size, Kept}
use Rattle.store.specs.JobIn.{counts_in, constants_in, entries_in, linked_in}
use Rattle.store.specs.Regions.{COUNTS, MARKS, NAME-HEADS, NODE-HEADS, RAW-HEADS, NAME-LINKS, RAW-LINKS, NAME-PLACES, OFFSETS, FIRSTS, SIZES, GOALS, NAME-GOALS, RAW-KEYS, RAW-ENTRIES, ORDER, VALUES, RAW-COUNT, VISITS, Work}
use Rattle.store.specs.Words.{ENTRY, HALF, mark_word, goal_word, IsReference}
use Rattle.store.specs.Small.{Small}
use Rattle.store.proofs.Bounds.{small}
use Rattle.store.proofs.Laying.{work-formed}
use Rattle.store.proofs.Keeping.{kept_then, kept_more}
use Rattle.interner.specs.Nodes.{node_count, nodes_in}
use Rattle.sym_refs.specs.Leading.{AllNames, NamesFollowed, ReferencesLinked}
use Rattle.raws.specs.Raws.{raw_count, RawsIn, SomeRaws, Ordered, Sorted}
use Rattle.store.proofs.Goals.{goal_entry}
use Rattle.resolver.proofs.Tabled.{linked-count, fuel_counted}
use Rattle.resolver.proofs.Handing.{nothing_rests}
use Rattle.resolver.specs.Resolved.{resolved_in, Table, AtRest, visits_owed, told, Resolves}
use Rattle.definitions.specs.Ending.{raw_goal, raw_at_lem, raw_goals, SameOthers, resolved_regions, ResolvesAll, CanResolve, Fresh, ended_regions, Ended}
use Rattle.definitions.specs.Defining.{DefinedAll}
use Rattle.definitions.proofs.Rooms.{room}
use Rattle.definitions.proofs.Whole.{past_end}
use Rattle.definitions.proofs.Ordering.{order_goals, order_raws}
use Rattle.definitions.proofs.Linking.{words_linked}
use Rattle.facts.proofs.Lists.{order}

-- ONE RAW DEFINITION

-- nothing follows
then_good_lem : (r : Result ℕ Resolved) → (r >>= λ s. good s) ≡ r
then_good_lem (good a) = refl
then_good_lem (bad e) = refl

module _ (h : ℕ) (s : List ℕ) where
  -- a second half
  pub half_resolved : (t : Store) (e : ℕ) → AtRest h s t → e ≡ HALF → ResolvesAll h s (raw_goal e) 1 t t 0
  unfolding raw_goal resolve_all told
  half_resolved t e rests is =
      record { is = rw is; again = λ _. rests; visits = λ _. omega arith; counters = λ c _ _. refl; kept = λ k _. refl }

  -- an entry
  pub entry_resolved :
      (t u : Store) (e r : ℕ) → e < entries_in s → entries_in s ≤ 131072 → (e ≡ HALF → ⊥) → Resolves h s t u (ENTRY + e) r →
      ResolvesAll h s (raw_goal e) 1 t u r
  unfolding raw_goal resolve_all
  entry_resolved t u e r low few other done =
      let back : ENTRY + e - ENTRY ≡ e = omega arith in
      let goal : goal_word (ENTRY + e) ≡ table_entry e = goal_entry (ENTRY + e) (omega arith) (omega arith) ∙ ap table_entry back in
      record {
        is = rw (ne_eqb e HALF other, raw_goal) (then_good_lem (resolve (linked_in s) (table_entry e) (resolved_in s t)) ∙ (rw goal at done.is));
        again = done.again;
        visits = done.visits;
        counters = done.counters;
        kept = done.kept;
      }

  -- ALL, in their order

  goals_then : (a b : List Goal) (state : Resolved) → resolve_all (linked_in s) (a ++ b) state ≡ (resolve_all (linked_in s) a state >>= λ next. resolve_all (linked_in s) b next)
  unfolding resolve_all
  goals_then [] b state = refl
  goals_then (g ∷ a) b state = ways (resolve (linked_in s) g state) (λ next. goals_then a b next)
    where
      ways : (r : Result ℕ Resolved) → ((next : Resolved) → resolve_all (linked_in s) (a ++ b) next ≡ (resolve_all (linked_in s) a next >>= λ next. resolve_all (linked_in s) b next)) → (r >>= λ next. resolve_all (linked_in s) (a ++ b) next) ≡ (r >>= (λ next. resolve_all (linked_in s) a next) >>= λ next. resolve_all (linked_in s) b next)
      ways (good next) rest = rest next
      ways (bad code) rest = refl

-- the first i of n places are resolved: t before, u now
pub record SoFar (h : ℕ) (s : List ℕ) (t u : Store) (i n : ℕ) : Type 0 where
  pub rest :
      resolve_all (linked_in s) (raw_goals (t RAW-ENTRIES) (t ORDER) 0 n) (resolved_in s t)
      ≡ resolve_all (linked_in s) (raw_goals (t RAW-ENTRIES) (t ORDER) i (n - i)) (resolved_in s u)
  pub rests : AtRest h s u
  pub visits : visits_owed s u ≤ visits_owed s t + i
  pub counters : SameOthers t u
  pub kept : Kept resolved_regions t u

pub table_still : (s : List ℕ) (t u : Store) → Kept resolved_regions t u → Table s t → Table s u
table_still s t u kept table =
    record { entered = rw (kept OFFSETS refl, kept FIRSTS refl, kept SIZES refl, kept VALUES refl) table.entered; linked = rw (kept FIRSTS refl, kept GOALS refl) table.linked }

module _ (h : ℕ) (s : List ℕ) (t : Store) (n : ℕ) where
  pub raws_begin : AtRest h s t → SoFar h s t t 0 n
  raws_begin rests =
      let e : n - 0 ≡ n = omega arith in
      record { rest = rw e; rests = rests; visits = omega arith; counters = λ c _ _. refl; kept = λ k _. refl }

  module _ (u : Store) (i : ℕ) (far : SoFar h s t u i n) where
    pub same-raw : raw_at_lem (u RAW-ENTRIES) (u ORDER) i ≡ raw_at_lem (t RAW-ENTRIES) (t ORDER) i
    same-raw = rw (far.kept RAW-ENTRIES refl, far.kept ORDER refl)

    module _ (more : i < n) (v : Store) (r : ℕ) (done : ResolvesAll h s (raw_goal (raw_at_lem (t RAW-ENTRIES) (t ORDER) i)) 1 u v r) where
      this_goal :
          resolve_all (linked_in s) (raw_goals (t RAW-ENTRIES) (t ORDER) 0 n) (resolved_in s t)
          ≡ (told r (resolved_in s v) >>= λ next. resolve_all (linked_in s) (raw_goals (t RAW-ENTRIES) (t ORDER) (suc i) (n - suc i)) next)
      unfolding raw_goals
      this_goal =
          let e : n - i ≡ suc (n - suc i) = omega arith in
          far.rest
          ∙ ap (λ m. resolve_all (linked_in s) (raw_goals (t RAW-ENTRIES) (t ORDER) i m) (resolved_in s u)) e
          ∙ goals_then h s (raw_goal (raw_at_lem (t RAW-ENTRIES) (t ORDER) i)) (raw_goals (t RAW-ENTRIES) (t ORDER) (suc i) (n - suc i)) (resolved_in s u)
          ∙ ap (λ x. x >>= λ next. resolve_all (linked_in s) (raw_goals (t RAW-ENTRIES) (t ORDER) (suc i) (n - suc i)) next) done.is

      pub raws_next : r ≡ 0 → SoFar h s t v (i + 1) n
      unfolding told
      raws_next z =
          rw (add-one i)
          (record {
            rest = this_goal ∙ ap (λ m. told m (resolved_in s v) >>= λ next. resolve_all (linked_in s) (raw_goals (t RAW-ENTRIES) (t ORDER) (suc i) (n - suc i)) next) z;
            rests = done.again z;
            visits = omega (arith, done.visits z, far.visits);
            counters = λ c a b. done.counters c a b ∙ far.counters c a b;
            kept = kept_then resolved_regions t u v far.kept done.kept;
          })

      pub raws_refused : (r ≡ 0 → ⊥) → ResolvesAll h s (raw_goals (t RAW-ENTRIES) (t ORDER) 0 n) n t v r
      unfolding told
      raws_refused other =
          record {
            is = this_goal ∙ bad_then r other;
            again = λ z. absurd (other z);
            visits = λ z. absurd (other z);
            counters = λ c a b. done.counters c a b ∙ far.counters c a b;
            kept = kept_then resolved_regions t u v far.kept done.kept;
          }
        where
          bad_then : (r : ℕ) → (r ≡ 0 → ⊥) → (told r (resolved_in s v) >>= λ next. resolve_all (linked_in s) (raw_goals (t RAW-ENTRIES) (t ORDER) (suc i) (n - suc i)) next) ≡ told r (resolved_in s v)
          bad_then zero other = absurd (other refl)
          bad_then (suc code) other = refl

    pub raws_end : i ≡ n → ResolvesAll h s (raw_goals (t RAW-ENTRIES) (t ORDER) 0 n) n t u 0
    unfolding told raw_goals resolve_all
    raws_end e =
        let z : n - i ≡ 0 = omega arith in
        record {
          is = far.rest ∙ ap (λ m. resolve_all (linked_in s) (raw_goals (t RAW-ENTRIES) (t ORDER) i m) (resolved_in s u)) z;
          again = λ _. far.rests;
          visits = λ _. omega (arith, far.visits);
          counters = far.counters;
          kept = far.kept;
        }

-- RECORD 50

all_fresh : (n : ℕ) → map mark_word (replicate n 0) ≡ replicate n fresh
unfolding mark_word
all_fresh zero = refl
all_fresh (suc n) = ap (λ l. fresh ∷ l) (all_fresh n)

zeros-are : (l : List ℕ) → ((i : ℕ) → i < length l → get_or l i 0 ≡ 0) → l ≡ replicate (length l) 0
zeros-are [] h = refl
zeros-are (x ∷ l) h =
    let first : x ≡ 0 = h 0 (omega arith) in
    let rest = zeros-are l (λ i low. h (suc i) (omega arith)) in
    rw (first, ← rest)

pub zero-beyond : (l : List ℕ) → ((i : ℕ) → i < length l → get_or l i 0 ≡ 0) → (i : ℕ) → get_or l i 0 ≡ 0
zero-beyond l h i = ⊎_elim (λ (low : i < length l). h i low) (λ (high : length l ≤ i). past_end l i high) (order i (length l))

module _ (p : List ℕ) (top : ℕ) (s : List ℕ) (t : Store) (d : Defined) (all : DefinedAll p top s t d) where
  -- names are there for those that follow them
  pub end-names : AllNames (size p NAME-HEADS) s t
  end-names = (all.names, all.named)

  module _ (t1 : Store) (followed : NamesFollowed s t t1) where
    pub still_names : AllNames (size p NAME-HEADS) s t1
    still_names =
        let k = followed.kept in
        rw (k NAME-PLACES refl, k NAME-HEADS refl, k NAME-LINKS refl, k COUNTS refl) end-names

    pub still_words : (i : ℕ) → i < (counts_in s).references → IsReference s (entries_in s) (get_or (t1 GOALS) i 0)
    still_words i l = rw (followed.kept GOALS refl) (all.words i l)

    module _ (t2 : Store) (refs : ReferencesLinked s t1 t2) where
      raws_there : RawsIn p (constants_in s) top d.held d.indexes t2
      raws_there =
          let k = followed.kept in
          let l = refs.kept in
          rw (l RAW-KEYS refl, k RAW-KEYS refl, l RAW-ENTRIES refl, k RAW-ENTRIES refl, l RAW-HEADS refl, k RAW-HEADS refl, l RAW-LINKS refl, k RAW-LINKS refl, l COUNTS refl, k COUNTS refl)
          all.raws

      pub still_raws : SomeRaws p t2
      unfolding SomeRaws
      still_raws = (constants_in s, top, d.held, d.indexes, raws_there)

      pub still_count : raw_count t2 ≤ size p RAW-KEYS
      still_count = rw (refs.kept COUNTS refl, followed.kept COUNTS refl) all.room

      module _ (t3 : Store) (sorted : Sorted p t2 t3) where
        abbrev linked_regions : List ℕ
        linked_regions = NAME-GOALS ∷ GOALS ∷ ORDER ∷ []

        kept3 : Kept linked_regions t t3
        unfolding every
        kept3 =
            kept_then linked_regions t t1 t3 (kept_more (NAME-GOALS ∷ []) linked_regions t t1 refl followed.kept)
            (kept_then linked_regions t1 t2 t3 (kept_more (GOALS ∷ []) linked_regions t1 t2 refl refs.kept) (kept_more (ORDER ∷ []) linked_regions t2 t3 refl sorted.kept))

        goals3 : t3 GOALS ≡ t2 GOALS
        goals3 = sorted.kept GOALS refl

        pub end-table : Table s t3
        end-table =
            record {
              entered = rw (kept3 OFFSETS refl, kept3 FIRSTS refl, kept3 SIZES refl, kept3 VALUES refl) all.entered;
              linked =
                  rw (kept3 FIRSTS refl, goals3)
                  (words_linked s (t OFFSETS) (t FIRSTS) (t SIZES) (t1 GOALS) (t2 GOALS) all.entered (λ e x h i r g. rw (followed.kept GOALS refl) (all.kids e x h i r g)) refs.goes);
            }

        count3 : raw_count t3 ≡ raw_count t
        count3 = rw (kept3 COUNTS refl)

        ordered3 : Ordered (constants_in s) top d.held d.indexes (t3 RAW-KEYS) (t3 RAW-ENTRIES) (t3 ORDER) (raw_count t3)
        ordered3 =
            rw (sorted.kept RAW-KEYS refl, sorted.kept RAW-ENTRIES refl, sorted.kept COUNTS refl)
            (sorted.ordered (constants_in s) top d.held d.indexes raws_there)

        module _ (work : Work s p) (bytes : IsBytes s) (unresolved : Fresh p t) (long : (k : ℕ) → length (t k) ≡ size p k) (long3 : (k : ℕ) → length (t3 k) ≡ size p k) where
          few3 : Small s
          few3 = small s (work-formed s p work)

          marks3 : t3 MARKS ≡ replicate (entries_in s) 0
          unfolding Fresh
          marks3 =
              let size_is : length (t MARKS) ≡ entries_in s = omega (arith, long MARKS, (room s p work).marks) in
              kept3 MARKS refl
              ∙ zeros-are (t MARKS) (λ i l. unresolved.0 i (omega (arith, long MARKS)))
              ∙ ap (λ n. replicate n 0) size_is

          heads3 : (k : ℕ) → get_or (t3 NODE-HEADS) k 0 ≡ 0
          unfolding Fresh
          heads3 k = rw (kept3 NODE-HEADS refl) (zero-beyond (t NODE-HEADS) (λ i l. unresolved.1 i (omega (arith, long NODE-HEADS))) k)

          nodes3 : node_count t3 ≡ 0
          unfolding Fresh
          nodes3 = rw (kept3 COUNTS refl) unresolved.2

          visits3 : get_or (t3 COUNTS) VISITS 0 ≡ 0
          unfolding Fresh
          visits3 = rw (kept3 COUNTS refl) unresolved.3

          pub end-rests : AtRest (size p NODE-HEADS) s t3
          end-rests = nothing_rests (size p NODE-HEADS) s t3 few3 end-table marks3 heads3 nodes3

          fresh3 : map mark_word (t3 MARKS) ≡ replicate (length (linked_in s)) fresh
          fresh3 = rw (marks3, linked-count s) (all_fresh (entries_in s))

          start3 : resolved_in s t3 ≡ nothing_resolved (linked_in s)
          unfolding nothing_resolved
          start3 = λ i. record { marks = fresh3 i; nodes = none3 i; visits = visits3 i }
            where
              none3 : ◌≡◌ {A = List Node} (nodes_in s t3) []
              none3 = rw nodes3

          owed3 : visits_owed s t3 < fuel_for (linked_in s)
          owed3 = rw (visits3, fresh3) (omega (arith, owing-start (linked_in s)))

          pub end-can : CanResolve p s t3 (raw_count t3)
          end-can =
              let m = room s p work in
              record {
                room = omega (arith, count3, all.room, m.raws.order);
                inside = λ i l. omega (arith, ordered3.inside i l, count3, all.room, m.raws.entries);
                raws = order_raws s (work-formed s p work) bytes top d all.is (t3 RAW-KEYS) (t3 RAW-ENTRIES) (t3 ORDER) (raw_count t3) ordered3;
                few = omega (arith, owed3, fuel_counted s, m.references, m.entries, count3, all.room, m.few_raws);
              }

          pub end-done : (u : Store) (r : ℕ) → ResolvesAll (size p NODE-HEADS) s (raw_goals (t3 RAW-ENTRIES) (t3 ORDER) 0 (raw_count t3)) (raw_count t3) t3 u r → Ended p top s t u d r
          unfolding every
          end-done u r done =
              let goals =
              order_goals (constants_in s) top d (t3 RAW-KEYS) (t3 RAW-ENTRIES) (t3 ORDER) (raw_count t3) ordered3
              (raws_there.counted ∙ rw (sorted.kept COUNTS refl)) (omega (arith, long3 ORDER, count3, all.room, (room s p work).raws.order)) in
              let k = done.kept in
              let names = sorted.kept NAME-GOALS refl ∙ refs.kept NAME-GOALS refl in
              record {
                table = table_still s t3 u k end-table;
                is = rw (← goals, ← start3) done.is;
                again = done.again;
                visits = λ z. omega (arith, done.visits z, owed3, count3);
                goals = rw (k NAME-GOALS refl, names) followed.goals;
                ordered = rw (k RAW-KEYS refl, k RAW-ENTRIES refl, k ORDER refl, done.counters RAW-COUNT (λ q. omega arith) (λ q. omega arith)) ordered3;
                counters = λ c a b. done.counters c a b ∙ ap (λ l. get_or l c 0) (kept3 COUNTS refl);
                kept = kept_then ended_regions t t3 u (kept_more linked_regions ended_regions t t3 refl kept3) (kept_more resolved_regions ended_regions t3 u refl k);
              }
