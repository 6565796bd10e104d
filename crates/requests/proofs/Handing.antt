-- What the pool's start hands to the requests: they stand in turn, and the definition's requests start from the same. Assumes nothing.
use mathlib.Core.List.{List, [], map}
use mathlib.Core.Path.{◌≡◌, refl, sym, ap, subst, ◌∙◌}
use Prim.Native.Nat.{ℕ, suc, ◌+◌}
use native.Mathlib.Omega.{arith}
use lib.ListN.{length, get_or, take}
use Rattle.definition.specs.Basics.{Result, good, bad, ◌>>=◌, Refusal}
use Rattle.definition.specs.Definitions.{Defined}
use Rattle.definition.specs.Building.{Pool}
use Rattle.definition.specs.Layout.{Ready, answer_all}
use Rattle.laws.specs.Statements.{IsBytes}
use Rattle.laws.specs.Faithful.{Faithful}
use Rattle.slots.specs.Gaps.{GapTable}
use Rattle.store.specs.Store.{Store, size, IsWord}
use Rattle.store.specs.JobIn.{job_in, definitions_in, counts_in, constants_in, namings_in, linked_in}
use Rattle.store.specs.Regions.{COUNTS, MARKS, NAME-HEADS, NODE-HEADS, NAME-LINKS, NODE-LINKS, OFFSETS, FIRSTS, SIZES, GOALS, CHILDREN, NAME-PLACES, NAME-GOALS, NODES, VALUES, PLACE, AT, NAME-COUNT, NODE-COUNT, VISITS, Work}
use Rattle.store.specs.Words.{mark_word}
use Rattle.store.proofs.Bounds.{small}
use Rattle.store.proofs.Laying.{work-sizes, work-formed}
use Rattle.interner.specs.Nodes.{node_at_lem, node_count, nodes_in}
use Rattle.sym_refs.specs.Names.{name_count}
use Rattle.resolver.specs.Resolved.{resolved_in, AtRest, visits_owed}
use Rattle.resolver.proofs.Tabled.{fuel_counted}
use Rattle.definitions.specs.Defining.{place_count}
use Rattle.definitions.specs.Begun.{ready_from, AtFifty}
use Rattle.definitions.proofs.Beginning.{counted}
use Rattle.pool.specs.Starting.{start_pool, PoolStarted}
use Rattle.pool.specs.Replying.{ready_so_far, Asking, RequestsAt, answered_in}
use Rattle.pool.proofs.Meeting.{requests_stand}
use Rattle.pool.proofs.InTurn.{requests_counted}
use Rattle.requests.specs.Asked.{requests_in, asked_in}

module _ (s p : List ℕ) (top : ℕ) (t u : Store) (d : Defined) (f : AtFifty p top s t d) (g h : GapTable) (started : PoolStarted p top t u g h) where
  same_nodes : nodes_in s u ≡ nodes_in s t
  same_nodes =
      let k = started.kept in
      λ j.
      map (node_at_lem s (k FIRSTS refl j) (k SIZES refl j) (k CHILDREN refl j)) (take (started.counters NODE-COUNT refl j) (k NODES refl j))

  same-resolved : resolved_in s u ≡ resolved_in s t
  same-resolved =
      λ j.
      record { marks = map mark_word (started.kept MARKS refl j); nodes = same_nodes j; visits = started.counters VISITS refl j }

  rests-still : AtRest (size p NODE-HEADS) s u
  rests-still =
      let k = started.kept in
      let n : node_count u ≡ node_count t = started.counters NODE-COUNT refl in
      let a = f.rest in
      record {
        nodes = rw (k FIRSTS refl, k SIZES refl, k CHILDREN refl, k NODES refl, k NODE-HEADS refl, k NODE-LINKS refl, n) a.nodes;
        made = rw (k MARKS refl, k NODES refl, n) a.made;
        lowest = rw (k MARKS refl, k NODES refl, n) a.lowest;
        room = rw (k MARKS refl, n) a.room;
        faithful = subst (Faithful (linked_in s)) (sym same-resolved) a.faithful;
        owed = rw (k MARKS refl) a.owed;
      }

  pub started_asking : Asking s p u h
  started_asking =
      let k = started.kept in
      let n : name_count u ≡ name_count t = started.counters NAME-COUNT refl in
      record {
        table =
            record {
              entered = rw (k OFFSETS refl, k FIRSTS refl, k SIZES refl, k VALUES refl) f.table.entered;
              linked = rw (k FIRSTS refl, k GOALS refl) f.table.linked;
            };
        rests = rests-still;
        names = rw (k NAME-PLACES refl, k NAME-HEADS refl, k NAME-LINKS refl, n) f.names;
        goals = rw (k NAME-GOALS refl) f.goals;
        live = started.live;
      }

  pub started_at : get_or (u COUNTS) AT 0 ≡ f.laid.fifty + 1
  started_at = started.counters AT refl ∙ f.at

  pub started_place : place_count u ≡ length (definitions_in s)
  started_place = started.counters PLACE refl ∙ f.place

  module _ (work : Work s p) where
    pub requests_at : IsBytes s → RequestsAt s (get_or (u COUNTS) AT 0)
    requests_at bytes = rw started_at (requests_stand s (work-formed s p work) bytes f.laid)

    pub few_visits : IsWord (visits_owed s u + length (job_in s).requests + 1)
    few_visits =
        let z = work-sizes s p work in
        let b = small s (work-formed s p work) in
        let same : visits_owed s u ≡ visits_owed s t = rw (started.kept MARKS refl, started.counters VISITS refl) in
        omega (
          arith,
          same,
          f.visits,
          fuel_counted s,
          f.room,
          z.raw_keys,
          z.answers,
          (requests_counted s p work).answers,
          b.entries,
          b.references,
          b.raw_constants,
          b.raw_bootstraps,
          b.requests,
        )

    pub few_places : IsWord (place_count u + length (job_in s).requests + 1)
    few_places =
        let z = work-sizes s p work in
        let b = small s (work-formed s p work) in
        omega (arith, started_place, counted s (counts_in s) refl, z.answers, (requests_counted s p work).answers, b.definitions, b.requests)

  -- the pool that the definition's requests start from
  abbrev pub first_pool : Pool
  first_pool = start_pool top d.held (map mark_word (t MARKS)) d.version

  abbrev pub first_ready : Ready
  first_ready = ready_from top s d (resolved_in s t)

  -- what it makes of them
  abbrev pub replies : Result Refusal (List ℕ × Ready)
  replies = answer_all (namings_in s) (constants_in s) (suc (length (definitions_in s))) (job_in s).requests first_ready

  pub replies_are : answered_in s u first_pool ≡ replies
  replies_are =
      let ready : ready_so_far s u first_pool [] ≡ first_ready = λ j. record { table = linked_in s; resolved = same-resolved j; pool = first_pool; origins = [] } in
      rw (started_place, ready)

  replies_here : asked_in top s ≡ (replies >>= λ r. good (d, first_ready, r.0, r.1))
  unfolding asked_in requests_in
  replies_here = ap (λ x. x >>= requests_in s) f.is ∙ rw f.naming

  pub asked_good : (r : List ℕ × Ready) → replies ≡ good r → asked_in top s ≡ good (d, first_ready, r.0, r.1)
  asked_good r e = replies_here ∙ ap (λ x. x >>= λ r. good (d, first_ready, r.0, r.1)) e

  pub asked_bad : (r : Refusal) → replies ≡ bad r → asked_in top s ≡ bad r
  asked_bad r e = replies_here ∙ ap (λ x. x >>= λ r. good (d, first_ready, r.0, r.1)) e
