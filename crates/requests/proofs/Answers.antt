-- All requests against the definition's laws: raw definitions stay settled, what slots hold waits on the stack, and answers are slots.
-- Assumes nothing.
use mathlib.Core.List.{List, ◌++◌, map}
use mathlib.Core.Logic.{◌⊎◌, inl, inr}
use mathlib.Core.Option.{some}
use mathlib.Core.Path.{◌≡◌, sym, subst, subst₂, ◌∙◌}
use Prim.Native.Nat.{ℕ, suc, ◌<◌}
use native.Mathlib.Omega.{arith}
use lib.ListN.{length, get_or, get_elem?}
use Rattle.definition.specs.Basics.{good}
use Rattle.definition.specs.Job.{Request}
use Rattle.definition.specs.Numbering.{constants_of, bootstraps_of, numbered}
use Rattle.definition.specs.Definitions.{Naming, Defined}
use Rattle.definition.specs.Resolving.{Goal, table_entry, goal_of, Mark, done, child_of, linked}
use Rattle.definition.specs.Building.{Pool}
use Rattle.definition.specs.Layout.{starters, node_at_lem, answer_all}
use Rattle.facts.specs.Lists.{Among}
use Rattle.facts.proofs.Lists.{inside_found, found_read, map_at, among-forth, among-right}
use Rattle.facts.proofs.Each.{each_from}
use Rattle.laws.specs.Statements.{IsBytes}
use Rattle.laws.specs.Faithful.{Settled, InTable}
use Rattle.laws.proofs.Definitions.DefinedAsPlaced.{defined_facts}
use Rattle.laws.proofs.Resolving.JobGoals.{job_names}
use Rattle.laws.proofs.Resolving.JobTableGood.{asks-good, numbered-cited, definitions_low_lem, requests_low_lem}
use Rattle.laws.proofs.Resolving.ResolvedNodes.{ConstantGoal, child_done}
use Rattle.laws.proofs.Resolving.FaithfulToEntries.{settled-grows}
use Rattle.laws.proofs.Slots.PoolsThatOccur.{sound}
use Rattle.laws.proofs.Slots.SlotsToHold.{to_hold}
use Rattle.laws.proofs.Building.ChildNumbers.{SlotFor, given-held}
use Rattle.laws.proofs.Building.AfterRecord50.{raw_goals, raws_of}
use Rattle.laws.proofs.Building.AfterRequests.{Going, Further, Answered, answer_all-going}
use Rattle.slots.specs.Gaps.{GapTable}
use Rattle.store.specs.Store.{Store, size}
use Rattle.store.specs.JobIn.{job_in, definitions_in, table_of, numbered_in, constants_in, namings_in, linked_in}
use Rattle.store.specs.Regions.{MARKS, GIVEN, OFFSETS, FIRSTS, SIZES, GOALS, RAW-KEYS, RAW-ENTRIES, ANSWERS, Work}
use Rattle.store.specs.Words.{mark_word}
use Rattle.store.proofs.Bounds.{small, formed_job}
use Rattle.store.proofs.Laying.{work-formed}
use Rattle.raws.specs.Raws.{SlotItem, IndexItem, RawsIn}
use Rattle.resolver.specs.Resolved.{resolved_in}
use Rattle.resolver.proofs.Meanings.{found_done}
use Rattle.resolver.proofs.Tabled.{cited}
use Rattle.definitions.specs.Defining.{records_in}
use Rattle.definitions.specs.Begun.{ready_from, AtFifty}
use Rattle.definitions.proofs.Handing.{constants_many}
use Rattle.pool.specs.Pooled.{PooledIn}
use Rattle.pool.specs.Replying.{ready_in}
use Rattle.pool.specs.Owning.{IsOwner, OnStack}
use Rattle.pool.proofs.Words.{word_some}
use Rattle.pool.proofs.InTurn.{requests_counted}
use Rattle.requests.proofs.Settling.{fifty_going, slot-starts, start_goal}
use Rattle.requests.proofs.Waiting.{on_stack, given-low}

-- the node of an entry that is done
node_at : (marks : List Mark) (e k : ℕ) → get_elem? marks e ≡ some (done k) → node_at_lem marks e ≡ k
unfolding node_at_lem
node_at marks e k h = omega (arith, child_done marks e k h)

module _ (s p : List ℕ) (work : Work s p) (bytes : IsBytes s) (top : ℕ) (t : Store) (d : Defined) (f : AtFifty p top s t d) where
  same_names : job_names (numbered (job_in s)) ≡ namings_in s
  unfolding records_in
  same_names = sym (defined_facts top (constants_of (records_in s)) (records_in s) d f.is_defined).all_names ∙ f.naming

  -- what a request asks for is in the table, and no bootstrap
  request_asks :
      (i : ℕ) (q : Request) → get_elem? (job_in s).requests i ≡ some q →
      InTable (length (linked_in s)) (goal_of (namings_in s) (constants_in s) q.what)
      × ConstantGoal (linked_in s) (goal_of (namings_in s) (constants_in s) q.what)
  unfolding linked_in numbered_in table_of records_in numbered
  request_asks i q at =
      let formed = formed_job s (work-formed s p work) in
      subst₂
      (λ (names : List Naming) (n : ℕ).
      InTable (length (linked names n (constants_of (records_in s) ++ bootstraps_of (records_in s)))) (goal_of names n q.what)
      × ConstantGoal (linked names n (constants_of (records_in s) ++ bootstraps_of (records_in s))) (goal_of names n q.what))
      same_names
      (constants_many s)
      (asks-good (numbered (job_in s)) (numbered-cited s (job_in s) bytes formed) (definitions_low_lem s (job_in s) bytes formed)
      (requests_low_lem s (job_in s) bytes formed) i q at)

  -- the raw constants as the definition's stack has them
  abbrev raws : List (ℕ × ℕ)
  raws = raws_of d.held (map mark_word (t MARKS))

  module _
      (v : Store) (pool : Pool)
      (is :
      answer_all (namings_in s) (constants_in s) (suc (length (definitions_in s))) (job_in s).requests (ready_from top s d (resolved_in s t))
      ≡ good (v ANSWERS, ready_in s v pool)) where
    all_going :
        Going (linked_in s) top d.held raws (ready_in s v pool)
        × Further (ready_from top s d (resolved_in s t)) (ready_in s v pool)
        × ((i : ℕ) (q : Request) → get_elem? (job_in s).requests i ≡ some q →
        (a : ℕ) × (get_elem? (v ANSWERS) i ≡ some a) × Answered (goal_of (namings_in s) (constants_in s) q.what) a (ready_in s v pool))
    all_going =
        answer_all-going (linked_in s)
        (cited s (t OFFSETS) (t FIRSTS) (t SIZES) (t GOALS) f.table.entered f.table.linked (small s (work-formed s p work)).entries)
        top d.held raws (namings_in s) (constants_in s) (suc (length (definitions_in s))) (job_in s).requests
        (ready_from top s d (resolved_in s t)) (v ANSWERS, ready_in s v pool) (each_from _ (job_in s).requests request_asks) is
        (fifty_going s p (work-formed s p work) bytes top t d f).0

    -- raw definitions stay settled
    pub still_settled : (g : Goal) → Among g (raw_goals (constants_in s) d) → Settled (map mark_word (v MARKS)) g
    still_settled g a =
        settled-grows (resolved_in s t) (resolved_in s v) g all_going.1.grows
        ((fifty_going s p (work-formed s p work) bytes top t d f).1 g a)

    -- answers are slots
    pub answers_small : (i : ℕ) → i < size p ANSWERS → get_or (v ANSWERS) i 0 < 65536
    answers_small i l =
        let (q, at) = inside_found (job_in s).requests i (omega (arith, (requests_counted s p work).answers)) in
        let (a, here, answered) = all_going.2 i q at in
        rw (found_read (v ANSWERS) i a 0 here) (low a (child_of (map mark_word (v MARKS)) (goal_of (namings_in s) (constants_in s) q.what)) answered.slot)
      where
        low : (a child : ℕ) → SlotFor pool.given child a → a < 65536
        low a child (inl (l, e)) = omega (arith, l, e)
        low a child (inr (l, e)) =
            omega (arith, f.raws.few, given-low top d.held _ pool (sound all_going.0.pooled.occurs) _ a e)

    module _ (g : GapTable) (pooled : PooledIn pool v g) where
      held-waits : (slot k : ℕ) → Among (slot, k) (to_hold pool.given raws) → OnStack v k
      held-waits slot k a = on_stack pool v g slot k pooled (subst (Among (slot, k)) (sym all_going.0.pooled.stack) a)

      -- a raw constant is on the stack with the node that its entry became
      start_waits : (key e k : ℕ) → Among (key, e) (starters d.held) → get_or (v MARKS) e 0 ≡ suc (suc k) → OnStack v k
      start_waits key e k (i, at) word =
          let marks = map mark_word (t MARKS) in
          let (n, before) = (fifty_going s p (work-formed s p work) bytes top t d f).1 (table_entry e) (start_goal (constants_in s) d key e (i, at)) in
          let after = all_going.1.grows.marks_kept e n before in
          let node : node_at_lem marks e ≡ k = omega (arith, node_at marks e n before, found_done (v MARKS) e n after, word) in
          let row : ℕ × ℕ → ℕ × ℕ = λ r. (r.0, node_at_lem marks r.1) in
          let there = among-forth (key, node_at_lem marks e) (map row (starters d.held)) (i, map_at row (starters d.held) i (key, e) at) in
          held-waits key k
          (among-right (key, k) (map (λ (r : ℕ × ℕ). (r.1, r.0)) pool.given) raws (subst (λ (n : ℕ). Among (key, n) raws) node there))

      pub owners_wait : RawsIn p (constants_in s) top d.held d.indexes v → (k : ℕ) → IsOwner v k → OnStack v k
      owners_wait r k (inl has) =
          held-waits (get_or (v GIVEN) k 0) k
          (given-held k (get_or (v GIVEN) k 0) pool.given raws (pooled.given k ∙ word_some (get_or (v GIVEN) k 0) has))
      owners_wait r k (inr (i, own)) = ways (r.items i own.inside)
        where
          ways :
              SlotItem top d.held (get_or (v RAW-KEYS) i 0) (get_or (v RAW-ENTRIES) i 0)
              ⊎ IndexItem (constants_in s) d.indexes (get_or (v RAW-KEYS) i 0) (get_or (v RAW-ENTRIES) i 0) →
              OnStack v k
          ways (inl item) = start_waits _ _ k (slot-starts top d _ _ item own.whole) own.node
          ways (inr item) = absurd (omega (arith, item.low, own.slot))
