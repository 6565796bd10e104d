-- The slots of a node's children, left to right, against the definition. Assumes nothing.
use mathlib.Core.Bool.{false}
use mathlib.Core.List.{List, [], ◌∷◌, ◌++◌, map, map-append, append-nil, append_assoc}
use mathlib.Core.Logic.{⊎_elim}
use mathlib.Core.Path.{◌≡◌, refl, sym, ◌∙◌}
use Prim.Native.Nat.{ℕ, suc, ◌+◌, ◌-◌, ◌≤◌, ◌<◌}
use native.Mathlib.Numerals.{add-one}
use native.Mathlib.Omega.{arith}
use lib.ListN.{length, get_or, take, drop, length-take}
use lib.Seq.{take-suc, take_all, drop-cons, drop-length, get_or-take}
use Rattle.definition.specs.Basics.{Result, good, bad, ◌>>=◌, Refusal, at_record}
use Rattle.definition.specs.Resolving.{Node}
use Rattle.definition.specs.Building.{Pool, slot_of, slots_of, kids_of}
use Rattle.facts.proofs.Lists.{order, found_inside, found_read, map_same}
use Rattle.facts.proofs.Chunks.{length_from, from-get}
use Rattle.slots.specs.Gaps.{GapTable}
use Rattle.store.specs.Store.{Store, size}
use Rattle.store.specs.Regions.{COUNTS, GIVEN, NODE-HEADS, NODE-LINKS, RECORDS, OFFSETS, FIRSTS, SIZES, CHILDREN, NODES, VALUES, PLACE, NODE-COUNT}
use Rattle.store.specs.Words.{ENTRY, cut, child_slot}
use Rattle.interner.specs.Nodes.{node_at_lem, node_count, nodes_in, record_in}
use Rattle.pool.specs.Pooled.{place_count, Has, PooledIn, LiveIn, NodesThere, KidsThere, Goes, Slotted, SlottedAll}
use Rattle.pool.proofs.Words.{child_kept, has_kept}
use Rattle.pool.proofs.Giving.{goes_not, goes_then}
use Rattle.pool.proofs.Nodal.{entry_of, node_kids, node_kids_fit, record_asks}

-- THE NODES stay while slots are given

module _ (s : List ℕ) (t u : Store) (g h : GapTable) (goes : Goes t u g h) where
  pub count_stays : node_count u ≡ node_count t
  count_stays = goes.counters NODE-COUNT refl

  pub nodes_stay : nodes_in s u ≡ nodes_in s t
  nodes_stay =
      λ i.
      map
      (λ (e : ℕ). node_at_lem s (goes.kept FIRSTS refl i) (goes.kept SIZES refl i) (goes.kept CHILDREN refl i) e)
      (take (count_stays i) (goes.kept NODES refl i))

  pub record_stays : (k : ℕ) → record_in u k ≡ record_in t k
  record_stays k = rw (goes.kept RECORDS refl, goes.kept NODES refl)

  pub there_stays : (p : List ℕ) → NodesThere s p t → NodesThere s p u
  there_stays p there = (
    there.0,
    rw (goes.kept OFFSETS refl, goes.kept FIRSTS refl, goes.kept SIZES refl, goes.kept VALUES refl) there.1,
    rw (
      goes.kept FIRSTS refl,
      goes.kept SIZES refl,
      goes.kept CHILDREN refl,
      goes.kept NODES refl,
      goes.kept NODE-HEADS refl,
      goes.kept NODE-LINKS refl,
      count_stays,
    )
        there.2,
  )

-- THE LOOP: what the rest of the children gives, behind what those passed have, is the whole

pub record Slotting (s : List ℕ) (k : ℕ) (t u : Store) (g h : GapTable) (i : ℕ) : Type 0 where
  pub done : i ≤ length (kids_of (nodes_in s t) k)
  pub rest :
      (pool : Pool) → PooledIn pool t g →
      (mid : Pool)
      × (slots_of (nodes_in s t) (kids_of (nodes_in s t) k) pool
      ≡ (slots_of (nodes_in s t) (drop i (kids_of (nodes_in s t) k)) mid >>= λ r.
      good (map (child_slot (u GIVEN)) (take i (kids_of (nodes_in s t) k)) ++ r.0, r.1)))
      × PooledIn mid u h
  pub has : (j : ℕ) → j < i → Has (u GIVEN) (get_or (kids_of (nodes_in s t) k) j 0)
  pub goes : Goes t u g h

good_again : {A : Type 0} (r : Result Refusal (List ℕ × A)) → r ≡ (r >>= λ x. good (x.0, x.1))
good_again (good a) = refl
good_again (bad e) = refl

pub slotting_begin : (s : List ℕ) (k : ℕ) (t : Store) (g : GapTable) → Slotting s k t t g g 0
slotting_begin s k t g =
    record {
      done = omega arith;
      rest = λ pool q. (pool, good_again (slots_of (nodes_in s t) (kids_of (nodes_in s t) k) pool), q);
      has = λ j l. absurd (omega arith);
      goes = goes_not t g;
    }

-- one more in front of what the rest gives
abbrev ahead : {A : Type 0} → List ℕ → List ℕ × A → Result Refusal (List ℕ × A)
ahead l x = good (l ++ x.0, x.1)

abbrev behind : {A : Type 0} → ℕ → List ℕ × A → Result Refusal (List ℕ × A)
behind c x = good (c ∷ x.0, x.1)

regroup :
    {A : Type 0} (r : Result Refusal (List ℕ × A)) (c : ℕ) (l : List ℕ) → ((r >>= behind c) >>= ahead l) ≡ (r >>= ahead (l ++ (c ∷ [])))
regroup (good a) c l = rw (append_assoc l (c ∷ []) a.0)
regroup (bad e) c l = refl

module _ (s : List ℕ) (k : ℕ) (t u : Store) (g h : GapTable) (i : ℕ) (l : Slotting s k t u g h i) where
  abbrev nodes : List Node
  nodes = nodes_in s t

  abbrev kids : List ℕ
  kids = kids_of (nodes_in s t) k

  -- no child is left
  pub slotting_end : length kids ≤ i → SlottedAll s k t u g h 0
  unfolding slots_of
  slotting_end e =
      let all : length kids ≡ i = omega (arith, l.done) in
      let z : drop i kids ≡ [] = rw (← all) (drop-length kids) in
      record {
        met =
            λ pool q f.
            let (mid, is, r) = l.rest pool q in
            (mid, is ∙ rw (z, take_all i kids e, slots_of, append-nil), r);
        refused = λ pool q f. absurd (omega arith);
        has = λ f j b. l.has j (omega arith);
        goes = λ f. l.goes;
      }

  module _ (more : i < length kids) (child r : ℕ) (is : child ≡ get_or kids i 0) (v : Store) (o : GapTable) (slotted : Slotted s false child u v h o r) where
    next : drop i kids ≡ child ∷ drop (suc i) kids
    next = drop-cons kids i 0 more ∙ rw is

    -- its slot is refused, which is told at its record
    pub slotting_refused :
        0 < r → child < ENTRY + node_count u → (y : Store) (r' : ℕ) → (r' ≡ r) × (place_count y ≡ record_in v (child - ENTRY)) →
        SlottedAll s k t y g o r'
    unfolding slots_of at_record
    slotting_refused z low y r' (same, told) =
        rw same
        (record {
          met = λ pool q f. absurd (omega arith);
          refused =
              λ pool q f.
              let (mid, e, m) = l.rest pool q in
              let b : slot_of nodes false child mid ≡ bad r = rw (nodes_stay s t u g h l.goes) at (slotted.refused mid m z) in
              record {
                node = child - ENTRY;
                made = omega (arith, slotted.node z, count_stays s t u g h l.goes);
                refused = e ∙ rw (next, slots_of, b, at_record);
                place = told ∙ record_stays s t v g o (goes_then t u v g h o l.goes slotted.goes) (child - ENTRY);
              };
          has = λ f. absurd (omega arith);
          goes = λ f. absurd (omega arith);
        })

    -- those passed keep theirs
    passed : map (child_slot (v GIVEN)) (take i kids) ≡ map (child_slot (u GIVEN)) (take i kids)
    passed =
        map_same (child_slot (v GIVEN)) (child_slot (u GIVEN)) (take i kids) λ a (j, at).
        let low : j < i = omega (arith, found_inside (take i kids) j a at, length-take i kids, more) in
        let e : get_or kids j 0 ≡ a = sym (get_or-take i kids j 0 low) ∙ found_read (take i kids) j a 0 at in
        rw e at (child_kept (u GIVEN) (v GIVEN) (get_or kids j 0) (l.has j low) slotted.goes.given)

    one_more : map (child_slot (v GIVEN)) (take (suc i) kids) ≡ map (child_slot (u GIVEN)) (take i kids) ++ (child_slot (v GIVEN) child ∷ [])
    one_more =
        rw (take-suc kids i 0 more, map-append (child_slot (v GIVEN)) (take i kids) (get_or kids i 0 ∷ []), passed, is)

    -- it has one
    pub slotting_next : r ≡ 0 → Slotting s k t v g o (i + 1)
    unfolding slots_of at_record
    slotting_next z =
        rw (add-one i)
        (record {
          done = omega arith;
          rest =
              λ pool q.
              let (mid, e, m) = l.rest pool q in
              let (after, f, n) = slotted.met mid m z in
              let b : slot_of nodes false child mid ≡ good (child_slot (v GIVEN) child, after) = rw (nodes_stay s t u g h l.goes) at f in (
                after,
                e
                    ∙ rw (next, slots_of, b, at_record, one_more)
                    (regroup (slots_of nodes (drop (suc i) kids) after) (child_slot (v GIVEN) child) (map (child_slot (u GIVEN)) (take i kids))),
                n,
              );
          has =
              λ j b.
              ⊎_elim
              (λ (low : j < i). has_kept (u GIVEN) (v GIVEN) (get_or kids j 0) (l.has j low) slotted.goes.given)
              (λ (high : i ≤ j). let e : j ≡ i = omega arith in rw (e, ← is) (slotted.has z))
              (order j i);
          goes = goes_then t u v g h o l.goes slotted.goes;
        })

-- AS THE CODE HAS IT

module _
    (s p : List ℕ) (t : Store) (there : NodesThere s p t) (k : ℕ) (low : k < node_count t) (long : length (t NODES) ≡ size p NODES)
    (first n : ℕ) (f : first ≡ get_or (t FIRSTS) (entry_of s p t there k low) 0) (m : n ≡ get_or (t SIZES) (entry_of s p t there k low) 0) where
  are : kids_of (nodes_in s t) k ≡ cut (t CHILDREN) first n
  are = node_kids s p t there k low long first n f m

  pub kids_count : length (kids_of (nodes_in s t) k) ≡ n
  kids_count = rw are (length_from (λ i. get_or (t CHILDREN) (first + i) 0) 0 n)

  pub kids_room : first + n ≤ size p CHILDREN
  kids_room = node_kids_fit s p t there k low first n f m

  module _
      (kidsThere : KidsThere s t k) (g h : GapTable) (u : Store) (i : ℕ) (l : Slotting s k t u g h i) (more : i < n)
      (child : ℕ) (is : child ≡ get_or (u CHILDREN) (first + i) 0) where
    pub child_is : child ≡ get_or (kids_of (nodes_in s t) k) i 0
    child_is =
        is
        ∙ rw (l.goes.kept CHILDREN refl, are)
        (sym (from-get (λ i. get_or (t CHILDREN) (first + i) 0) 0 n i 0 more ∙ (let e : 0 + i ≡ i = omega arith in rw e)))

    -- what `slot_of` asks
    pub child_asks : LiveIn t g → NodesThere s p u × LiveIn u h × (child < ENTRY + node_count u)
    child_asks live = (
      there_stays s t u g h l.goes p there,
      l.goes.live live,
      rw (child_is, count_stays s t u g h l.goes) (kidsThere i (omega (arith, kids_count))),
    )

    -- what `refuse_at` asks
    pub child_tells :
        LiveIn t g → (v : Store) (o : GapTable) (r : ℕ) → Slotted s false child u v h o r → 0 < r →
        (ENTRY ≤ child) × (PLACE < size p COUNTS) × (child - ENTRY < size p NODES) × (get_or (v NODES) (child - ENTRY) 0 < size p RECORDS)
    child_tells live v o r slotted some =
        let asks = child_asks live in
        let high = slotted.node some in
        let made : child - ENTRY < node_count v = omega (arith, asks.2, count_stays s u v h o slotted.goes) in
        let tells = record_asks s p v (there_stays s u v h o slotted.goes p asks.0) (child - ENTRY) made in
        (high, tells.0, tells.1, tells.2)
