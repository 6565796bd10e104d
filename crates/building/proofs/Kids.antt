-- A node's children and row, as the words have them, and slots for all of them. Assumes nothing.
use mathlib.Core.Bool.{Bool, false}
use mathlib.Core.List.{List, [], ◌∷◌, map}
use mathlib.Core.Logic.{inl, inr}
use mathlib.Core.Path.{◌≡◌, refl, sym, ap, ◌∙◌}
use Prim.Native.Nat.{ℕ, suc, ◌+◌, ◌-◌, ◌<◌}
use native.Mathlib.Omega.{arith}
use lib.ListN.{length, get_or, take, length-map, length-take}
use borrow.Author.Tests.{lt-ltb, le-ltb}
use Rattle.definition.specs.Basics.{good, at_record}
use Rattle.definition.specs.Resolving.{Node}
use Rattle.definition.specs.Building.{Pool, slot_of, slots_of, kids_of}
use Rattle.facts.proofs.Chunks.{length_from, from-get}
use Rattle.facts.proofs.Lists.{found_inside, found_read}
use Rattle.laws.proofs.Resolving.NodesAndChildren.{InNodes}
use Rattle.laws.proofs.Slots.SlotRequest.{allocate-old}
use Rattle.laws.proofs.Building.ChildNumbers.{slot_of-raw, slot_of-node}
use Rattle.slots.specs.Gaps.{GapTable}
use Rattle.store.specs.Store.{Store, size}
use Rattle.store.specs.Regions.{GIVEN, FIRSTS, SIZES, CHILDREN, NODES, Work}
use Rattle.store.specs.Words.{ENTRY, cut, child_slot}
use Rattle.store.proofs.Laying.{work-sizes, entries-counted}
use Rattle.interner.specs.Nodes.{node_in_lem, node_count, nodes_in}
use Rattle.rows.specs.Rowed.{row_at, row_in, KidsIn}
use Rattle.rows.proofs.Readying.{kids_ready}
use Rattle.pool.specs.Pooled.{Has, PooledIn, LiveIn, Slotted, SlottedAll}
use Rattle.pool.proofs.Words.{child_raw, child_node, word_some}
use Rattle.pool.proofs.Nodal.{node_kids}
use Rattle.pool.proofs.Children.{count_stays}
use Rattle.building.specs.Numbers.{KidsSlotted}
use Rattle.building.specs.Working.{NodeSlotted, Standing, Stacked}
use Rattle.building.proofs.Paying.{slot_of-paid, slots_of-paid, stacked, some_pool, some-pooled}
use Rattle.building.proofs.Lasting.{there_now}

-- CHILDREN THAT HAVE SLOTS: asking again changes nothing

module _ (nodes : List Node) (pool : Pool) (t : Store) (g : GapTable) (q : PooledIn pool t g) where
  slot_of-had : (ldc : Bool) (c : ℕ) → Has (t GIVEN) c → slot_of nodes ldc c pool ≡ good (child_slot (t GIVEN) c, pool)
  slot_of-had ldc c (inl h) = slot_of-raw nodes ldc c pool (lt-ltb c ENTRY h) ∙ ap (λ (x : ℕ). good (x, pool)) (sym (child_raw (t GIVEN) c h))
  slot_of-had ldc c (inr (h, l)) =
      slot_of-node nodes ldc c pool (le-ltb c ENTRY h)
      ∙ allocate-old nodes ldc (c - ENTRY) (get_or (t GIVEN) (c - ENTRY) 0) pool (q.given (c - ENTRY) ∙ word_some (get_or (t GIVEN) (c - ENTRY) 0) l)
      ∙ ap (λ (x : ℕ). good (x, pool)) (sym (child_node (t GIVEN) c h))

  pub slots_of-had :
      (cs : List ℕ) → ((i : ℕ) → i < length cs → Has (t GIVEN) (get_or cs i 0)) → slots_of nodes cs pool ≡ good (map (child_slot (t GIVEN)) cs, pool)
  unfolding slots_of at_record
  slots_of-had [] h = refl
  slots_of-had (c ∷ cs) h =
      let a = slot_of-had false c (h 0 (omega arith)) in
      let b = slots_of-had cs (λ i l. h (suc i) (omega arith)) in
      rw (a, b)

-- THE WORDS OF A NODE

module _ (s p : List ℕ) (t : Store) (work : Work s p) (standing : Standing s p t) (long : length (t NODES) ≡ size p NODES) where
  pub nodes_many : length (nodes_in s t) ≡ node_count t
  nodes_many =
      length-map (take (node_count t) (t NODES)) (node_in_lem s t)
      ∙ omega (arith, length-take (node_count t) (t NODES), standing.nodes.few, (work-sizes s p work).nodes, entries-counted s)

  module _ (k : ℕ) (low : k < node_count t) where
    abbrev first : ℕ
    first = get_or (t FIRSTS) (get_or (t NODES) k 0) 0

    abbrev n : ℕ
    n = get_or (t SIZES) (get_or (t NODES) k 0) 0

    are : kids_of (nodes_in s t) k ≡ cut (t CHILDREN) first n
    are = node_kids s p t (there_now s p t work standing) k low long first n refl refl

    pub kids_many : length (kids_of (nodes_in s t) k) ≡ n
    kids_many = rw are (length_from (λ i. get_or (t CHILDREN) (first + i) 0) 0 n)

    pub kid_at : (i : ℕ) → i < n → get_or (kids_of (nodes_in s t) k) i 0 ≡ get_or (t CHILDREN) (first + i) 0
    kid_at i l = rw are (from-get (λ i. get_or (t CHILDREN) (first + i) 0) 0 n i 0 l ∙ (let e : 0 + i ≡ i = omega arith in rw e))

    pub row_kids : row_in t k ≡ map (child_slot (t GIVEN)) (kids_of (nodes_in s t) k)
    unfolding row_at
    row_kids = rw are

    pub slotted_kids : NodeSlotted t k → KidsSlotted s t k
    slotted_kids h i l = let m : i < n = omega (arith, kids_many) in rw (kid_at i m) (h i m)

    pub kids_slotted : KidsSlotted s t k → NodeSlotted t k
    kids_slotted h i l = rw (← kid_at i l) (h i (omega (arith, kids_many)))

    pub kids_inside : InNodes (nodes_in s t) (kids_of (nodes_in s t) k)
    kids_inside c (i, e) high =
        let there = standing.kids k low i (found_inside (kids_of (nodes_in s t) k) i c e) in
        omega (arith, found_read (kids_of (nodes_in s t) k) i c 0 e, nodes_many)

  -- what the rows ask
  pub kids_now : KidsIn p t
  kids_now =
      kids_ready s p t _ work standing.entered standing.nodes
      (λ k i l m. rw (← kid_at k l i m) (standing.kids k l i (omega (arith, kids_many k l))))

  -- NODES THAT GET SLOTS are on the stack

  module _ (u : Store) (g h : GapTable) (live : LiveIn t g) where
    pub slotted_stacks : (c : ℕ) → c < ENTRY + node_count t → (ldc : Bool) (r : ℕ) → Slotted s ldc c t u g h r → r ≡ 0 → Stacked t u
    slotted_stacks c low ldc r x z =
        let (after, e, q) = x.met (some_pool t g) (some-pooled t g) z in
        stacked (nodes_in s t) t u g h (some_pool t g) after (some-pooled t g) q
        (slot_of-paid (nodes_in s t) ldc c (some_pool t g) (child_slot (u GIVEN) c, after) (λ high. omega (arith, nodes_many)) e)
        nodes_many
        (count_stays s t u g h x.goes)
        (omega (arith, live.room))
        (omega (arith, (x.goes.live live).room))

    pub all_slotted_stacks : (k : ℕ) → k < node_count t → (r : ℕ) → SlottedAll s k t u g h r → r ≡ 0 → Stacked t u
    all_slotted_stacks k low r x z =
        let (after, e, q) = x.met (some_pool t g) (some-pooled t g) z in
        stacked (nodes_in s t) t u g h (some_pool t g) after (some-pooled t g) q
        (slots_of-paid (nodes_in s t) (kids_of (nodes_in s t) k) (some_pool t g) (map (child_slot (u GIVEN)) (kids_of (nodes_in s t) k), after) (kids_inside k low) e)
        nodes_many
        (count_stays s t u g h (x.goes z))
        (omega (arith, live.room))
        (omega (arith, ((x.goes z).live live).room))
