-- An entry becomes a node: an old one that is the same, or a new one behind the others. Assumes nothing.
use mathlib.Core.Bool.{Bool, true, false}
use mathlib.Core.List.{List, [], ◌∷◌, map, map-append}
use mathlib.Core.Logic.{◌⊎◌, inl, inr, ⊎_elim}
use mathlib.Core.Path.{◌≡◌, refl, sym, ap, ◌∙◌}
use Prim.Native.Nat.{ℕ, ◌+◌, ◌-◌, ◌≤◌, ◌<◌}
use native.Mathlib.Numerals.{add-one}
use native.Mathlib.Omega.{arith}
use lib.ListN.{length, get_or, set, take}
use lib.Seq.{get_or-set_same, get_or-set_other, take-suc-set}
use borrow.Author.Tests.{lt-ltb, le-ltb}
use Rattle.definition.specs.Basics.{position}
use Rattle.definition.specs.Resolving.{Node, same_node, intern}
use Rattle.facts.proofs.Lists.{equal, order}
use Rattle.laws.proofs.Resolving.Interning.{same_node-equal, intern-old, intern-new}
use Rattle.store.specs.Store.{Store, size, store, put}
use Rattle.store.specs.JobIn.{counts_in, entries_in}
use Rattle.std.specs.Prelude.{None, Some}
use Rattle.store.specs.Chains.{head_of, link_of, Sought, linked}
use Rattle.store.specs.Regions.{COUNTS, NODE-HEADS, NODE-LINKS, FIRSTS, SIZES, CHILDREN, NODES, NODE-COUNT, entries_of, Work}
use Rattle.store.proofs.Hashing.{head_lt}
use Rattle.store.proofs.Keeping.{kept_put}
use Rattle.store.proofs.Laying.{work-sizes, entries-counted}
use Rattle.store.proofs.Stores.{length-store}
use Rattle.store.proofs.Walking.{chains_more}
use Rattle.interner.specs.Nodes.{hash_at, node_at_lem, Nodes, NodesIn, node_count, EnteredIn, node_in_lem, hash_in, nodes_in, Lowers, Interned}
use Rattle.interner.proofs.Alike.{node_same}
use Rattle.interner.proofs.Finding.{entry_keyed}
use Rattle.interner.proofs.Lowering.{list_stays, nodes_stay}
use Rattle.interner.proofs.Listed.{Is, list_length, position-old, position-new}
use Rattle.interner.proofs.Reading.{node_heads, counter_there}

-- THE NODES with one more

module _ (h : ℕ) (s firsts sizes children nodes heads links : List ℕ) (n e : ℕ) (g : Nodes h s firsts sizes children nodes heads links n) (room : n ≤ length nodes) where
  abbrev list : List Node
  list = map (node_at_lem s firsts sizes children) (take n nodes)

  abbrev new : Node
  new = node_at_lem s firsts sizes children e

  abbrev at : ℕ → Node
  at i = node_at_lem s firsts sizes children (get_or nodes i 0)

  long : length list ≡ n
  long = list_length h s firsts sizes children nodes heads links n new g room

  is_old : (r : ℕ) → Sought (Is s firsts sizes children nodes new) n r → 0 < r → r - 1 ≡ position (same_node new) list
  is_old = position-old h s firsts sizes children nodes heads links n new g room

  is_new : Sought (Is s firsts sizes children nodes new) n 0 → n ≡ position (same_node new) list
  is_new = position-new h s firsts sizes children nodes heads links n new g room

  pub interned_old : (r : ℕ) → Sought (Is s firsts sizes children nodes new) n r → 0 < r → list ≡ intern new list
  interned_old r sought pos =
      sym (intern-old new list (lt-ltb (position (same_node new) list) (length list) (omega (arith, is_old r sought pos, long, sought.low))))

  -- ONE MORE

  module _ (inside : e < entries_in s) (few : n < entries_in s) (space : n < length nodes) (miss : Sought (Is s firsts sizes children nodes new) n 0) where
    pub list_more : map (node_at_lem s firsts sizes children) (take (n + 1) (set nodes n e)) ≡ intern new list
    list_more =
        rw (add-one n, take-suc-set nodes n e space)
        (map-append (node_at_lem s firsts sizes children) (take n nodes) (e ∷ [])
        ∙ sym (intern-new new list (le-ltb (position (same_node new) list) (length list) (omega (arith, is_new miss, long)))))

    entry_new : get_or (set nodes n e) n 0 ≡ e
    entry_new = get_or-set_same nodes n e 0 space

    entry_old : (i : ℕ) → i < n → get_or (set nodes n e) i 0 ≡ get_or nodes i 0
    entry_old i less = get_or-set_other nodes n i e 0 (λ z. omega arith)

    pub entries-more :
        (i : ℕ) → i < n + 1 →
        ((i < n) × (get_or (set nodes n e) i 0 ≡ get_or nodes i 0) × (i ≡ n → get_or nodes i 0 ≤ e))
        ⊎ ((i ≡ n) × (get_or (set nodes n e) i 0 ≡ e) × (i < n → e < get_or nodes i 0))
    entries-more i less =
        ⊎_elim
        (λ (l : i < n). inl (l, entry_old i l, λ z. absurd (omega arith)))
        (λ (l : n ≤ i). let z : i ≡ n = omega arith in inr (z, rw z entry_new, λ b. absurd (omega arith)))
        (order i n)

    -- the new one is none of the old
    new_unlike : (i : ℕ) → i < n → same_node (at i) new ≡ false
    new_unlike i less = ways (same_node (at i) new) refl
      where
        ways : (b : Bool) → same_node (at i) new ≡ b → b ≡ false
        ways true q = absurd (miss.miss refl i less (rw (same_node-equal (at i) new q) (node_same new)))
        ways false q = refl

    module _ (head : ℕ) (is : head ≡ head_of h (hash_at s firsts sizes children e)) (there : head < length heads) (link : n < length links) where
      pub nodes_more : Nodes h s firsts sizes children (set nodes n e) (set heads head (n + 1)) (set links n (get_or heads head 0)) (n + 1)
      nodes_more =
          record {
            few = omega arith;
            inside = λ i less. ⊎_elim (λ l. rw l.1 (g.inside i l.0)) (λ l. rw l.1 inside) (entries-more i less);
            chains =
                chains_more
                (λ i. head_of h (hash_at s firsts sizes children (get_or nodes i 0)))
                (λ i. head_of h (hash_at s firsts sizes children (get_or (set nodes n e) i 0)))
                heads
                links
                n
                head
                g.chains
                (ap (λ x. head_of h (hash_at s firsts sizes children x)) entry_new ∙ sym is)
                (λ i less. ap (λ x. head_of h (hash_at s firsts sizes children x)) (entry_old i less))
                there
                link;
            unlike =
                λ i j less below.
                ⊎_elim
                (λ (l : j < n). rw (entry_old i (omega arith), entry_old j l) (g.unlike i j less l))
                (λ (l : n ≤ j).
                let z : j ≡ n = omega arith in
                rw (z, entry_new, entry_old i (omega arith)) (new_unlike i (omega arith)))
                (order j n);
          }

-- INTERNED, over the store

module _ (h : ℕ) (s : List ℕ) (t : Store) (e : ℕ) (g : NodesIn h s t) (room : entries_in s ≤ length (t NODES)) where
  fits : node_count t ≤ length (t NODES)
  fits = omega (arith, g.few)

  -- AN OLD ONE, kept as its entry or as e
  module _ (r : ℕ) (sought : Sought (Is s (t FIRSTS) (t SIZES) (t CHILDREN) (t NODES) (node_in_lem s t e)) (node_count t) r) (pos : 0 < r) where
    is_node_lem : r - 1 ≡ position (same_node (node_in_lem s t e)) (nodes_in s t)
    is_node_lem = position-old h s (t FIRSTS) (t SIZES) (t CHILDREN) (t NODES) (t NODE-HEADS) (t NODE-LINKS) (node_count t) (node_in_lem s t e) g fits r sought pos

    is_list : nodes_in s t ≡ intern (node_in_lem s t e) (nodes_in s t)
    is_list = interned_old h s (t FIRSTS) (t SIZES) (t CHILDREN) (t NODES) (t NODE-HEADS) (t NODE-LINKS) (node_count t) e g fits r sought pos

    low-node : r - 1 < node_count t
    low-node = omega (arith, sought.low)

    became-old : get_or (t NODES) (r - 1) 0 ≤ e → Interned h s t t e (r - 1)
    became-old below =
        record {
          node = is_node_lem;
          nodes = is_list;
          again = g;
          low = low-node;
          count = omega arith;
          made = λ i less. inl (less, refl, λ z. rw z below);
          counters = λ c other. refl;
          kept = λ k other. refl;
        }

    module _ (all : EnteredIn s t) (inside : e < entries_in s) where
      same : node_in_lem s t e ≡ node_in_lem s t (get_or (t NODES) (r - 1) 0)
      same = same_node-equal (node_in_lem s t e) (node_in_lem s t (get_or (t NODES) (r - 1) 0)) (sought.hit pos)

      hash : hash_in s t e ≡ hash_in s t (get_or (t NODES) (r - 1) 0)
      hash = sym (entry_keyed h s t e all inside g (r - 1) low-node (sought.hit pos))

      became-lower : e < get_or (t NODES) (r - 1) 0 → Interned h s t (put t NODES (r - 1) e) e (r - 1)
      became-lower below =
          record {
            node = is_node_lem;
            nodes = list_stays h s (t FIRSTS) (t SIZES) (t CHILDREN) (t NODES) (t NODE-HEADS) (t NODE-LINKS) (node_count t) (r - 1) e g fits low-node inside same hash ∙ is_list;
            again = nodes_stay h s (t FIRSTS) (t SIZES) (t CHILDREN) (t NODES) (t NODE-HEADS) (t NODE-LINKS) (node_count t) (r - 1) e g fits low-node inside same hash;
            low = low-node;
            count = omega arith;
            made =
                λ i less.
                ⊎_elim
                (λ (z : i ≡ r - 1). inr (z, rw z (get_or-set_same (t NODES) (r - 1) e 0 (omega (arith, low-node, fits))), λ _. rw z below))
                (λ (z : i ≡ r - 1 → ⊥). inl (less, get_or-set_other (t NODES) (r - 1) i e 0 z, λ q. absurd (z q)))
                (equal i (r - 1));
            counters = λ c other. refl;
            kept = kept_put (COUNTS ∷ NODE-HEADS ∷ NODE-LINKS ∷ NODES ∷ []) t t NODES _ _ refl (λ k other. refl);
          }

      pub became-one : (u : Store) → Lowers t u (r - 1) e → Interned h s t u e (r - 1)
      became-one u (inl (q, below)) = rw q (became-lower below)
      became-one u (inr (q, below)) = rw q (became-old below)

  module _
      (p : List ℕ) (heads : h ≡ size p NODE-HEADS) (two : 1 < h) (all : length (t NODE-HEADS) ≡ h) (links : entries_in s ≤ length (t NODE-LINKS))
      (counter : NODE-COUNT < length (t COUNTS)) (inside : e < entries_in s) (few : node_count t < entries_in s)
      (miss : Sought (Is s (t FIRSTS) (t SIZES) (t CHILDREN) (t NODES) (node_in_lem s t e)) (node_count t) 0) where
    abbrev after : Store
    after = linked (put (put t COUNTS NODE-COUNT (node_count t + 1)) NODES (node_count t) e) p NODE-HEADS (hash_in s t e) (node_count t)

    counted : node_count after ≡ node_count t + 1
    counted = get_or-set_same (t COUNTS) NODE-COUNT (node_count t + 1) 0 counter

    again : NodesIn h s after
    again =
        rw (counted, ← heads)
        (nodes_more h s (t FIRSTS) (t SIZES) (t CHILDREN) (t NODES) (t NODE-HEADS) (t NODE-LINKS) (node_count t) e g fits inside few (omega arith) miss
        (head_of h (hash_in s t e))
        refl
        (omega (arith, head_lt h (hash_in s t e) two))
        (omega arith))

    became-after : Interned h s t after e (node_count t)
    became-after =
        record {
          node = position-new h s (t FIRSTS) (t SIZES) (t CHILDREN) (t NODES) (t NODE-HEADS) (t NODE-LINKS) (node_count t) (node_in_lem s t e) g fits miss;
          nodes =
              rw counted
              (list_more h s (t FIRSTS) (t SIZES) (t CHILDREN) (t NODES) (t NODE-HEADS) (t NODE-LINKS) (node_count t) e g fits inside few (omega arith) miss);
          again = again;
          low = omega (arith, counted);
          count = omega (arith, counted);
          made =
              λ i less.
              entries-more h s (t FIRSTS) (t SIZES) (t CHILDREN) (t NODES) (t NODE-HEADS) (t NODE-LINKS) (node_count t) e g fits inside few (omega arith) miss
              i
              (omega (arith, counted));
          counters = λ c other. get_or-set_other (t COUNTS) NODE-COUNT c (node_count t + 1) 0 other;
          kept =
              kept_put written t _ NODE-HEADS _ _ refl
              (kept_put written t _ NODE-LINKS _ _ refl
              (kept_put written t _ NODES _ _ refl
              (kept_put written t t COUNTS _ _ refl (λ k other. refl))));
        }
      where
        written : List ℕ
        written = COUNTS ∷ NODE-HEADS ∷ NODE-LINKS ∷ NODES ∷ []

    -- as the code has it
    pub became-new :
        (hash k : ℕ) → hash ≡ hash_in s t e → k ≡ node_count t →
        Interned h s t (linked (put (put t COUNTS NODE-COUNT (k + 1)) NODES k e) p NODE-HEADS hash k) e k
    became-new hash k q z = rw (q, z) became-after

-- IN THE WORK of a job

module _ (s p w : List ℕ) (e : ℕ) (work : Work s p) (g : NodesIn (size p NODE-HEADS) s (store p w)) where
  -- what the search for the node looks for
  abbrev pub Wanted : ℕ → Type 0
  Wanted i = same_node (node_in_lem s (store p w) e) (node_in_lem s (store p w) (get_or (store p w NODES) i 0)) ≡ true

  -- a region of entries has room for all
  wide : (k : ℕ) → size p k ≡ entries_of (counts_in s) → entries_in s ≤ length (store p w k)
  wide k q = omega (arith, length-store p w k, entries-counted s)

  module _ (k : ℕ) (sought : Sought Wanted (node_count (store p w)) (link_of (Some k))) where
    pub found_low : k < entries_in s
    found_low = omega (arith, sought.low, g.few)

    pub interned_found : EnteredIn s (store p w) → e < entries_in s → (u : Store) → Lowers (store p w) u k e → Interned (size p NODE-HEADS) s (store p w) u e k
    interned_found all inside u =
        let z : k + 1 - 1 ≡ k = omega arith in
        rw z at (became-one (size p NODE-HEADS) s (store p w) e g (wide NODES (work-sizes s p work).nodes) (k + 1) sought (omega arith) all inside u)

  pub interned_made :
      Sought Wanted (node_count (store p w)) (link_of None) → e < entries_in s → node_count (store p w) < entries_in s → (hash k : ℕ) →
      hash ≡ hash_in s (store p w) e → k ≡ node_count (store p w) →
      Interned (size p NODE-HEADS) s (store p w) (linked (put (put (store p w) COUNTS NODE-COUNT (k + 1)) NODES k e) p NODE-HEADS hash k) e k
  interned_made sought inside few =
      became-new (size p NODE-HEADS) s (store p w) e g (wide NODES (work-sizes s p work).nodes) p refl
      (node_heads s p work).two
      (length-store p w NODE-HEADS)
      (wide NODE-LINKS (work-sizes s p work).node_links)
      (omega (arith, length-store p w COUNTS, counter_there s p work))
      inside
      few
      sought
