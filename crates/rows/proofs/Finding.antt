-- A walk along a chain of inline rows finds the row of a node. Assumes nothing.
use Rattle.std.specs.Prelude.{None, Some}
use mathlib.Core.Bool.{Bool, true, false}
use mathlib.Core.List.{List}
use mathlib.Core.Path.{◌≡◌, sym, ap, ◌∙◌}
use Prim.Native.Nat.{ℕ, ◌+◌, ◌-◌, ◌≤◌, ◌<◌}
use native.Mathlib.Omega.{arith}
use lib.ListN.{length, get_or}
use Rattle.definition.specs.Basics.{same}
use Rattle.facts.proofs.Lists.{same_true, same_refl}
use Rattle.interner.specs.Nodes.{node_count}
use Rattle.store.specs.Store.{Store, size}
use Rattle.store.specs.Chains.{head_of, link_of, Sought}
use Rattle.store.specs.Regions.{INDEXES, ROW-HEADS, ROW-LINKS, INLINE}
use Rattle.store.proofs.Hashing.{head_lt}
use Rattle.store.proofs.Walking.{both, Down, walk_start, walk_on}
use Rattle.rows.specs.Rowed.{hash_row, row_in, inline_count, RowWordsIn}
use Rattle.rows.proofs.Listing.{few_room}

-- inline item i has the row of node k
abbrev pub Is : Store → ℕ → ℕ → Type 0
Is t k i = row_in t (get_or (t INLINE) i 0) ≡ row_in t k

-- the walk for it, at a link
abbrev pub Looking : List ℕ → Store → ℕ → ℕ → Type 0
Looking p t k link =
    Down
    (λ i. head_of (size p ROW-HEADS) (hash_row (row_in t (get_or (t INLINE) i 0))))
    (Is t k)
    (head_of (size p ROW-HEADS) (hash_row (row_in t k)))
    (inline_count t)
    link

module _ (p : List ℕ) (t : Store) (k : ℕ) (g : RowWordsIn p t) where
  keyed : (i : ℕ) → Is t k i → head_of (size p ROW-HEADS) (hash_row (row_in t (get_or (t INLINE) i 0))) ≡ head_of (size p ROW-HEADS) (hash_row (row_in t k))
  keyed i is = ap (λ row. head_of (size p ROW-HEADS) (hash_row row)) is

  pub looking_start :
      (hash link : ℕ) → length (t ROW-HEADS) ≡ size p ROW-HEADS → 1 < size p ROW-HEADS → hash ≡ hash_row (row_in t k) →
      link ≡ get_or (t ROW-HEADS) (head_of (size p ROW-HEADS) hash) 0 → Looking p t k link
  looking_start hash link long two q first =
      rw (first, q)
      (walk_start
      (λ i. head_of (size p ROW-HEADS) (hash_row (row_in t (get_or (t INLINE) i 0))))
      (t ROW-HEADS)
      (t ROW-LINKS)
      (inline_count t)
      (head_of (size p ROW-HEADS) (hash_row (row_in t k)))
      (Is t k)
      g.inlined.chains
      keyed
      (omega (arith, head_lt (size p ROW-HEADS) (hash_row (row_in t k)) two)))

  module _ (link i : ℕ) (here : (1 ≤ link) × (i ≡ link - 1)) (d : Looking p t k link) where
    -- the item to look at is there
    pub looking_low : length (t INDEXES) ≡ size p INDEXES → i < size p INDEXES
    looking_low long = omega (arith, d.below, here.0, here.1, few_room (t INDEXES) (inline_count t) g.inlined.few)

    module _ (x : ℕ) (is : x ≡ get_or (t INLINE) i 0) where
      -- and so is its node
      pub looking_node : x < node_count t
      looking_node = rw is (g.inlined.nodes i (omega (arith, d.below, here.0, here.1))).made

      module _ (r : Bool) (told : r ≡ same (row_in t k) (row_in t x)) where
        pub looking_hit : r ≡ true → Sought (Is t k) (inline_count t) link
        looking_hit hit =
            record {
              low = d.below;
              hit = λ _. rw here.1 at (rw is at (sym (same_true (row_in t k) (row_in t x) (sym told ∙ hit))));
              miss = λ end. absurd (omega (arith, here.0));
            }

        -- the item is told
        pub looking-found : r ≡ true → Sought (Is t k) (inline_count t) (link_of (Some i))
        looking-found hit = let again : i + 1 ≡ link = omega (arith, here.0, here.1) in rw again (looking_hit hit)

        module _ (miss : r ≡ false) where
          not-here : Is t k i → ⊥
          not-here e = let q : row_in t x ≡ row_in t k = rw is e in both (same-again q) (sym told ∙ miss)
            where
              same-again : row_in t x ≡ row_in t k → same (row_in t k) (row_in t x) ≡ true
              same-again q = rw q (same_refl (row_in t k))

          next : Looking p t k (get_or (t ROW-LINKS) i 0) × (get_or (t ROW-LINKS) i 0 < link)
          next =
              rw here.1
              (walk_on
              (λ i. head_of (size p ROW-HEADS) (hash_row (row_in t (get_or (t INLINE) i 0))))
              (t ROW-HEADS)
              (t ROW-LINKS)
              (inline_count t)
              (head_of (size p ROW-HEADS) (hash_row (row_in t k)))
              (Is t k)
              g.inlined.chains
              keyed
              link
              here.0
              d
              (λ hit. not-here (rw here.1 hit)))

          pub looking_on : (new : ℕ) → new ≡ get_or (t ROW-LINKS) i 0 → Looking p t k new
          looking_on new q = rw q next.0

          pub looking_less : (new : ℕ) → new ≡ get_or (t ROW-LINKS) i 0 → new < link
          looking_less new q = rw q next.1

  pub looking_miss : (link : ℕ) → link ≤ 0 → Looking p t k link → Sought (Is t k) (inline_count t) (link_of None)
  looking_miss link end d =
      record { low = omega arith; hit = λ more. absurd (omega arith); miss = λ _ i less is. d.past i (omega arith) less is }
