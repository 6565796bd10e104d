-- A walk along a chain of nodes finds the one that is sought, as that which an entry would be. Assumes nothing.
use mathlib.Core.Bool.{Bool, true, false}
use mathlib.Core.List.{List}
use mathlib.Core.Path.{◌≡◌, sym, ap, ◌∙◌}
use Prim.Native.Nat.{ℕ, ◌+◌, ◌-◌, ◌≤◌, ◌<◌}
use native.Mathlib.Omega.{arith}
use lib.ListN.{length, get_or}
use Rattle.definition.specs.Resolving.{Node, same_node}
use Rattle.store.specs.Store.{Store}
use Rattle.store.specs.JobIn.{entries_in}
use Rattle.std.specs.Prelude.{None, Some}
use Rattle.store.specs.Chains.{head_of, link_of, Sought}
use Rattle.store.specs.Regions.{NODE-HEADS, NODE-LINKS, OFFSETS, FIRSTS, SIZES, CHILDREN, NODES}
use Rattle.store.proofs.Hashing.{head_lt}
use Rattle.store.proofs.Walking.{both, Down, walk_start, walk_on}
use Rattle.interner.specs.Nodes.{node_in_lem, hash_in, node_count, EnteredIn, NodesIn}
use Rattle.interner.proofs.Shaped.{known}
use Rattle.interner.proofs.Alike.{one-hash}

-- node i is the one sought
abbrev pub Is : List ℕ → Store → Node → ℕ → Type 0
Is s t new i = same_node new (node_in_lem s t (get_or (t NODES) i 0)) ≡ true

-- and it is one of those in the chains
abbrev IsOne : List ℕ → Store → Node → ℕ → Type 0
IsOne s t new i = (i < node_count t) × Is s t new i

-- whatever is the same as the node sought has this hash
abbrev pub Keyed : List ℕ → Store → Node → ℕ → Type 0
Keyed s t new hash = (i : ℕ) → i < node_count t → Is s t new i → hash_in s t (get_or (t NODES) i 0) ≡ hash

-- the walk for it, at a link
abbrev pub Looking : ℕ → List ℕ → Store → Node → ℕ → ℕ → Type 0
Looking h s t new hash link = Down (λ i. head_of h (hash_in s t (get_or (t NODES) i 0))) (IsOne s t new) (head_of h hash) (node_count t) link

-- what an entry would be has its hash
pub entry_keyed :
    (h : ℕ) (s : List ℕ) (t : Store) (e : ℕ) → EnteredIn s t → e < entries_in s → NodesIn h s t → Keyed s t (node_in_lem s t e) (hash_in s t e)
entry_keyed h s t e all low g i less is =
    let x = get_or (t NODES) i 0 in
    sym
    (one-hash s (t OFFSETS) (t FIRSTS) (t SIZES) (t CHILDREN) e x
    (known s (t OFFSETS) (t FIRSTS) (t SIZES) e all low)
    (known s (t OFFSETS) (t FIRSTS) (t SIZES) x all (g.inside i less))
    is)

module _ (h : ℕ) (s : List ℕ) (t : Store) (new : Node) (hash : ℕ) (g : NodesIn h s t) (hashed : Keyed s t new hash) where
  keyed : (i : ℕ) → IsOne s t new i → head_of h (hash_in s t (get_or (t NODES) i 0)) ≡ head_of h hash
  keyed i is = ap (head_of h) (hashed i is.0 is.1)

  pub looking_start :
      (key link : ℕ) → length (t NODE-HEADS) ≡ h → 1 < h → key ≡ hash → link ≡ get_or (t NODE-HEADS) (head_of h key) 0 → Looking h s t new hash link
  looking_start key link long two q first =
      rw (first, q)
      (walk_start
      (λ i. head_of h (hash_in s t (get_or (t NODES) i 0)))
      (t NODE-HEADS)
      (t NODE-LINKS)
      (node_count t)
      (head_of h hash)
      (IsOne s t new)
      g.chains
      keyed
      (omega (arith, head_lt h hash two)))

  module _ (link k : ℕ) (here : (1 ≤ link) × (k ≡ link - 1)) (d : Looking h s t new hash link) where
    -- the node to look at is there
    pub looking_low : k < entries_in s
    looking_low = omega (arith, d.below, g.few)

    module _ (x : ℕ) (is : x ≡ get_or (t NODES) k 0) where
      -- and so is its entry
      pub looking_inside : x < entries_in s
      looking_inside = rw is (g.inside k (omega (arith, d.below)))

      module _ (r : Bool) (told : r ≡ same_node new (node_in_lem s t x)) where
        pub looking_hit : r ≡ true → Sought (Is s t new) (node_count t) (link_of (Some k))
        looking_hit hit =
            let e : k + 1 - 1 ≡ k = omega arith in
            record { low = omega (arith, d.below); hit = λ _. rw e (rw is at (sym told ∙ hit)); miss = λ end. absurd (omega arith) }

        module _ (miss : r ≡ false) where
          next : Looking h s t new hash (get_or (t NODE-LINKS) k 0) × (get_or (t NODE-LINKS) k 0 < link)
          next =
              rw here.1
              (walk_on
              (λ i. head_of h (hash_in s t (get_or (t NODES) i 0)))
              (t NODE-HEADS)
              (t NODE-LINKS)
              (node_count t)
              (head_of h hash)
              (IsOne s t new)
              g.chains
              keyed
              link
              here.0
              d
              (λ hit. both hit.1 (rw (is, here.1) at (sym told ∙ miss))))

          pub looking_on : (after : ℕ) → after ≡ get_or (t NODE-LINKS) k 0 → Looking h s t new hash after
          looking_on after q = rw q next.0

          pub looking_less : (after : ℕ) → after ≡ get_or (t NODE-LINKS) k 0 → after < link
          looking_less after q = rw q next.1

  pub looking_miss : (link : ℕ) → link ≤ 0 → Looking h s t new hash link → Sought (Is s t new) (node_count t) (link_of None)
  looking_miss link end d =
      record { low = omega arith; hit = λ more. absurd (omega arith); miss = λ _ i less is. d.past i (omega arith) less (less, is) }
