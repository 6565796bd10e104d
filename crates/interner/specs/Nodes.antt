-- Nodes in the regions: a node is kept as the lowest of the entries that it was made from, whose children stand in CHILDREN. Assumes nothing.
use Rattle.std.specs.Prelude.{false, List, [], ◌∷◌, map, ◌⊎◌, ◌≡◌, ℕ, ◌+◌, ◌*◌, ◌≤◌, ◌<◌, length, get_or, take}
use Rattle.std.proofs.Math.Option.{none, some}
use Rattle.std.proofs.Math.ListN.{get_elem?}
use Rattle.definition.specs.Basics.{position}
use Rattle.definition.specs.Shapes.{Entry, with_kids}
use Rattle.definition.specs.Resolving.{Node, same_node, intern}
use Rattle.store.specs.Store.{Store, put, Kept}
use Rattle.store.specs.Chains.{mixed, head_of, Chains}
use Rattle.store.specs.JobIn.{table_in, entries_in, numbered_in}
use Rattle.store.specs.Regions.{COUNTS, NODE-HEADS, NODE-LINKS, OFFSETS, FIRSTS, SIZES, CHILDREN, NODES, RECORDS, VALUES, NODE-COUNT}
use Rattle.store.specs.Words.{cut}
use Rattle.store.specs.Entries.{Entered}

-- HASHES: any function of what is compared will do

-- bytes into a hash, four at a time, then one at a time
unfoldable pub hash_rest : ℕ → List ℕ → ℕ
hash_rest hash [] = hash
hash_rest hash (a ∷ []) = mixed hash a
hash_rest hash (a ∷ b ∷ []) = mixed (mixed hash a) b
hash_rest hash (a ∷ b ∷ c ∷ []) = mixed (mixed (mixed hash a) b) c
hash_rest hash (a ∷ b ∷ c ∷ d ∷ rest) = hash_rest (mixed hash (65536 * (256 * a + b) + (256 * c + d))) rest

unfoldable pub hash_bytes : ℕ → List ℕ → ℕ
hash_bytes seed bytes = hash_rest (mixed seed (length bytes)) bytes

unfoldable pub hash_words : ℕ → List ℕ → ℕ
hash_words hash [] = hash
hash_words hash (x ∷ words) = hash_words (mixed hash x) words

-- an entry with these children
unfoldable pub hash_node : {R : Type 0} → Entry (List ℕ) R → List ℕ → ℕ
hash_node x [] = hash_bytes x.tag x.literal
hash_node x (kid ∷ kids) = hash_words (x.tag * 256 + x.byte) (kid ∷ kids)

-- ENTRIES with their children, as they stand in the regions

unfoldable pub hash_at : List ℕ → List ℕ → List ℕ → List ℕ → ℕ → ℕ
hash_at s firsts sizes children e =
    elim (get_elem? (table_in s) e) [ none ↦ 0 | some x ↦ hash_node x (cut children (get_or firsts e 0) (get_or sizes e 0)) ]

unfoldable pub node_at_lem : List ℕ → List ℕ → List ℕ → List ℕ → ℕ → Node
node_at_lem s firsts sizes children e =
    elim (get_elem? (numbered_in s) e) [
      | none ↦ record { tag = 0; literal = 0; byte = 0; kids = [] }
      | some x ↦ with_kids (cut children (get_or firsts e 0) (get_or sizes e 0)) x
    ]

-- NODES: the first n of a region of entries stand in their chains, over h heads, and no two are the same
pub record Nodes (h : ℕ) (s firsts sizes children nodes heads links : List ℕ) (n : ℕ) : Type 0 where
  pub few : n ≤ entries_in s
  pub inside : (i : ℕ) → i < n → get_or nodes i 0 < entries_in s
  pub chains : Chains (λ i. head_of h (hash_at s firsts sizes children (get_or nodes i 0))) heads links n
  pub unlike :
      (i j : ℕ) → i < j → j < n →
      same_node (node_at_lem s firsts sizes children (get_or nodes i 0)) (node_at_lem s firsts sizes children (get_or nodes j 0)) ≡ false

abbrev pub node_count : Store → ℕ
node_count t = get_or (t COUNTS) NODE-COUNT 0

abbrev pub NodesIn : ℕ → List ℕ → Store → Type 0
NodesIn h s t = Nodes h s (t FIRSTS) (t SIZES) (t CHILDREN) (t NODES) (t NODE-HEADS) (t NODE-LINKS) (node_count t)

-- all entries are there
abbrev pub EnteredIn : List ℕ → Store → Type 0
EnteredIn s t = Entered s (t OFFSETS) (t FIRSTS) (t SIZES) (t VALUES)

-- the node that an entry would be, its hash, and all nodes
abbrev pub node_in_lem : List ℕ → Store → ℕ → Node
node_in_lem s t e = node_at_lem s (t FIRSTS) (t SIZES) (t CHILDREN) e

abbrev pub hash_in : List ℕ → Store → ℕ → ℕ
hash_in s t e = hash_at s (t FIRSTS) (t SIZES) (t CHILDREN) e

abbrev pub nodes_in : List ℕ → Store → List Node
nodes_in s t = map (node_in_lem s t) (take (node_count t) (t NODES))

-- the record that a node carries (document 02, No. 9)
abbrev pub record_in : Store → ℕ → ℕ
record_in t k = get_or (t RECORDS) (get_or (t NODES) k 0) 0

-- node k is kept as the lower one of its entry and e: t before, u after
abbrev pub Lowers : Store → Store → ℕ → ℕ → Type 0
Lowers t u k e = ((u ≡ put t NODES k e) × (e < get_or (t NODES) k 0)) ⊎ ((u ≡ t) × (get_or (t NODES) k 0 ≤ e))

-- entry e became node r: t before, u after
pub record Interned (h : ℕ) (s : List ℕ) (t u : Store) (e r : ℕ) : Type 0 where
  pub node : r ≡ position (same_node (node_in_lem s t e)) (nodes_in s t)
  pub nodes : nodes_in s u ≡ intern (node_in_lem s t e) (nodes_in s t)
  pub again : NodesIn h s u
  pub low : r < node_count u
  pub count : node_count u ≤ node_count t + 1
  -- a node is an old one with its entry, not above e if it is r; or it is r with e, below its entry if it is an old one
  pub made :
      (i : ℕ) → i < node_count u →
      ((i < node_count t) × (get_or (u NODES) i 0 ≡ get_or (t NODES) i 0) × (i ≡ r → get_or (t NODES) i 0 ≤ e))
      ⊎ ((i ≡ r) × (get_or (u NODES) i 0 ≡ e) × (i < node_count t → e < get_or (t NODES) i 0))
  pub counters : (c : ℕ) → (c ≡ NODE-COUNT → ⊥) → get_or (u COUNTS) c 0 ≡ get_or (t COUNTS) c 0
  pub kept : Kept (COUNTS ∷ NODE-HEADS ∷ NODE-LINKS ∷ NODES ∷ []) t u
