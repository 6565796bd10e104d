-- The pool as it stands in the regions and the gap table: slots given to nodes, the building stack, the gaps and the positions.
-- Assumes nothing.
use Rattle.std.specs.Prelude.{Bool, true, false, List, [], ◌∷◌, map, reverse, ◌⊎◌, ◌≡◌, ℕ, zero, suc, ◌+◌, ◌-◌, ◌≤◌, ◌<◌, length, get_or, take, IfNone, IfSome}
use Rattle.std.specs.Prelude as std
use Rattle.std.proofs.Math.Option.{Option, none, some}
use Rattle.definition.specs.Basics.{Result, good, bad, Refusal, lookup}
use Rattle.definition.specs.Slots.{highest_slot, Gap, Slots, slot_for}
use Rattle.definition.specs.Building.{Pool, slot_of, origin_of, mark_of, slots_of, kids_of}
use Rattle.laws.specs.Gaps.{Apart}
use Rattle.slots.specs.declared.Positions.{Positions}
use Rattle.slots.specs.Gaps.{GapTable, gaps_at, slots_at_lem}
use Rattle.store.specs.Store.{Store, size, put, among, Kept}
use Rattle.store.specs.Regions.{COUNTS, GIVEN, NODE-HEADS, PENDING, PLACE, NODE-COUNT, GAP-COUNT, ODD, WIDE, PLAIN, PENDING-COUNT, Work}
use Rattle.store.specs.Words.{ENTRY, child_slot}
use Rattle.interner.specs.Nodes.{EnteredIn, NodesIn, node_count, nodes_in, record_in}
use Rattle.pool.specs.declared.Origin.{Origin}
use Rattle.pool.specs.declared.Origin.TheVariants as origin

-- WORDS

-- a node's slot as a word: 0 while it has none
unfoldable pub slot_word : ℕ → Option ℕ
slot_word zero = none
slot_word (suc n) = some (suc n)

-- a child that needs no slot: a raw number, or a node that has one
abbrev pub Has : List ℕ → ℕ → Type 0
Has given child = (child < ENTRY) ⊎ ((ENTRY ≤ child) × (0 < get_or given (child - ENTRY) 0))

-- a child that needs one
abbrev pub Lacks : List ℕ → ℕ → Type 0
Lacks given child = (ENTRY ≤ child) × (get_or given (child - ENTRY) 0 ≡ 0)

-- how many words are 0
unfoldable pub zeros : List ℕ → ℕ
zeros [] = 0
zeros (zero ∷ words) = suc (zeros words)
zeros (suc n ∷ words) = zeros words

-- the positions as the counters have them
abbrev pub positions_in : List ℕ → Positions
positions_in counts = record { odd = get_or counts ODD 0; wide = get_or counts WIDE 0; plain = get_or counts PLAIN 0 }

-- the gaps in use, and the definition's allocator
abbrev pub gaps_in : List ℕ → GapTable → List Gap
gaps_in counts gaps = gaps_at gaps (get_or counts GAP-COUNT 0)

abbrev pub slots_in : List ℕ → GapTable → Slots
slots_in counts gaps = slots_at_lem gaps (get_or counts GAP-COUNT 0) (positions_in counts)

-- THE POOL

-- a pool that the words are. They don't tell in which order slots were given, nor which slot a node on the stack stands there with
pub record Pooled (pool : Pool) (counts words stack : List ℕ) (table : GapTable) : Type 0 where
  pub slots : slots_in counts table ≡ pool.slots
  pub given : (k : ℕ) → lookup k pool.given ≡ slot_word (get_or words k 0)
  pub pending : map (λ r. r.1) pool.pending ≡ reverse (take (get_or counts PENDING-COUNT 0) stack)

abbrev pub PooledIn : Pool → Store → GapTable → Type 0
PooledIn pool t gaps = Pooled pool (t COUNTS) (t GIVEN) (t PENDING) gaps

-- what the allocator asks
pub record GapsLive (counts : List ℕ) (table : GapTable) : Type 0 where
  pub inside : get_or counts GAP-COUNT 0 ≤ length table
  pub apart : Apart highest_slot 1 (gaps_in counts table)
  pub odd : get_or counts ODD 0 ≤ get_or counts GAP-COUNT 0
  pub wide : get_or counts WIDE 0 ≤ get_or counts GAP-COUNT 0
  pub plain : get_or counts PLAIN 0 ≤ get_or counts GAP-COUNT 0

-- and the building stack: there is room for every node that has no slot yet, and what stands on it are nodes
pub record Live (counts words stack : List ℕ) (table : GapTable) : Type 0 where
  pub gaps : GapsLive counts table
  pub room : get_or counts PENDING-COUNT 0 + zeros words ≤ length stack
  pub nodes : (i : ℕ) → i < get_or counts PENDING-COUNT 0 → get_or stack i 0 < get_or counts NODE-COUNT 0

abbrev pub LiveIn : Store → GapTable → Type 0
LiveIn t gaps = Live (t COUNTS) (t GIVEN) (t PENDING) gaps

-- the nodes of a job are there
abbrev pub NodesThere : List ℕ → List ℕ → Store → Type 0
NodesThere s p t = Work s p × EnteredIn s t × NodesIn (size p NODE-HEADS) s t

-- the children of node k are raw numbers and nodes that are there
abbrev pub KidsThere : List ℕ → Store → ℕ → Type 0
KidsThere s t k =
    (i : ℕ) → i < length (kids_of (nodes_in s t) k) → get_or (kids_of (nodes_in s t) k) i 0 < ENTRY + get_or (t COUNTS) NODE-COUNT 0

-- WRITERS

abbrev pub with_positions : Positions → Store → Store
with_positions q t = put (put (put t COUNTS ODD q.odd) COUNTS WIDE q.wide) COUNTS PLAIN q.plain

abbrev pub pending_count : Store → ℕ
pending_count t = get_or (t COUNTS) PENDING-COUNT 0

-- node k on top of the building stack
abbrev pub with_pending : ℕ → Store → Store
with_pending k t = put (put t COUNTS PENDING-COUNT (pending_count t + 1)) PENDING (pending_count t) k

-- the counters that change while slots are given
abbrev pub moving : List ℕ
moving = ODD ∷ WIDE ∷ PLAIN ∷ PENDING-COUNT ∷ []

-- what stays while slots are given: t and the gap table g before, u and h after
pub record Goes (t u : Store) (g h : GapTable) : Type 0 where
  pub live : LiveIn t g → LiveIn u h
  pub apart : (top : ℕ) → Apart top 1 (gaps_in (t COUNTS) g) → Apart top 1 (gaps_in (u COUNTS) h)
  pub long : length h ≡ length g
  -- a node that has a slot keeps it
  pub given : (k : ℕ) → 0 < get_or (t GIVEN) k 0 → get_or (u GIVEN) k 0 ≡ get_or (t GIVEN) k 0
  pub counters : (c : ℕ) → among c moving ≡ false → get_or (u COUNTS) c 0 ≡ get_or (t COUNTS) c 0
  pub kept : Kept (COUNTS ∷ GIVEN ∷ PENDING ∷ []) t u

-- a slot was asked for
pub record Took (wide ldc : Bool) (t u : Store) (g h : GapTable) (r : std.Option ℕ) : Type 0 where
  pub unmet : IfNone r (slot_for wide ldc (slots_in (t COUNTS) g) ≡ none)
  pub met : IfSome r (λ n. (0 < n) × (slot_for wide ldc (slots_in (t COUNTS) g) ≡ some (n, slots_in (u COUNTS) h)))
  pub live : GapsLive (u COUNTS) h
  pub apart : (top : ℕ) → Apart top 1 (gaps_in (t COUNTS) g) → Apart top 1 (gaps_in (u COUNTS) h)
  pub long : length h ≡ length g
  pub counters : (c : ℕ) → among c (ODD ∷ WIDE ∷ PLAIN ∷ []) ≡ false → get_or (u COUNTS) c 0 ≡ get_or (t COUNTS) c 0
  pub kept : Kept (COUNTS ∷ []) t u

-- how a child came by its slot, as a mark, which is the definition's for the pool before
unfoldable pub mark_in : Origin → ℕ
mark_in origin.Raw = 0
mark_in origin.New = 1
mark_in origin.Old = 2

abbrev pub Marked : ℕ → Store → GapTable → Origin → Type 0
Marked child t g o = (pool : Pool) → PooledIn pool t g → mark_in o ≡ mark_of (origin_of child pool)

-- a child has a slot from then on, or r is the refusal's number
pub record Slotted (s : List ℕ) (ldc : Bool) (child : ℕ) (t u : Store) (g h : GapTable) (r : ℕ) : Type 0 where
  pub met :
      (pool : Pool) → PooledIn pool t g → r ≡ 0 →
      (after : Pool) × (slot_of (nodes_in s t) ldc child pool ≡ good (child_slot (u GIVEN) child, after)) × PooledIn after u h
  pub refused : (pool : Pool) → PooledIn pool t g → 0 < r → slot_of (nodes_in s t) ldc child pool ≡ bad r
  -- a raw number is never refused
  pub node : 0 < r → ENTRY ≤ child
  pub has : r ≡ 0 → Has (u GIVEN) child
  pub goes : Goes t u g h

-- the record in turn
abbrev pub place_count : Store → ℕ
place_count t = get_or (t COUNTS) PLACE 0

-- what is refused while building is refused at a node, and PLACE tells its record: t before, u after
pub record Told {A : Type 0} (x : Result Refusal A) (t u : Store) (r : ℕ) : Type 0 where
  pub node : ℕ
  pub made : node < node_count t
  pub refused : x ≡ bad (record { code = r; place = node })
  pub place : place_count u ≡ record_in t node

-- so have all children of node k, or r is the refusal's number, told at the child
pub record SlottedAll (s : List ℕ) (k : ℕ) (t u : Store) (g h : GapTable) (r : ℕ) : Type 0 where
  pub met :
      (pool : Pool) → PooledIn pool t g → r ≡ 0 →
      (after : Pool)
      × (slots_of (nodes_in s t) (kids_of (nodes_in s t) k) pool ≡ good (map (child_slot (u GIVEN)) (kids_of (nodes_in s t) k), after))
      × PooledIn after u h
  pub refused : (pool : Pool) → PooledIn pool t g → 0 < r → Told (slots_of (nodes_in s t) (kids_of (nodes_in s t) k) pool) t u r
  pub has : r ≡ 0 → (i : ℕ) → i < length (kids_of (nodes_in s t) k) → Has (u GIVEN) (get_or (kids_of (nodes_in s t) k) i 0)
  pub goes : r ≡ 0 → Goes t u g h

-- node r left the building stack
pub record Popped (t u : Store) (r : ℕ) : Type 0 where
  pub pools :
      (pool : Pool) (g : GapTable) → PooledIn pool t g →
      (slot : ℕ)
      × (rest : List (ℕ × ℕ))
      × (pool.pending ≡ (slot, r) ∷ rest)
      × PooledIn (record { slots = pool.slots; given = pool.given; pending = rest; version = pool.version }) u g
  pub live : (g : GapTable) → LiveIn t g → LiveIn u g × (r < get_or (t COUNTS) NODE-COUNT 0)
  pub fewer : pending_count u + 1 ≡ pending_count t
  pub counters : (c : ℕ) → (c ≡ PENDING-COUNT → ⊥) → get_or (u COUNTS) c 0 ≡ get_or (t COUNTS) c 0
  pub kept : Kept (COUNTS ∷ []) t u
