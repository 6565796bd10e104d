-- The pool at the start: the gaps between the raw slots, and the raw constants on the building stack. Assumes nothing.
use Rattle.std.specs.Prelude.{true, false, List, [], ◌∷◌, ◌++◌, map, reverse, ◌⊎◌, ◌≡◌, ℕ, zero, suc, ◌+◌, ◌-◌, ◌≤◌, ◌<◌, eqb, length, get_or, take}
use Rattle.definition.specs.Definitions.{Held}
use Rattle.definition.specs.Resolving.{Mark}
use Rattle.definition.specs.Slots.{highest_slot, gaps_from, start_slots}
use Rattle.definition.specs.Building.{Pool}
use Rattle.definition.specs.Layout.{starters, node_at_lem}
use Rattle.facts.specs.Lists.{Rising, keys}
use Rattle.laws.specs.Gaps.{Apart}
use Rattle.slots.specs.Gaps.{GapTable}
use Rattle.store.specs.Store.{Store, size, among, Kept, IsWord}
use Rattle.store.specs.Regions.{COUNTS, MARKS, GIVEN, RAW-KEYS, RAW-ENTRIES, ORDER, PENDING, NODE-COUNT, GAP-COUNT, ODD, WIDE, PLAIN, PENDING-COUNT}
use Rattle.store.specs.Words.{HALF, mark_word}
use Rattle.raws.specs.Raws.{raw_count, held_count, Ordered}
use Rattle.pool.specs.Pooled.{gaps_in, PooledIn, LiveIn, pending_count, with_pending}

-- the pool of `end_definitions`; no word holds the version
abbrev pub start_pool : ℕ → List (ℕ × Held) → List Mark → ℕ → Pool
start_pool top held marks version =
    record {
      slots = start_slots (gaps_from top 1 (map (λ r. r.0) held));
      given = [];
      pending = reverse (map (λ r. (r.0, node_at_lem marks r.1)) (starters held));
      version = version;
    }

-- WORDS, by the order

-- the keys of its first n places
abbrev pub order_keys : List ℕ → List ℕ → ℕ → List ℕ
order_keys item_keys order n = map (λ i. get_or item_keys i 0) (take n order)

-- the entry at place i, or HALF
abbrev pub raw_at_lem : List ℕ → List ℕ → ℕ → ℕ
raw_at_lem entries order i = get_or entries (get_or order i 0) 0

-- the node that goes onto the stack for an entry's word: none for a second half
unfoldable pub raw_node : List ℕ → ℕ → List ℕ
raw_node marks e = elim (eqb e HALF) [ true ↦ [] | false ↦ (get_or marks e 0 - 2) ∷ [] ]

-- those of its first n places
unfoldable pub raw_nodes : List ℕ → List ℕ → List ℕ → ℕ → List ℕ
raw_nodes marks entries order zero = []
raw_nodes marks entries order (suc n) = raw_nodes marks entries order n ++ raw_node marks (raw_at_lem entries order n)

-- an entry's word that can go onto the stack: a second half, or an entry that became a node
abbrev pub IsDone : List ℕ → ℕ → ℕ → Type 0
IsDone marks nodes e = (e ≡ HALF → ⊥) → (1 < get_or marks e 0) × (get_or marks e 0 < nodes + 2)

-- ONE goes onto the stack

-- there is room for it
abbrev pub CanPush : List ℕ → Store → ℕ → Type 0
CanPush p t e = (e ≡ HALF → ⊥) → (1 < get_or (t MARKS) e 0) × IsWord (get_or (t MARKS) e 0) × (pending_count t < size p PENDING)

abbrev pub RawPushed : Store → Store → ℕ → Type 0
RawPushed t u e = ((e ≡ HALF) × (u ≡ t)) ⊎ ((e ≡ HALF → ⊥) × (u ≡ with_pending (get_or (t MARKS) e 0 - 2) t))

-- ALL OF THEM

pub record CanPushAll (p : List ℕ) (t : Store) : Type 0 where
  pub order : held_count t ≤ size p ORDER
  pub inside : (i : ℕ) → i < held_count t → get_or (t ORDER) i 0 < size p RAW-ENTRIES
  pub done : (i : ℕ) → i < held_count t → IsDone (t MARKS) (get_or (t COUNTS) NODE-COUNT 0) (raw_at_lem (t RAW-ENTRIES) (t ORDER) i)
  pub nodes : IsWord (get_or (t COUNTS) NODE-COUNT 0 + 2)
  pub empty : pending_count t ≡ 0
  pub room : length (raw_nodes (t MARKS) (t RAW-ENTRIES) (t ORDER) (held_count t)) ≤ size p PENDING
  pub few : IsWord (size p PENDING)
  pub counts : PENDING-COUNT < size p COUNTS

-- the first n of them are on the stack: t before, u after
pub record RawsPushed (t u : Store) (n : ℕ) : Type 0 where
  pub count : pending_count u ≡ length (raw_nodes (t MARKS) (t RAW-ENTRIES) (t ORDER) n)
  pub stack : take (pending_count u) (u PENDING) ≡ raw_nodes (t MARKS) (t RAW-ENTRIES) (t ORDER) n
  pub long : length (u PENDING) ≡ length (t PENDING)
  pub counters : (c : ℕ) → (c ≡ PENDING-COUNT → ⊥) → get_or (u COUNTS) c 0 ≡ get_or (t COUNTS) c 0
  pub kept : Kept (COUNTS ∷ PENDING ∷ []) t u

-- THE START

-- the raw slots of a job are in order and resolved, nothing was given yet, and there is room for the gaps and for the stack
pub record CanStart (p : List ℕ) (constants top : ℕ) (held : List (ℕ × Held)) (indexes : List (ℕ × ℕ)) (t : Store) (g : GapTable) : Type 0 where
  pub few : top ≤ highest_slot
  pub ordered : Ordered constants top held indexes (t RAW-KEYS) (t RAW-ENTRIES) (t ORDER) (raw_count t)
  pub rising : Rising 1 top (keys held)
  pub counted : length held ≡ held_count t
  pub among-raws : held_count t ≤ raw_count t
  pub keys-room : raw_count t ≤ size p RAW-KEYS
  pub entries-room : raw_count t ≤ size p RAW-ENTRIES
  pub order_room_lem : raw_count t ≤ size p ORDER
  pub done : (i : ℕ) → i < length held → IsDone (t MARKS) (get_or (t COUNTS) NODE-COUNT 0) (raw_at_lem (t RAW-ENTRIES) (t ORDER) i)
  pub nodes : IsWord (get_or (t COUNTS) NODE-COUNT 0 + 2)
  pub gaps_room : length (gaps_from top 1 (keys held)) ≤ length g
  pub stack_room : length (starters held) + size p GIVEN ≤ size p PENDING
  pub stack_few : IsWord (size p PENDING)
  pub counts : size p COUNTS ≡ 20
  pub odd : get_or (t COUNTS) ODD 0 ≡ 0
  pub wide : get_or (t COUNTS) WIDE 0 ≡ 0
  pub plain : get_or (t COUNTS) PLAIN 0 ≡ 0
  pub empty : pending_count t ≡ 0
  pub given : (k : ℕ) → get_or (t GIVEN) k 0 ≡ 0

-- so they are, for some. It is shut, so that a search takes it whole from the premises
unfoldable pub SomeStart : List ℕ → ℕ → Store → GapTable → Type 0
SomeStart p top t g = (constants : ℕ) × (held : List (ℕ × Held)) × (indexes : List (ℕ × ℕ)) × CanStart p constants top held indexes t g

-- the pool is there: t and the gap table g before, u and h after
pub record PoolStarted (p : List ℕ) (top : ℕ) (t u : Store) (g h : GapTable) : Type 0 where
  pub pooled :
      (constants : ℕ) (held : List (ℕ × Held)) (indexes : List (ℕ × ℕ)) → CanStart p constants top held indexes t g → (version : ℕ) →
      PooledIn (start_pool top held (map mark_word (t MARKS)) version) u h
  pub live : LiveIn u h
  pub apart : Apart top 1 (gaps_in (u COUNTS) h)
  pub long : length h ≡ length g
  pub counters : (c : ℕ) → among c (GAP-COUNT ∷ PENDING-COUNT ∷ []) ≡ false → get_or (u COUNTS) c 0 ≡ get_or (t COUNTS) c 0
  pub kept : Kept (COUNTS ∷ PENDING ∷ []) t u
