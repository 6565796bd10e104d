-- The bootstrap rows that the finished words give. Assumes nothing.
use Rattle.std.specs.Prelude.{true, false, List, ◌≡◌, ℕ, zero, suc, ◌+◌, ◌-◌, ◌≤◌, ◌<◌, eqb, ltb, get_or}
use Rattle.definition.specs.Basics.{from, concat}
use Rattle.definition.specs.Building.{Row}
use Rattle.definition.specs.Run.{row_bytes}
use Rattle.store.specs.Store.{Store, size}
use Rattle.store.specs.Regions.{COUNTS, MARKS, GIVEN, INDEXES, FIRSTS, SIZES, CHILDREN, RAW-KEYS, RAW-ENTRIES, ORDER, NODES, INLINE, ROW-COUNT, WRITTEN-COUNT, INLINE-COUNT}
use Rattle.store.specs.Words.{ENTRY, child_slot}
use Rattle.raws.specs.Raws.{raw_count, held_count}
use Rattle.output.specs.Contents.{child_at, child_count}

-- the slots of n children from a place on
abbrev pub slots_from : List ℕ → List ℕ → ℕ → ℕ → List ℕ
slots_from given children first n = from (λ i. child_slot given (get_or children (first + i) 0)) 0 n

-- the row of bootstrap node k
abbrev pub row_in : Store → ℕ → Row
row_in t k = slots_from (t GIVEN) (t CHILDREN) (get_or (t FIRSTS) (get_or (t NODES) k 0) 0) (child_count (t SIZES) (t NODES) k)

-- a child with a slot of two bytes, that the code may ask for
pub record Slotted (p : List ℕ) (given : List ℕ) (x : ℕ) : Type 0 where
  pub low : x < ENTRY + size p GIVEN
  pub small : child_slot given x < 65536

-- the children of a bootstrap node have such slots, and stand in their places
pub record RowReady (p : List ℕ) (t : Store) (k : ℕ) : Type 0 where
  pub node : k < size p NODES
  pub first : get_or (t NODES) k 0 < size p FIRSTS
  pub count : get_or (t NODES) k 0 < size p SIZES
  pub some : 0 < child_count (t SIZES) (t NODES) k
  pub few : child_count (t SIZES) (t NODES) k ≤ 65536
  pub room : get_or (t FIRSTS) (get_or (t NODES) k 0) 0 + child_count (t SIZES) (t NODES) k ≤ size p CHILDREN
  pub kids : (i : ℕ) → i < child_count (t SIZES) (t NODES) k → Slotted p (t GIVEN) (child_at (t FIRSTS) (t CHILDREN) (t NODES) k i)

-- WHICH NODE has the row at an index

-- how many raw bootstraps there are, and inline rows
abbrev pub raw_rows : Store → ℕ
raw_rows t = raw_count t - held_count t

abbrev pub inline_count : Store → ℕ
inline_count t = get_or (t COUNTS) INLINE-COUNT 0

-- the index of raw bootstrap i by rising index, and of inline row i; past every index where there is none
unfoldable pub raw_index_at : List ℕ → List ℕ → ℕ → ℕ → ℕ → ℕ
raw_index_at keys order held n i = elim (ltb i n) [ true ↦ get_or keys (get_or order (held + i) 0) 0 - ENTRY | false ↦ 65536 ]

unfoldable pub inline_index_at : ℕ → List ℕ → List ℕ → List ℕ → ℕ → ℕ → ℕ
inline_index_at constants indexes nodes inline n i =
    elim (ltb i n) [ true ↦ get_or indexes (get_or nodes (get_or inline i 0) 0 - constants) 0 - 1 | false ↦ 65536 ]

abbrev pub raw_index_in : Store → ℕ → ℕ
raw_index_in t i = raw_index_at (t RAW-KEYS) (t ORDER) (held_count t) (raw_rows t) i

abbrev pub inline_index_in : ℕ → Store → ℕ → ℕ
inline_index_in constants t i = inline_index_at constants (t INDEXES) (t NODES) (t INLINE) (inline_count t) i

-- the node of raw bootstrap i
abbrev pub raw_node_in : Store → ℕ → ℕ
raw_node_in t i = get_or (t MARKS) (get_or (t RAW-ENTRIES) (get_or (t ORDER) (held_count t + i) 0) 0) 0 - 2

-- how many rows there are, once the holes between raw ones are filled
unfoldable pub count_rows : ℕ → ℕ → ℕ → ℕ → ℕ
count_rows written raws last rows = elim (ltb written raws) [ true ↦ last + 1 | false ↦ rows ]

abbrev pub row_count_in : Store → ℕ
row_count_in t = count_rows (get_or (t COUNTS) WRITTEN-COUNT 0) (raw_rows t) (raw_index_in t (raw_rows t - 1)) (get_or (t COUNTS) ROW-COUNT 0)

-- 1 where a walk is at the next number that it waits for, else 0
unfoldable pub reached_at : ℕ → ℕ → ℕ
reached_at at next = elim (eqb at next) [ true ↦ 1 | false ↦ 0 ]

-- how many of rising numbers a walk has passed
unfoldable pub passed : (ℕ → ℕ) → ℕ → ℕ
passed next zero = 0
passed next (suc i) = passed next i + reached_at i (next (passed next i))

-- the inline row with this index, else the next raw one
unfoldable pub node_or : ℕ → ℕ → ℕ → ℕ → ℕ
node_or next index inline raw = elim (eqb next index) [ true ↦ inline | false ↦ raw ]

abbrev pub row_node_in : ℕ → Store → ℕ → ℕ
row_node_in constants t i =
    node_or
    (inline_index_in constants t (passed (inline_index_in constants t) i))
    i
    (get_or (t INLINE) (passed (inline_index_in constants t) i) 0)
    (raw_node_in t (passed (raw_index_in t) i))

-- the rows' bytes
abbrev pub row_at_in : ℕ → Store → ℕ → List ℕ
row_at_in constants t i = row_bytes (row_in t (row_node_in constants t i))

abbrev pub rows_in : ℕ → Store → List ℕ
rows_in constants t = concat (from (row_at_in constants t) 0 (row_count_in t))

-- by the places of the regions
abbrev pub constants_for : List ℕ → ℕ
constants_for p = size p MARKS - size p INDEXES

-- a walk over the rows, at an index: so many inline and so many raw rows are below it
pub record Filled (p : List ℕ) (t : Store) (inline raws index : ℕ) : Type 0 where
  pub high : index ≤ row_count_in t
  pub inlines : inline ≡ passed (inline_index_in (constants_for p) t) index
  pub raw_ones : raws ≡ passed (raw_index_in t) index
  pub inline_low : inline ≤ index
  pub raw_low : raws ≤ index

-- an inline row's node is a bootstrap that has an index
pub record Inlined (p : List ℕ) (indexes nodes : List ℕ) (k : ℕ) : Type 0 where
  pub node : k < size p NODES
  pub behind : constants_for p ≤ get_or nodes k 0
  pub inside : get_or nodes k 0 - constants_for p < size p INDEXES
  pub indexed : 0 < get_or indexes (get_or nodes k 0 - constants_for p) 0

-- the order has a raw bootstrap here, and its node
pub record RawThere (p : List ℕ) (keys entries marks : List ℕ) (i : ℕ) : Type 0 where
  pub key : i < size p RAW-KEYS
  pub entry : i < size p RAW-ENTRIES
  pub low : ENTRY ≤ get_or keys i 0
  pub inside : get_or entries i 0 < size p MARKS
  pub done : 1 < get_or marks (get_or entries i 0) 0

-- what the rows are read from
pub record RowsReady (p : List ℕ) (t : Store) : Type 0 where
  pub counters : size p COUNTS ≡ 20
  pub fewer : size p INDEXES ≤ size p MARKS
  pub held_low_lem : held_count t ≤ raw_count t
  pub order_room : raw_count t ≤ size p ORDER
  pub raws : (j : ℕ) → held_count t ≤ j → j < raw_count t → RawThere p (t RAW-KEYS) (t RAW-ENTRIES) (t MARKS) (get_or (t ORDER) j 0)
  pub inline_room : inline_count t ≤ size p INLINE
  pub inline : (i : ℕ) → i < inline_count t → Inlined p (t INDEXES) (t NODES) (get_or (t INLINE) i 0)
  pub few : row_count_in t ≤ 65535
  -- at each index there is an inline row, or raw ones are left
  pub there :
      (i : ℕ) → i < row_count_in t → (inline_index_in (constants_for p) t (passed (inline_index_in (constants_for p) t) i) ≡ i → ⊥) →
      passed (raw_index_in t) i < raw_rows t
  pub rows : (i : ℕ) → i < row_count_in t → RowReady p t (row_node_in (constants_for p) t i)
