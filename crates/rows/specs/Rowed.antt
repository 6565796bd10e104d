-- The rows of the bootstrap table in the regions: rows of nodes, inline rows in hash chains with their indexes, and raw rows by rising
-- index. Assumes nothing.
use Rattle.std.specs.Prelude.{Option, None, Some, Bool, true, false, cond, ◌&&◌, List, [], ◌∷◌, map, ◌⊎◌, ◌≡◌, ℕ, zero, suc, ◌+◌, ◌-◌, ◌≤◌, ◌<◌, eqb, leb, length, get_or}
use Rattle.std.proofs.Math.Option.{some}
use Rattle.std.proofs.Math.ListN.{get_elem?}
use Rattle.definition.specs.Basics.{Result, good, bad, from}
use Rattle.definition.specs.Building.{Row, Rows, write_raw, index_of, fill_holes}
use Rattle.interner.specs.Nodes.{hash_words, node_count}
use Rattle.raws.specs.Raws.{raw_count, held_count}
use Rattle.store.specs.Store.{Store, size, put, among, Kept}
use Rattle.store.specs.Chains.{head_of, Chains, Heads, linked}
use Rattle.store.specs.Regions.{COUNTS, MARKS, GIVEN, INDEXES, ROW-HEADS, ROW-LINKS, FIRSTS, SIZES, CHILDREN, RAW-KEYS, RAW-ENTRIES, ORDER, NODES, INLINE, ROW-COUNT, WRITTEN-COUNT, INLINE-COUNT}
use Rattle.store.specs.Words.{ENTRY, cut, child_slot}

-- ROWS

-- the row of an entry: its children's slots
unfoldable pub row_at : List ℕ → List ℕ → List ℕ → List ℕ → ℕ → Row
row_at given children firsts sizes e = map (child_slot given) (cut children (get_or firsts e 0) (get_or sizes e 0))

-- any function of what is compared will do
unfoldable pub hash_row : Row → ℕ
hash_row row = hash_words (length row) row

-- f (n - 1), .., f 1, f 0
unfoldable pub backwards : {A : Type 0} → (ℕ → A) → ℕ → List A
backwards f zero = []
backwards f (suc n) = f n ∷ backwards f n

-- how many of these numbers aren't 0
unfoldable pub filled : List ℕ → ℕ
filled [] = 0
filled (x ∷ l) = cond (eqb x 0) (filled l) (suc (filled l))

-- what the rows go by and never change: how many heads and constants there are, the nodes by their entries, how many there are, the row of
-- an entry, and the raw bootstraps by rising index, each an index and a row
pub record Base : Type 0 where
  pub heads : ℕ
  pub constants : ℕ
  pub nodes : List ℕ
  pub made : ℕ
  pub row : ℕ → Row
  pub raw : ℕ → ℕ × Row
  pub raws : ℕ

-- the entry of inline item i, the word of an entry, 1 + its index, and item i as the definition has it
abbrev pub entry_of : Base → List ℕ → ℕ → ℕ
entry_of b inline i = get_or b.nodes (get_or inline i 0) 0

abbrev pub word_of : Base → List ℕ → ℕ → ℕ
word_of b indexes e = get_or indexes (e - b.constants) 0

abbrev pub item_of : Base → List ℕ → List ℕ → ℕ → Row × ℕ
item_of b indexes inline i = (b.row (entry_of b inline i), word_of b indexes (entry_of b inline i) - 1)

-- node k is made from a bootstrap
pub record IsBootstrap (b : Base) (indexes : List ℕ) (k : ℕ) : Type 0 where
  pub made : k < b.made
  pub behind : b.constants ≤ get_or b.nodes k 0
  pub inside : get_or b.nodes k 0 - b.constants < length indexes

-- the first n of `inline` are bootstrap nodes, no two with the same row, each in the chain of its row, and took indexes below `count`
pub record Inlined (b : Base) (indexes inline heads links : List ℕ) (count n : ℕ) : Type 0 where
  pub nodes : (i : ℕ) → i < n → IsBootstrap b indexes (get_or inline i 0)
  pub chains : Chains (λ i. head_of b.heads (hash_row (b.row (entry_of b inline i)))) heads links n
  pub unlike : (i j : ℕ) → i < j → j < n → b.row (entry_of b inline i) ≡ b.row (entry_of b inline j) → ⊥
  pub rise : (i j : ℕ) → i < j → j < n → word_of b indexes (entry_of b inline i) < word_of b indexes (entry_of b inline j)
  pub low : (i : ℕ) → i < n → 0 < word_of b indexes (entry_of b inline i)
  pub high : (i : ℕ) → i < n → word_of b indexes (entry_of b inline i) ≤ count
  pub few : n ≤ filled indexes
  -- a bootstrap that has an index has that of its row
  pub has :
      (e : ℕ) → b.constants ≤ e → 0 < word_of b indexes e →
      index_of (b.row e) (backwards (item_of b indexes inline) n) ≡ some (word_of b indexes e - 1)

-- so many rows have an index, the raw ones below `wrote` among them, and the other raw ones are for later
pub record RowWords (b : Base) (indexes inline heads links : List ℕ) (count wrote n : ℕ) : Type 0 where
  pub inlined : Inlined b indexes inline heads links count n
  pub few : count ≤ 65535
  pub low : wrote ≤ b.raws
  pub behind : (i : ℕ) → i < wrote → (b.raw i).0 < count
  pub ahead : (i : ℕ) → wrote ≤ i → i < b.raws → count ≤ (b.raw i).0

-- a row that is written is an inline one or a raw one with this index
abbrev pub RowStands : Base → List ℕ → List ℕ → ℕ → ℕ → List Row → ℕ → Type 0
RowStands b indexes inline wrote n written i =
    ((j : ℕ) × (j < n) × (word_of b indexes (entry_of b inline j) ≡ suc i) × (get_elem? written i ≡ some (b.row (entry_of b inline j))))
    ⊎ ((j : ℕ) × (j < wrote) × ((b.raw j).0 ≡ i) × (get_elem? written i ≡ some (b.raw j).1))

-- and these are the definition's rows
pub record Rowed (b : Base) (indexes inline heads links : List ℕ) (count wrote n : ℕ) (rows : Rows) : Type 0 where
  pub words : RowWords b indexes inline heads links count wrote n
  pub items : rows.inline ≡ backwards (item_of b indexes inline) n
  pub waiting : rows.waiting ≡ from b.raw wrote (b.raws - wrote)
  pub written : length rows.written ≡ count
  pub inlines : (j : ℕ) → j < n → get_elem? rows.written (word_of b indexes (entry_of b inline j) - 1) ≡ some (b.row (entry_of b inline j))
  pub stands : (i : ℕ) → i < count → RowStands b indexes inline wrote n rows.written i

-- THE SAME over the store

abbrev pub constants_of : List ℕ → ℕ
constants_of p = size p MARKS - size p INDEXES

abbrev pub row_count : Store → ℕ
row_count t = get_or (t COUNTS) ROW-COUNT 0

abbrev pub written_count : Store → ℕ
written_count t = get_or (t COUNTS) WRITTEN-COUNT 0

abbrev pub inline_count : Store → ℕ
inline_count t = get_or (t COUNTS) INLINE-COUNT 0

-- how many raw bootstraps there are, the item of number i of them by rising index, its index, its node
abbrev pub raw_rows : Store → ℕ
raw_rows t = raw_count t - held_count t

abbrev pub raw_item : Store → ℕ → ℕ
raw_item t i = get_or (t ORDER) (held_count t + i) 0

abbrev pub raw_index : Store → ℕ → ℕ
raw_index t i = get_or (t RAW-KEYS) (raw_item t i) 0 - ENTRY

abbrev pub raw_node : Store → ℕ → ℕ
raw_node t i = get_or (t MARKS) (get_or (t RAW-ENTRIES) (raw_item t i) 0) 0 - 2

-- the row of an entry, and of a node
abbrev pub entry_row : Store → ℕ → Row
entry_row t e = row_at (t GIVEN) (t CHILDREN) (t FIRSTS) (t SIZES) e

abbrev pub row_in : Store → ℕ → Row
row_in t k = entry_row t (get_or (t NODES) k 0)

abbrev pub base_in : List ℕ → Store → Base
base_in p t =
    record {
      heads = size p ROW-HEADS;
      constants = constants_of p;
      nodes = t NODES;
      made = node_count t;
      row = row_at (t GIVEN) (t CHILDREN) (t FIRSTS) (t SIZES);
      raw = λ i. (raw_index t i, row_in t (raw_node t i));
      raws = raw_rows t;
    }

abbrev pub RowWordsIn : List ℕ → Store → Type 0
RowWordsIn p t =
    RowWords (base_in p t) (t INDEXES) (t INLINE) (t ROW-HEADS) (t ROW-LINKS) (row_count t) (written_count t) (inline_count t)

abbrev pub RowedIn : List ℕ → Rows → Store → Type 0
RowedIn p rows t =
    Rowed (base_in p t) (t INDEXES) (t INLINE) (t ROW-HEADS) (t ROW-LINKS) (row_count t) (written_count t) (inline_count t) rows

abbrev pub IsBootstrapIn : List ℕ → Store → ℕ → Type 0
IsBootstrapIn p t k = IsBootstrap (base_in p t) (t INDEXES) k

-- 1 + the index of bootstrap node k, 0 while it has none
abbrev pub index_word_lem : List ℕ → Store → ℕ → ℕ
index_word_lem p t k = get_or (t INDEXES) (get_or (t NODES) k 0 - constants_of p) 0

-- ROOM, and what is known of nodes and raw bootstraps from before

pub record RowRoom (p : List ℕ) : Type 0 where
  pub counts : size p COUNTS ≡ 20
  pub heads : Heads p ROW-HEADS
  pub indexes : size p INDEXES ≤ size p MARKS
  pub few : size p INDEXES ≤ 65536
  pub entries : size p MARKS ≤ 131072
  pub links : size p INDEXES ≤ size p ROW-LINKS
  pub inline : size p INDEXES ≤ size p INLINE
  pub given : size p MARKS ≤ size p GIVEN
  pub firsts : size p MARKS ≤ size p FIRSTS
  pub sizes : size p MARKS ≤ size p SIZES
  pub nodes : size p MARKS ≤ size p NODES

-- node k is there, and so are its children, raw numbers or nodes
pub record KidsAt (p nodes firsts sizes children : List ℕ) (k : ℕ) : Type 0 where
  pub node : k < size p MARKS
  pub entry : get_or nodes k 0 < size p MARKS
  pub room : get_or firsts (get_or nodes k 0) 0 + get_or sizes (get_or nodes k 0) 0 ≤ size p CHILDREN
  pub kids :
      (i : ℕ) → i < get_or sizes (get_or nodes k 0) 0 →
      get_or children (get_or firsts (get_or nodes k 0) 0 + i) 0 < ENTRY + size p GIVEN

-- of all nodes. It is shut, so that a search takes it whole from the premises
unfoldable pub Kids : (p nodes firsts sizes children : List ℕ) → ℕ → Type 0
Kids p nodes firsts sizes children made = (k : ℕ) → k < made → KidsAt p nodes firsts sizes children k

abbrev pub KidsIn : List ℕ → Store → Type 0
KidsIn p t = Kids p (t NODES) (t FIRSTS) (t SIZES) (t CHILDREN) (node_count t)

-- raw bootstrap i by rising index: its key is an index's, and its entry became a node
pub record RawAt (p marks rawKeys rawEntries order : List ℕ) (held made i : ℕ) : Type 0 where
  pub place : held + i < size p ORDER
  pub item : get_or order (held + i) 0 < size p RAW-KEYS
  pub low : ENTRY ≤ get_or rawKeys (get_or order (held + i) 0) 0
  pub high : get_or rawKeys (get_or order (held + i) 0) 0 < ENTRY + 65535
  pub there : get_or order (held + i) 0 < size p RAW-ENTRIES
  pub entry : get_or rawEntries (get_or order (held + i) 0) 0 < size p MARKS
  pub done : 2 ≤ get_or marks (get_or rawEntries (get_or order (held + i) 0) 0) 0
  pub node : get_or marks (get_or rawEntries (get_or order (held + i) 0) 0) 0 - 2 < made

-- all of n raw definitions, the slots first. It is shut, as Kids is
unfoldable pub RawsReady : (p marks rawKeys rawEntries order : List ℕ) → ℕ → ℕ → ℕ → Type 0
RawsReady p marks rawKeys rawEntries order held n made =
    (held ≤ n)
    × ((i : ℕ) → i < n - held → RawAt p marks rawKeys rawEntries order held made i)
    × ((i j : ℕ) → i < j → j < n - held → get_or rawKeys (get_or order (held + i) 0) 0 < get_or rawKeys (get_or order (held + j) 0) 0)

abbrev pub RawsReadyIn : List ℕ → Store → Type 0
RawsReadyIn p t = RawsReady p (t MARKS) (t RAW-KEYS) (t RAW-ENTRIES) (t ORDER) (held_count t) (raw_count t) (node_count t)

-- WHAT THE FUNCTIONS DO: t before, u after

-- every counter but these is as it was
abbrev pub SameBut : List ℕ → List ℕ → List ℕ → Type 0
SameBut l before after = (c : ℕ) → among c l ≡ false → get_or after c 0 ≡ get_or before c 0

-- the rows with raw ones written
abbrev pub with_raws : Rows → Rows
with_raws rows =
    record {
      written = (write_raw rows.written rows.waiting).0;
      waiting = (write_raw rows.written rows.waiting).1;
      inline = rows.inline;
    }

-- raw rows whose index is next are written
pub record WroteRaws (p : List ℕ) (t u : Store) : Type 0 where
  pub rows : (rows : Rows) → RowedIn p rows t → RowedIn p (with_raws rows) u
  pub words : RowWordsIn p u
  pub stop : (i : ℕ) → written_count u ≤ i → i < raw_rows u → row_count u < raw_index u i
  pub counters : SameBut (ROW-COUNT ∷ WRITTEN-COUNT ∷ []) (t COUNTS) (u COUNTS)
  pub kept : Kept (COUNTS ∷ []) t u

-- node k is the next inline one, and took the next index
abbrev pub with_inline : List ℕ → ℕ → ℕ → Store → Store
with_inline p k hash t =
    linked (put (put t COUNTS INLINE-COUNT (inline_count t + 1)) INLINE (inline_count t) k) p ROW-HEADS hash (inline_count t)

abbrev pub with_index : List ℕ → ℕ → ℕ → ℕ → Store → Store
with_index p k hash rows t =
    put (with_inline p k hash (put t INDEXES (get_or (t NODES) k 0 - constants_of p) (rows + 1))) COUNTS ROW-COUNT (rows + 1)

-- no inline row is that of node k. It is shut, as Kids is
unfoldable pub NewRow : Store → ℕ → Type 0
NewRow t k = (i : ℕ) → i < inline_count t → row_in t (get_or (t INLINE) i 0) ≡ row_in t k → ⊥

abbrev pub written : List ℕ
written = COUNTS ∷ INDEXES ∷ ROW-HEADS ∷ ROW-LINKS ∷ INLINE ∷ []

-- the row of node k has an index, r ≡ 0, or all are used, r ≡ 17: `found` is what the definition does with these rows
pub record Indexed (found : Rows → Result ℕ (ℕ × Rows)) (p : List ℕ) (k : ℕ) (t u : Store) (r : ℕ) : Type 0 where
  pub given :
      r ≡ 0 → (rows : Rows) → RowedIn p rows t →
      (rows' : Rows) × (found rows ≡ good (index_word_lem p u k - 1, rows')) × RowedIn p rows' u
  pub refused : (r ≡ 0 → ⊥) → (r ≡ 17) × ((rows : Rows) → RowedIn p rows t → found rows ≡ bad 17)
  pub words : RowWordsIn p u
  pub index : r ≡ 0 → 0 < index_word_lem p u k
  -- a bootstrap that has an index keeps it
  pub stays :
      (e : ℕ) → constants_of p ≤ e → 0 < get_or (t INDEXES) (e - constants_of p) 0 →
      get_or (u INDEXES) (e - constants_of p) 0 ≡ get_or (t INDEXES) (e - constants_of p) 0
  -- and no other than node k's gets one
  pub others : (i : ℕ) → (i ≡ get_or (t NODES) k 0 - constants_of p → ⊥) → get_or (u INDEXES) i 0 ≡ get_or (t INDEXES) i 0
  pub counters : SameBut (ROW-COUNT ∷ WRITTEN-COUNT ∷ INLINE-COUNT ∷ []) (t COUNTS) (u COUNTS)
  pub kept : Kept written t u

-- THE TABLE at the end

-- the index of inline item i
abbrev pub inline_index : List ℕ → Store → ℕ → ℕ
inline_index p t i = index_word_lem p t (get_or (t INLINE) i 0) - 1

-- number i of n rising indexes, if there are so many
pub record Nth (f : ℕ → ℕ) (n i : ℕ) (r : Option ℕ) : Type 0 where
  pub there : i < n → r ≡ Some (f i)
  pub past : n ≤ i → r ≡ None

-- c of n rising indexes are below one
pub record Reached (f : ℕ → ℕ) (n index c : ℕ) : Type 0 where
  pub low : c ≤ n
  pub below : (j : ℕ) → j < c → f j < index
  pub above : (j : ℕ) → c ≤ j → j < n → index ≤ f j

abbrev pub table_of : Rows → List Row
table_of rows = fill_holes rows.written rows.waiting

-- an index of the table. It is shut, as Kids is
unfoldable pub InTable : List ℕ → Store → ℕ → Type 0
InTable p t index = (rows : Rows) × RowedIn p rows t × (index < length (table_of rows))

-- node r has the row at an index
abbrev pub RowNode : List ℕ → Store → ℕ → ℕ → Type 0
RowNode p t index r = (rows : Rows) → RowedIn p rows t → get_elem? (table_of rows) index ≡ some (row_in t r)

-- a child is a bootstrap node
abbrev pub is_bootstrap : List ℕ → Store → ℕ → Bool
is_bootstrap p t child = leb ENTRY child && leb (constants_of p) (get_or (t NODES) (child - ENTRY) 0)

-- the number of a child: a bootstrap's index, or a slot
unfoldable pub number_of : List ℕ → Store → ℕ → ℕ
number_of p t child = elim (is_bootstrap p t child) [ true ↦ index_word_lem p t (child - ENTRY) - 1 | false ↦ child_slot (t GIVEN) child ]

-- a child that is a bootstrap has an index. It is shut, as Kids is
unfoldable pub HasNumber : List ℕ → Store → ℕ → Type 0
HasNumber p t child = is_bootstrap p t child ≡ true → 0 < index_word_lem p t (child - ENTRY)
