-- What every function of building keeps in the regions, and what it leaves. Assumes nothing.
use Rattle.std.specs.Prelude.{false, List, [], ◌⊎◌, ◌≡◌, ℕ, zero, suc, ◌+◌, ◌-◌, ◌≤◌, ◌<◌, length, get_or}
use Rattle.std.proofs.Math.Option.{Option, none, some}
use Rattle.definition.specs.Basics.{Result, good, ◌>>=◌, Refusal, at_record, unless, from}
use Rattle.definition.specs.Settings.{known}
use Rattle.definition.specs.Definitions.{tag_at}
use Rattle.definition.specs.Resolving.{Node}
use Rattle.definition.specs.Building.{Pool, Rows, Made, kids_of, node_number, child_number, child_numbers, drain, raw_rows as rowsOfRaws}
use Rattle.laws.specs.Gaps.{Apart}
use Rattle.slots.specs.Gaps.{GapTable}
use Rattle.store.specs.Store.{Store, size, among, Kept}
use Rattle.store.specs.Regions.{COUNTS, GIVEN, INDEXES, NODE-HEADS, FIRSTS, SIZES, CHILDREN, NODES}
use Rattle.interner.specs.Nodes.{node_count, nodes_in, EnteredIn, NodesIn}
use Rattle.rows.specs.Rowed.{backwards, constants_of, raw_rows, raw_index, raw_node, row_in, RawsReadyIn, RowedIn, index_word_lem}
use Rattle.pool.specs.Pooled.{Has, slot_word, gaps_in, pending_count, PooledIn, LiveIn, KidsThere, Goes, Told}
use Rattle.pool.specs.Owning.{IsOwner, OnStack}
use Rattle.building.specs.Numbers.{ChildDone, KidsDone}
use Rattle.building.specs.Built.{built_counters, built_regions}

-- every child of entry e has a slot
abbrev pub EntrySlotted : Store → ℕ → Type 0
EntrySlotted t e = (i : ℕ) → i < get_or (t SIZES) e 0 → Has (t GIVEN) (get_or (t CHILDREN) (get_or (t FIRSTS) e 0 + i) 0)

abbrev pub NodeSlotted : Store → ℕ → Type 0
NodeSlotted t k = EntrySlotted t (get_or (t NODES) k 0)

-- WHAT BUILDING GOES BY

-- what it reads and never writes
pub record Standing (s p : List ℕ) (t : Store) : Type 0 where
  pub entered : EnteredIn s t
  pub nodes : NodesIn (size p NODE-HEADS) s t
  pub kids : (k : ℕ) → k < node_count t → KidsThere s t k
  pub raws : RawsReadyIn p t

-- and what it keeps: bootstraps that have an index, and raw ones, have children with slots, so that their rows stay
pub record Working (s p : List ℕ) (t : Store) (g : GapTable) : Type 0 where
  pub standing : Standing s p t
  pub live : LiveIn t g
  pub rowed : (rows : Rows) × RowedIn p rows t
  pub indexed : (e : ℕ) → constants_of p ≤ e → 0 < get_or (t INDEXES) (e - constants_of p) 0 → EntrySlotted t e
  pub raw : (i : ℕ) → i < raw_rows t → NodeSlotted t (raw_node t i)

-- what a slot holds waits on the stack, or all its children have their numbers. It is shut, so that a search takes it whole
unfoldable pub Owners : List ℕ → List ℕ → Store → Type 0
Owners s p t = (k : ℕ) → IsOwner t k → OnStack t k ⊎ KidsDone s p t k

-- WHAT IS LEFT TO DO

unfoldable pub vacant : Option ℕ → ℕ
vacant none = 1
vacant (some slot) = 0

-- how many of the first n nodes have no slot
unfoldable pub lacking : (ℕ → Option ℕ) → ℕ → ℕ
lacking slot zero = 0
lacking slot (suc n) = vacant (slot n) + lacking slot n

-- how often the stack can still be taken from: what waits there, and a node for each that has no slot
abbrev pub owing : Store → ℕ
owing t = pending_count t + lacking (λ k. slot_word (get_or (t GIVEN) k 0)) (node_count t)

-- WHAT THE FUNCTIONS DO: t and the gap table g before, u and h after

-- nodes that got a slot are on the stack, and what was there is
pub record Stacked (t u : Store) : Type 0 where
  pub owners : (k : ℕ) → 0 < get_or (u GIVEN) k 0 → (0 < get_or (t GIVEN) k 0) ⊎ OnStack u k
  pub waits : (k : ℕ) → OnStack t k → OnStack u k
  pub fewer : owing u ≤ owing t

-- slots and indexes stay, and what building never writes
pub record Grows (t u : Store) (g h : GapTable) : Type 0 where
  pub apart : (top : ℕ) → Apart top 1 (gaps_in (t COUNTS) g) → Apart top 1 (gaps_in (u COUNTS) h)
  pub long : length h ≡ length g
  pub given : (k : ℕ) → 0 < get_or (t GIVEN) k 0 → get_or (u GIVEN) k 0 ≡ get_or (t GIVEN) k 0
  pub index : (i : ℕ) → 0 < get_or (t INDEXES) i 0 → get_or (u INDEXES) i 0 ≡ get_or (t INDEXES) i 0
  pub counters : (c : ℕ) → among c built_counters ≡ false → get_or (u COUNTS) c 0 ≡ get_or (t COUNTS) c 0
  pub kept : Kept built_regions t u

-- a step f of the definition was taken, r ≡ 0, or r is the refusal's number, told at a node
pub record Stepped {A : Type 0} (f : Pool → Rows → Result Refusal (A × Pool × Rows)) (s p : List ℕ) (t u : Store) (g h : GapTable) (r : ℕ) : Type 0 where
  pub met :
      (pool : Pool) (rows : Rows) → PooledIn pool t g → RowedIn p rows t → r ≡ 0 →
      (a : A) × (pool' : Pool) × (rows' : Rows) × (f pool rows ≡ good (a, pool', rows')) × PooledIn pool' u h × RowedIn p rows' u
  pub refused : (pool : Pool) (rows : Rows) → PooledIn pool t g → RowedIn p rows t → 0 < r → Told (f pool rows) t u r
  pub again : r ≡ 0 → Working s p u h
  pub stacked : r ≡ 0 → Stacked t u
  pub grows : r ≡ 0 → Grows t u g h

-- bootstrap node k has an index
pub record RowNumbered (s p : List ℕ) (k : ℕ) (t u : Store) (g h : GapTable) (r : ℕ) : Type 0 where
  pub step : Stepped (node_number (nodes_in s t) k) s p t u g h r
  pub done : r ≡ 0 → 0 < index_word_lem p u k

-- a child has its number
pub record Numbered (s p : List ℕ) (child : ℕ) (t u : Store) (g h : GapTable) (r : ℕ) : Type 0 where
  pub step : Stepped (child_number (nodes_in s t) child) s p t u g h r
  pub done : r ≡ 0 → ChildDone p u child

-- all children of node k have
pub record Finished (s p : List ℕ) (k : ℕ) (t u : Store) (g h : GapTable) (r : ℕ) : Type 0 where
  pub step : Stepped (child_numbers (nodes_in s t) (kids_of (nodes_in s t) k)) s p t u g h r
  pub done : r ≡ 0 → KidsDone s p u k

-- 24 unless the version has the kind of node k, then its children's numbers
unfoldable pub judged : ℕ → List Node → ℕ → Pool → Rows → Result Refusal (List ℕ × Pool × Rows)
judged version nodes k pool rows =
    at_record k (unless (known version (tag_at nodes k)) 24) >>= λ _. child_numbers nodes (kids_of nodes k) pool rows

-- node k passes, and all its children have their numbers
pub record Judged (s p : List ℕ) (version k : ℕ) (t u : Store) (g h : GapTable) (r : ℕ) : Type 0 where
  pub step : Stepped (judged version (nodes_in s t) k) s p t u g h r
  pub done : r ≡ 0 → KidsDone s p u k

-- raw bootstrap i by rising index, with its row as u has it
abbrev pub raw_row : Store → Store → ℕ → ℕ × List ℕ
raw_row t u i = (raw_index t i, row_in u (raw_node t i))

-- the raw bootstraps' children have slots
pub record RawsSlotted (s : List ℕ) (t u : Store) (g h : GapTable) (r : ℕ) : Type 0 where
  pub met :
      (pool : Pool) → PooledIn pool t g → r ≡ 0 →
      (pool' : Pool)
      × (rowsOfRaws (nodes_in s t) (backwards (λ i. (raw_index t i, raw_node t i)) (raw_rows t)) pool [] ≡ good (from (raw_row t u) 0 (raw_rows t), pool'))
      × PooledIn pool' u h
  pub refused :
      (pool : Pool) → PooledIn pool t g → 0 < r →
      Told (rowsOfRaws (nodes_in s t) (backwards (λ i. (raw_index t i, raw_node t i)) (raw_rows t)) pool []) t u r
  pub has : r ≡ 0 → (i : ℕ) → i < raw_rows t → NodeSlotted u (raw_node t i)
  pub stacked : r ≡ 0 → Stacked t u
  pub goes : r ≡ 0 → Goes t u g h

-- the stack is empty, constants being held to the version
pub record Drained (s p : List ℕ) (version : ℕ) (t u : Store) (g h : GapTable) (r : ℕ) : Type 0 where
  pub met :
      (fuel : ℕ) (m : Made) → owing t ≤ fuel → m.pool.version ≡ version → PooledIn m.pool t g → RowedIn p m.rows t → r ≡ 0 →
      (m' : Made) × (drain fuel (nodes_in s t) m.pool.pending m ≡ good m') × PooledIn m'.pool u h × RowedIn p m'.rows u
  pub refused :
      (fuel : ℕ) (m : Made) → owing t ≤ fuel → m.pool.version ≡ version → PooledIn m.pool t g → RowedIn p m.rows t → 0 < r →
      Told (drain fuel (nodes_in s t) m.pool.pending m) t u r
  pub done : r ≡ 0 → (k : ℕ) → IsOwner u k → KidsDone s p u k
  pub again : r ≡ 0 → Working s p u h
  pub grows : r ≡ 0 → Grows t u g h
