-- Building in the regions: what it starts from, and what it leaves. Assumes nothing.
use Rattle.std.specs.Prelude.{false, List, [], ◌∷◌, reverse, ◌≡◌, ℕ, ◌<◌, get_or}
use Rattle.definition.specs.Basics.{good}
use Rattle.definition.specs.Building.{Pool, Made, build_all}
use Rattle.laws.specs.Gaps.{Apart}
use Rattle.slots.specs.Gaps.{GapTable}
use Rattle.store.specs.Store.{Store, size, among, Kept}
use Rattle.store.specs.Regions.{COUNTS, GIVEN, INDEXES, NODE-HEADS, ROW-HEADS, ROW-LINKS, PENDING, INLINE, ODD, WIDE, PLAIN, PENDING-COUNT, ROW-COUNT, WRITTEN-COUNT, INLINE-COUNT}
use Rattle.interner.specs.Nodes.{node_count, nodes_in}
use Rattle.resolver.specs.Resolved.{Table, AtRest}
use Rattle.rows.specs.Rowed.{backwards, raw_rows, raw_index, raw_node, row_count, written_count, inline_count, RawsReadyIn, RowedIn}
use Rattle.pool.specs.Pooled.{gaps_in, PooledIn, LiveIn, KidsThere, Told}
use Rattle.pool.specs.Owning.{IsOwner, OnStack}
use Rattle.building.specs.Numbers.{KidsDone, KidsSlotted}

-- the nodes are there, what slots hold waits on the stack, and no row has an index yet
pub record CanBuild (s p : List ℕ) (t : Store) (g : GapTable) : Type 0 where
  pub table : Table s t
  pub rests : AtRest (size p NODE-HEADS) s t
  pub kids : (k : ℕ) → k < node_count t → KidsThere s t k
  pub raws : RawsReadyIn p t
  pub live : LiveIn t g
  pub waits : (k : ℕ) → IsOwner t k → OnStack t k
  pub indexes : (i : ℕ) → get_or (t INDEXES) i 0 ≡ 0
  pub row_heads : (i : ℕ) → get_or (t ROW-HEADS) i 0 ≡ 0
  pub rows : row_count t ≡ 0
  pub written : written_count t ≡ 0
  pub inline : inline_count t ≡ 0

-- the raw bootstraps with their nodes, by rising index, as the words have them
abbrev pub RawsAre : Store → List (ℕ × ℕ) → Type 0
RawsAre t indexes = reverse indexes ≡ backwards (λ i. (raw_index t i, raw_node t i)) (raw_rows t)

abbrev pub built_counters : List ℕ
built_counters = ODD ∷ WIDE ∷ PLAIN ∷ PENDING-COUNT ∷ ROW-COUNT ∷ WRITTEN-COUNT ∷ INLINE-COUNT ∷ []

abbrev pub built_regions : List ℕ
built_regions = COUNTS ∷ GIVEN ∷ INDEXES ∷ ROW-HEADS ∷ ROW-LINKS ∷ PENDING ∷ INLINE ∷ []

-- all is built from a pool whose constants are held to the version, or r is the refusal's number, told at a node: t and the gap table g
-- before, u and h after
pub record BuiltAll (s p : List ℕ) (version : ℕ) (t u : Store) (g h : GapTable) (r : ℕ) : Type 0 where
  pub met :
      (pool : Pool) (indexes : List (ℕ × ℕ)) → pool.version ≡ version → PooledIn pool t g → RawsAre t indexes → r ≡ 0 →
      (m : Made) × (build_all (nodes_in s t) indexes pool ≡ good m) × PooledIn m.pool u h × RowedIn p m.rows u
  pub refused :
      (pool : Pool) (indexes : List (ℕ × ℕ)) → pool.version ≡ version → PooledIn pool t g → RawsAre t indexes → 0 < r →
      Told (build_all (nodes_in s t) indexes pool) t u r
  -- every child of what a slot holds has its number
  pub done : r ≡ 0 → (k : ℕ) → k < node_count u → IsOwner u k → KidsDone s p u k
  -- and every child of a bootstrap that has a row its slot
  pub raw_slots_lem : r ≡ 0 → (i : ℕ) → i < raw_rows u → KidsSlotted s u (raw_node u i)
  pub inline_slots : r ≡ 0 → (i : ℕ) → i < inline_count u → KidsSlotted s u (get_or (u INLINE) i 0)
  pub live : r ≡ 0 → LiveIn u h
  pub apart : r ≡ 0 → (top : ℕ) → Apart top 1 (gaps_in (t COUNTS) g) → Apart top 1 (gaps_in (u COUNTS) h)
  pub counters : r ≡ 0 → (c : ℕ) → among c built_counters ≡ false → get_or (u COUNTS) c 0 ≡ get_or (t COUNTS) c 0
  pub kept : r ≡ 0 → Kept built_regions t u
