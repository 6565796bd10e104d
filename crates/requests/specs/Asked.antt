-- A job up to its last request: what the definition makes of it, and what the words then are. Assumes nothing.
use Rattle.std.specs.Prelude.{List, [], map, ◌⊎◌, ◌≡◌, ℕ, suc, ◌+◌, ◌≤◌, ◌<◌, length, get_or, drop}
use Rattle.std.proofs.Math.Option.{some}
use Rattle.definition.specs.Basics.{Result, good, bad, ◌>>=◌, Refusal}
use Rattle.definition.specs.Job.{read_build}
use Rattle.definition.specs.Definitions.{Defined}
use Rattle.definition.specs.Places.{table_records, record_of}
use Rattle.definition.specs.Building.{Pool, mark_of}
use Rattle.definition.specs.Layout.{Ready, answer_all, end_definitions}
use Rattle.laws.specs.Gaps.{Apart}
use Rattle.slots.specs.Gaps.{GapTable}
use Rattle.store.specs.Store.{Store, size, On}
use Rattle.store.specs.JobIn.{job_in, definitions_in, constants_in, entries_in, linked_in}
use Rattle.store.specs.Regions.{COUNTS, MARKS, INDEXES, NODE-HEADS, ROW-HEADS, OWNER-HEADS, RAW-KEYS, RAW-ENTRIES, ORDER, ANSWERS, ORIGINS, AT, ROW-COUNT, WRITTEN-COUNT, INLINE-COUNT, NAME-SLOT, Work}
use Rattle.store.specs.Words.{HALF}
use Rattle.interner.specs.Nodes.{node_count, record_in}
use Rattle.raws.specs.Raws.{raw_count, RawsIn, Ordered}
use Rattle.resolver.specs.Resolved.{resolved_in, Table, AtRest}
use Rattle.definitions.specs.Defining.{records_in, defined_in, place_count}
use Rattle.definitions.specs.Begun.{begun_in}
use Rattle.pool.specs.Pooled.{gaps_in, PooledIn, LiveIn}
use Rattle.pool.specs.Replying.{origins_in, ready_in}
use Rattle.pool.specs.Owning.{IsOwner, OnStack}

-- the requests, where record 50 has come to this
unfoldable pub requests_in : List ℕ → Defined × Ready → Result Refusal (Defined × Ready × List ℕ × Ready)
requests_in s b =
    answer_all b.0.names (constants_in s) (suc (length (definitions_in s))) (job_in s).requests b.1 >>= λ r.
    good (b.0, b.1, r.0, r.1)

-- the definitions in turn, record 50, the requests in turn: what was defined, what the requests started from, the answers, what is ready
unfoldable pub asked_in : ℕ → List ℕ → Result Refusal (Defined × Ready × List ℕ × Ready)
asked_in top s = begun_in top s >>= requests_in s

-- raw definition i became a node, or is a second half
abbrev pub RawDone : List ℕ → Store → ℕ → Type 0
RawDone s t i =
    (get_or (t RAW-ENTRIES) i 0 ≡ HALF)
    ⊎ ((get_or (t RAW-ENTRIES) i 0 < entries_in s)
    × (1 < get_or (t MARKS) (get_or (t RAW-ENTRIES) i 0) 0)
    × (get_or (t MARKS) (get_or (t RAW-ENTRIES) i 0) 0 < node_count t + 2))

-- the words that building starts from, d being what was defined
pub record AskedWords (p : List ℕ) (top : ℕ) (s : List ℕ) (u : Store) (h : GapTable) (d : Defined) : Type 0 where
  pub table : Table s u
  pub rests : AtRest (size p NODE-HEADS) s u
  pub raws : RawsIn p (constants_in s) top d.held d.indexes u
  pub ordered : Ordered (constants_in s) top d.held d.indexes (u RAW-KEYS) (u RAW-ENTRIES) (u ORDER) (raw_count u)
  pub room : raw_count u ≤ size p RAW-KEYS
  pub done : (i : ℕ) → i < raw_count u → RawDone s u i
  pub live : LiveIn u h
  pub apart : Apart top 1 (gaps_in (u COUNTS) h)
  -- what a slot holds waits on the building stack
  pub waits : (k : ℕ) → IsOwner u k → OnStack u k
  -- no row has an index yet, nobody owns a slot, and there is no name
  pub indexes : (i : ℕ) → get_or (u INDEXES) i 0 ≡ 0
  pub row_heads : (i : ℕ) → get_or (u ROW-HEADS) i 0 ≡ 0
  pub owner_heads : (i : ℕ) → get_or (u OWNER-HEADS) i 0 ≡ 0
  pub rows : get_or (u COUNTS) ROW-COUNT 0 ≡ 0
  pub written : get_or (u COUNTS) WRITTEN-COUNT 0 ≡ 0
  pub inline : get_or (u COUNTS) INLINE-COUNT 0 ≡ 0
  pub name : get_or (u COUNTS) NAME-SLOT 0 ≡ 0
  -- record 60 is in turn
  pub place : place_count u ≡ suc (length (definitions_in s) + length (job_in s).requests)
  pub build : read_build (drop (get_or (u COUNTS) AT 0 + 1) s) ≡ some ((job_in s).build, [])
  pub small : (i : ℕ) → i < size p ANSWERS → get_or (u ANSWERS) i 0 < 65536
  pub marks : map mark_of (origins_in u) ≡ u ORIGINS
  -- each node carries its record
  pub records : (k : ℕ) → k < node_count u → record_in u k ≡ record_of (table_records (records_in s)) (resolved_in s u).marks k

-- all requests are answered, and the words are the definition's answers, resolved state and pool
pub record Asked (p : List ℕ) (top : ℕ) (s : List ℕ) (u : Store) (h : GapTable) (d : Defined) (ready : Ready) (pool : Pool) : Type 0 where
  pub is_defined : defined_in top s ≡ good d
  pub is_ready : end_definitions top (linked_in s) (constants_in s) d ≡ good ready
  pub is_asked : asked_in top s ≡ good (d, ready, u ANSWERS, ready_in s u pool)
  pub pooled : PooledIn pool u h
  pub words : AskedWords p top s u h d

-- r is 0 and they are, or the job is refused with r, at the record in turn; the places are the job's
pub record AskedAll (p : List ℕ) (words top : ℕ) (s : List ℕ) (u : Store) (h : GapTable) (r : ℕ) : Type 0 where
  pub places : Work s p × On p words
  pub through : r ≡ 0 → (d : Defined) × (ready : Ready) × (pool : Pool) × Asked p top s u h d ready pool
  pub refused : 0 < r → asked_in top s ≡ bad (record { code = r; place = place_count u })
