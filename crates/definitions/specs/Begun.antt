-- A job up to record 50: what the definition makes of it, and what the words then are. Assumes nothing.
use Rattle.std.specs.Prelude.{List, [], map, reverse, ◌≡◌, ℕ, ◌+◌, ◌≤◌, ◌<◌, length, get_or}
use Rattle.definition.specs.Basics.{Result, good, bad, ◌>>=◌, Refusal, at_record}
use Rattle.definition.specs.Definitions.{Defined}
use Rattle.definition.specs.Resolving.{Resolved, fuel_for}
use Rattle.definition.specs.Places.{table_records}
use Rattle.definition.specs.Slots.{gaps_from, start_slots}
use Rattle.definition.specs.Layout.{starters, Ready, node_at_lem, end_definitions}
use Rattle.job.specs.Stored.{Laid}
use Rattle.store.specs.Store.{Store, size, On}
use Rattle.store.specs.JobIn.{job_in, definitions_in, constants_in, entries_in, namings_in, linked_in}
use Rattle.store.specs.Regions.{COUNTS, GIVEN, INDEXES, NAME-HEADS, NODE-HEADS, ROW-HEADS, OWNER-HEADS, RECORDS, NAME-GOALS, RAW-KEYS, RAW-ENTRIES, ORDER, AT, VISITS, Work}
use Rattle.sym_refs.specs.Names.{Goals}
use Rattle.sym_refs.specs.Leading.{AllNames}
use Rattle.raws.specs.Raws.{raw_count, RawsIn, Ordered}
use Rattle.resolver.specs.Resolved.{resolved_in, Table, AtRest, visits_owed}
use Rattle.definitions.specs.Defining.{records_in, defined_in, place_count}

-- what requests start from, when so much is resolved
abbrev pub ready_from : ℕ → List ℕ → Defined → Resolved → Ready
ready_from top s d state =
    record {
      table = linked_in s;
      resolved = state;
      pool =
          record {
            slots = start_slots (gaps_from top 1 (map (λ r. r.0) d.held));
            given = [];
            pending = reverse (map (λ r. (r.0, node_at_lem state.marks r.1)) (starters d.held));
            version = d.version;
          };
      origins = [];
    }

-- record 50, where the definitions in turn have come to this
unfoldable pub fifty_in : ℕ → List ℕ → Defined → Result Refusal (Defined × Ready)
fifty_in top s d = at_record (length (definitions_in s)) (end_definitions top (linked_in s) (constants_in s) d) >>= λ ready. good (d, ready)

-- the definitions in turn, then record 50
unfoldable pub begun_in : ℕ → List ℕ → Result Refusal (Defined × Ready)
begun_in top s = defined_in top s >>= fifty_in top s

-- record 50 is through: the words are the definition's Defined, linked table and Resolved, and the requests are in turn
pub record AtFifty (p : List ℕ) (top : ℕ) (s : List ℕ) (u : Store) (d : Defined) : Type 0 where
  pub is : begun_in top s ≡ good (d, ready_from top s d (resolved_in s u))
  pub is_defined : defined_in top s ≡ good d
  pub is_ready : end_definitions top (linked_in s) (constants_in s) d ≡ good (ready_from top s d (resolved_in s u))
  pub naming : d.names ≡ namings_in s
  -- the record of each entry
  pub records : (e : ℕ) → e < entries_in s → get_or (u RECORDS) e 0 ≡ get_or (table_records (records_in s)) e 0
  pub table : Table s u
  pub rest : AtRest (size p NODE-HEADS) s u
  pub visits : visits_owed s u ≤ fuel_for (linked_in s) + raw_count u
  pub names : AllNames (size p NAME-HEADS) s u
  pub goals : Goals s (u NAME-GOALS)
  pub raws : RawsIn p (constants_in s) top d.held d.indexes u
  pub ordered : Ordered (constants_in s) top d.held d.indexes (u RAW-KEYS) (u RAW-ENTRIES) (u ORDER) (raw_count u)
  pub room : raw_count u ≤ size p RAW-KEYS
  pub laid : Laid s (job_in s)
  pub at : get_or (u COUNTS) AT 0 ≡ laid.fifty + 1
  pub place : place_count u ≡ length (definitions_in s)
  -- nothing that requests and building write is there yet
  pub given : (i : ℕ) → get_or (u GIVEN) i 0 ≡ 0
  pub indexes : (i : ℕ) → get_or (u INDEXES) i 0 ≡ 0
  pub row_heads : (i : ℕ) → get_or (u ROW-HEADS) i 0 ≡ 0
  pub owner_heads : (i : ℕ) → get_or (u OWNER-HEADS) i 0 ≡ 0
  pub counters : (c : ℕ) → VISITS < c → get_or (u COUNTS) c 0 ≡ 0

-- r is 0 and it is, or it is refused with r, at the record in turn; the places are the job's
pub record Begun (p : List ℕ) (words top : ℕ) (s : List ℕ) (u : Store) (r : ℕ) : Type 0 where
  pub places : Work s p × On p words
  pub through : r ≡ 0 → (d : Defined) × AtFifty p top s u d
  pub refused : 0 < r → begun_in top s ≡ bad (record { code = r; place = place_count u })
