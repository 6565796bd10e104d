-- The words when a job is built and named, beside what the definition's stages came to. Assumes nothing.
use mathlib.Core.List.{List, [], map}
use mathlib.Core.Option.{some}
use mathlib.Core.Path.{◌≡◌}
use Prim.Native.Nat.{ℕ, suc, ◌+◌, ◌≤◌, ◌<◌}
use lib.ListN.{length, get_or, drop}
use Rattle.definition.specs.Basics.{good, lookup}
use Rattle.definition.specs.Job.{read_build}
use Rattle.definition.specs.Numbering.{top_of}
use Rattle.definition.specs.Definitions.{Defined}
use Rattle.definition.specs.Slots.{highest_slot, count_from}
use Rattle.definition.specs.Building.{mark_of, Made, build_all}
use Rattle.definition.specs.Layout.{Ready, answer_all, end_definitions, index_nodes}
use Rattle.laws.specs.Gaps.{Apart}
use Rattle.slots.specs.Gaps.{GapTable}
use Rattle.store.specs.Store.{Store, size}
use Rattle.store.specs.JobIn.{job_in, definitions_in, constants_in, linked_in}
use Rattle.store.specs.Regions.{COUNTS, GIVEN, NODE-HEADS, RAW-KEYS, RAW-ENTRIES, ORDER, ANSWERS, ORIGINS, AT}
use Rattle.interner.specs.Nodes.{node_count}
use Rattle.raws.specs.Raws.{raw_count, RawsIn, Ordered}
use Rattle.resolver.specs.Resolved.{resolved_in, Table, AtRest}
use Rattle.definitions.specs.Defining.{defined_in, place_count}
use Rattle.rows.specs.Rowed.{RowedIn}
use Rattle.pool.specs.Pooled.{slot_word, gaps_in}
use Rattle.pool.specs.Owning.{IsOwner}
use Rattle.requests.specs.Asked.{RawDone}
use Rattle.building.specs.Numbers.{KidsDone}
use Rattle.ending.specs.Ended.{name_in, count_in, name_of, Named}

-- v are the words, h the gap table
pub record Final (s p : List ℕ) (v : Store) (h : GapTable) (d : Defined) (ready asked : Ready) (m after : Made) : Type 0 where
  -- the definition's stages
  pub is_defined : defined_in (top_of (job_in s)) s ≡ good d
  pub is_ready : end_definitions (top_of (job_in s)) (linked_in s) (constants_in s) d ≡ good ready
  pub is_asked : answer_all d.names (constants_in s) (suc (length (definitions_in s))) (job_in s).requests ready ≡ good (v ANSWERS, asked)
  pub is_made : build_all asked.resolved.nodes (index_nodes (constants_in s) asked.resolved.marks d.indexes) asked.pool ≡ good m
  pub is_named : name_of s v m ≡ good (name_in v, after)
  -- the words: every region is whole; entries, nodes and raw definitions
  pub long : (k : ℕ) → length (v k) ≡ size p k
  pub resolved : asked.resolved ≡ resolved_in s v
  pub table : Table s v
  pub rests : AtRest (size p NODE-HEADS) s v
  pub raws : RawsIn p (constants_in s) (top_of (job_in s)) d.held d.indexes v
  pub ordered : Ordered (constants_in s) (top_of (job_in s)) d.held d.indexes (v RAW-KEYS) (v RAW-ENTRIES) (v ORDER) (raw_count v)
  pub room : raw_count v ≤ size p RAW-KEYS
  pub raws_done : (i : ℕ) → i < raw_count v → RawDone s v i
  -- slots and rows
  pub given : (k : ℕ) → lookup k m.pool.given ≡ slot_word (get_or (v GIVEN) k 0)
  pub rowed : RowedIn p m.rows v
  pub done : (k : ℕ) → k < node_count v → IsOwner v k → KidsDone s p v k
  -- the name and the count
  pub few : top_of (job_in s) ≤ highest_slot
  pub named : Named m after v h
  pub name_low : name_in v ≤ top_of (job_in s)
  pub apart : Apart (top_of (job_in s)) 1 (gaps_in (v COUNTS) h)
  pub count : count_in v ≡ count_from (top_of (job_in s)) (gaps_in (v COUNTS) h)
  -- the build record is in turn
  pub place : place_count v ≡ suc (length (definitions_in s) + length (job_in s).requests)
  pub build : read_build (drop (get_or (v COUNTS) AT 0 + 1) s) ≡ some ((job_in s).build, [])
  pub small : (i : ℕ) → i < size p ANSWERS → get_or (v ANSWERS) i 0 < 65536
  pub marks : map mark_of asked.origins ≡ v ORIGINS
