-- The name's slot and the pool's count, in the regions. Assumes nothing.
use Rattle.std.specs.Prelude.{false, List, [], ◌∷◌, ◌≡◌, ℕ, ◌+◌, ◌≤◌, ◌<◌, length, get_or, drop}
use Rattle.std.proofs.Math.Option.{some}
use Rattle.definition.specs.Basics.{Result, good, bad}
use Rattle.definition.specs.Slots.{highest_slot, count_from}
use Rattle.definition.specs.Job.{read_build}
use Rattle.definition.specs.Building.{Made, attribute_text, name_wanted, name_slot}
use Rattle.laws.specs.Gaps.{Apart}
use Rattle.slots.specs.Gaps.{GapTable}
use Rattle.store.specs.Store.{Store, among, Kept}
use Rattle.store.specs.JobIn.{job_in}
use Rattle.store.specs.Regions.{COUNTS, GIVEN, AT, ODD, WIDE, PLAIN, NAME-SLOT, POOL-COUNT}
use Rattle.interner.specs.Nodes.{nodes_in}
use Rattle.rows.specs.Rowed.{RawsReadyIn, RowedIn, table_of}
use Rattle.pool.specs.Pooled.{gaps_in, slots_in, PooledIn, GapsLive, NodesThere}

abbrev pub name_in : Store → ℕ
name_in t = get_or (t COUNTS) NAME-SLOT 0

abbrev pub count_in : Store → ℕ
count_in t = get_or (t COUNTS) POOL-COUNT 0

-- the nodes are there, record 60 is in turn, and there is no name yet
pub record CanEnd (s p : List ℕ) (top : ℕ) (t : Store) (g : GapTable) : Type 0 where
  pub nodes : NodesThere s p t
  pub raws : RawsReadyIn p t
  pub gaps : GapsLive (t COUNTS) g
  pub apart : Apart top 1 (gaps_in (t COUNTS) g)
  pub few : top ≤ highest_slot
  pub build : read_build (drop (get_or (t COUNTS) AT 0 + 1) s) ≡ some ((job_in s).build, [])
  pub unnamed : name_in t ≡ 0

-- the definition's name, for what building has made
abbrev pub name_of : List ℕ → Store → Made → Result ℕ (ℕ × Made)
name_of s t m = name_slot (name_wanted (job_in s).build.name_byte (length (table_of m.rows))) (nodes_in s t) m

-- what is made once the name is there: it holds the text at its slot, and nothing else is new but the gaps
pub record Named (m after : Made) (u : Store) (h : GapTable) : Type 0 where
  pub slots : slots_in (u COUNTS) h ≡ after.pool.slots
  pub rows : after.rows ≡ m.rows
  pub unnamed : name_in u ≡ 0 → after.owned ≡ m.owned
  pub named : 0 < name_in u → after.owned ≡ (name_in u, attribute_text) ∷ m.owned

-- the name has a slot if it is wanted, and the pool its count, or r is the refusal's number: t and g before, u and h after
pub record PoolEnded (s p : List ℕ) (top : ℕ) (t u : Store) (g h : GapTable) (r : ℕ) : Type 0 where
  pub met :
      (m : Made) → PooledIn m.pool t g → RowedIn p m.rows t → r ≡ 0 →
      (after : Made) × (name_of s t m ≡ good (name_in u, after)) × Named m after u h
  pub refused : (m : Made) → PooledIn m.pool t g → RowedIn p m.rows t → 0 < r → name_of s t m ≡ bad r
  pub count : count_in u ≡ count_from top (gaps_in (u COUNTS) h)
  -- the name's slot is one that a node had, or a new one
  pub low : ((k : ℕ) → get_or (t GIVEN) k 0 ≤ highest_slot) → name_in u ≤ highest_slot
  pub apart : Apart top 1 (gaps_in (u COUNTS) h)
  pub long : length h ≡ length g
  pub counters : (c : ℕ) → among c (ODD ∷ WIDE ∷ PLAIN ∷ NAME-SLOT ∷ POOL-COUNT ∷ []) ≡ false → get_or (u COUNTS) c 0 ≡ get_or (t COUNTS) c 0
  pub kept : Kept (COUNTS ∷ []) t u
