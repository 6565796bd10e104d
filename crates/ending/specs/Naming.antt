-- The name's slot, before the pool has its count. Assumes nothing.
use Rattle.std.specs.Prelude.{Bool, false, List, [], ◌∷◌, ◌≡◌, ℕ, ◌+◌, ◌≤◌, ◌<◌, length, get_or, drop, unwrap_or}
use Rattle.std.specs.Prelude as std
use Rattle.std.proofs.Math.Option.{some}
use Rattle.definition.specs.Basics.{good, bad}
use Rattle.definition.specs.Slots.{highest_slot}
use Rattle.definition.specs.Job.{read_build}
use Rattle.definition.specs.Building.{Rows, Made, name_wanted}
use Rattle.laws.specs.Gaps.{Apart}
use Rattle.slots.specs.Gaps.{GapTable}
use Rattle.store.specs.Store.{Store, put, among, Kept}
use Rattle.store.specs.JobIn.{job_in}
use Rattle.store.specs.Regions.{COUNTS, GIVEN, AT, ODD, WIDE, PLAIN, NAME-SLOT}
use Rattle.rows.specs.Rowed.{RawsReadyIn, RowedIn, table_of}
use Rattle.pool.specs.Pooled.{gaps_in, PooledIn, GapsLive, NodesThere}
use Rattle.ending.specs.Ended.{name_in, name_of, Named}

-- record 60 is in turn
abbrev pub BuildAt : List ℕ → Store → Type 0
BuildAt s t = read_build (drop (get_or (t COUNTS) AT 0 + 1) s) ≡ some ((job_in s).build, [])

-- r tells whether it wants the name, for any rows that the words are
abbrev pub Wants : List ℕ → List ℕ → Store → Bool → Type 0
Wants s p t r = (rows : Rows) → RowedIn p rows t → r ≡ name_wanted (job_in s).build.name_byte (length (table_of rows))

-- a slot, or 0 for none
abbrev pub slot_or_0 : std.Option ℕ → ℕ
slot_or_0 r = unwrap_or r 0

-- the name has this slot, or there is none and r is the refusal's number
pub record KeptName (slot : ℕ) (t u : Store) (r : ℕ) : Type 0 where
  pub is : u ≡ put t COUNTS NAME-SLOT slot
  pub met : 0 < slot → r ≡ 0
  pub unmet : slot ≡ 0 → r ≡ 14

-- the nodes are there, record 60 is in turn, and there is no name yet
pub record CanName (s p : List ℕ) (t : Store) (g : GapTable) : Type 0 where
  pub nodes : NodesThere s p t
  pub raws : RawsReadyIn p t
  pub gaps : GapsLive (t COUNTS) g
  pub build : BuildAt s t
  pub unnamed : name_in t ≡ 0

-- the name has a slot if it is wanted, or r is the refusal's number: t and g before, u and h after
pub record PoolNamed (s p : List ℕ) (t u : Store) (g h : GapTable) (r : ℕ) : Type 0 where
  pub met :
      (m : Made) → PooledIn m.pool t g → RowedIn p m.rows t → r ≡ 0 →
      (after : Made) × (name_of s t m ≡ good (name_in u, after)) × Named m after u h
  pub refused : (m : Made) → PooledIn m.pool t g → RowedIn p m.rows t → 0 < r → name_of s t m ≡ bad r
  pub low : ((k : ℕ) → get_or (t GIVEN) k 0 ≤ highest_slot) → name_in u ≤ highest_slot
  pub live : GapsLive (u COUNTS) h
  pub apart : (top : ℕ) → Apart top 1 (gaps_in (t COUNTS) g) → Apart top 1 (gaps_in (u COUNTS) h)
  pub long : length h ≡ length g
  pub counters : (c : ℕ) → among c (ODD ∷ WIDE ∷ PLAIN ∷ NAME-SLOT ∷ []) ≡ false → get_or (u COUNTS) c 0 ≡ get_or (t COUNTS) c 0
  pub kept : Kept (COUNTS ∷ []) t u
