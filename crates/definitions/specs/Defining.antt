-- What stands in the regions after the first definitions, and what is left of the definition's run. Assumes nothing.
use Rattle.std.specs.Prelude.{true, false, List, [], ◌∷◌, ◌≡◌, ℕ, suc, ◌+◌, ◌-◌, ◌<◌, ◌≤◌, ltb, length, get_or, take, drop}
use Rattle.std.specs.Prelude as std
use Rattle.std.specs.Prelude.{Ok, Err}
use Rattle.std.proofs.Math.Option.{Option, some}
use Rattle.std.proofs.Math.ListN.{get_elem?}
use Rattle.definition.specs.Basics.{Result, good, bad, Refusal}
use Rattle.definition.specs.Shapes.{Entry}
use Rattle.definition.specs.Job.{Reference, Definition, define}
use Rattle.definition.specs.Form.{kind_of}
use Rattle.definition.specs.Numbering.{constants_of, bootstraps_of, numbered}
use Rattle.definition.specs.Definitions.{Defined, define_all, nothing_defined}
use Rattle.definition.specs.Resolving.{place_of}
use Rattle.refusal.specs.declared.Refusal as refusal
use Rattle.refusal.specs.Numbers.{number}
use Rattle.laws.specs.Counted.{count_in}
use Rattle.job.specs.Forms.{references_in, counts_of}
use Rattle.job.specs.Stored.{InTurn, any_definition, is_worked, Laid}
use Rattle.store.specs.Store.{Store, size, Kept}
use Rattle.store.specs.JobIn.{job_in, definitions_in, counts_in, namings_of, namings_in, table_in, constants_in, entries_in}
use Rattle.store.specs.Regions.{COUNTS, NAME-HEADS, RAW-HEADS, NAME-LINKS, RAW-LINKS, RECORDS, OFFSETS, FIRSTS, SIZES, GOALS, NAME-PLACES, RAW-KEYS, RAW-ENTRIES, VALUES, PLACE, AT, CONSTANT-COUNT, BOOTSTRAP-COUNT, REFERENCE-COUNT, HELD-COUNT, raws_of}
use Rattle.store.specs.Words.{reference_word, IsReference}
use Rattle.store.specs.Entries.{EntryAt, Apart, WordsAt, Entered}
use Rattle.sym_refs.specs.Names.{name_count, NamesIn}
use Rattle.raws.specs.Raws.{raw_count, RawsIn}

-- the first k definitions
abbrev pub done_in : List ℕ → ℕ → List (Definition (List ℕ))
done_in s k = take k (definitions_in s)

-- entry e of the one table after these definitions, in a job of so many constants
unfoldable pub entered_at : ℕ → List (Definition (List ℕ)) → ℕ → Option (Entry (List ℕ) Reference)
entered_at constants ds e =
    elim (ltb e constants) [ true ↦ get_elem? (constants_of ds) e | false ↦ get_elem? (bootstraps_of ds) (e - constants) ]

-- record n is entry e: as many of its table stand before it
pub record Turn (s : List ℕ) (n e : ℕ) (x : Entry (List ℕ) Reference) : Type 0 where
  pub is : get_elem? (definitions_in s) n ≡ some (define x)
  pub number : place_of (constants_in s) (kind_of x.tag) (count_in (kind_of x.tag) (done_in s n)) ≡ e

-- x is entry e: it stands at its place, its references' words are its references, and its record's number is kept
pub record EnteredAt (s records offsets firsts sizes goals : List ℕ) (end e : ℕ) (x : Entry (List ℕ) Reference) : Type 0 where
  pub at : EntryAt s offsets firsts sizes end e x
  pub kids :
      (i : ℕ) (r : Reference) → get_elem? x.kids i ≡ some r → reference_word s (constants_in s) (get_or goals (get_or firsts e 0 + i) 0) ≡ r
  pub turn : Turn s (get_or records e 0) e x

-- the entries of the first k definitions are there, with the words of their references below `end`
pub record Entries (s records offsets firsts sizes goals : List ℕ) (k end : ℕ) : Type 0 where
  pub at :
      (e : ℕ) (x : Entry (List ℕ) Reference) → entered_at (constants_in s) (done_in s k) e ≡ some x →
      EnteredAt s records offsets firsts sizes goals end e x
  pub apart :
      (d e : ℕ) (x y : Entry (List ℕ) Reference) → entered_at (constants_in s) (done_in s k) d ≡ some x →
      entered_at (constants_in s) (done_in s k) e ≡ some y → (d ≡ e → ⊥) → Apart firsts sizes d e
  pub words : (i : ℕ) → i < end → IsReference s (entries_in s) (get_or goals i 0)

abbrev pub EntriesIn : List ℕ → Store → ℕ → Type 0
EntriesIn s t k = Entries s (t RECORDS) (t OFFSETS) (t FIRSTS) (t SIZES) (t GOALS) k (get_or (t COUNTS) REFERENCE-COUNT 0)

-- the constants worked out among the entries of the first k definitions stand before a place, and their words are kept
abbrev pub ValuesIn : List ℕ → Store → ℕ → ℕ → Type 0
ValuesIn s t k at =
    (e : ℕ) (x : Entry (List ℕ) Reference) → entered_at (constants_in s) (done_in s k) e ≡ some x →
    (is_worked s (get_or (t OFFSETS) e 0) ≡ true → get_or (t OFFSETS) e 0 + 6 ≤ at) × WordsAt s (t VALUES) (get_or (t OFFSETS) e 0)

-- what was counted
pub record Counters (s counts : List ℕ) (k : ℕ) : Type 0 where
  pub constants : get_or counts CONSTANT-COUNT 0 ≡ length (constants_of (done_in s k))
  pub bootstraps : get_or counts BOOTSTRAP-COUNT 0 ≡ length (bootstraps_of (done_in s k))
  pub references : get_or counts REFERENCE-COUNT 0 ≡ references_in (done_in s k)

-- the job's definitions with numbers for literals, as the definition goes over them
unfoldable pub records_in : List ℕ → List (Definition ℕ)
records_in s = (numbered (job_in s)).definitions

-- the definition's run from definition k on
abbrev pub defined_from : ℕ → List ℕ → ℕ → Defined → Result Refusal Defined
defined_from top s k d = define_all top (constants_of (records_in s)) k (drop k (records_in s)) d

-- all of it
abbrev pub defined_in : ℕ → List ℕ → Result Refusal Defined
defined_in top s = define_all top (constants_of (records_in s)) 0 (records_in s) nothing_defined

-- the first k definitions are through, and the next one stands at a place
pub record Defining (p : List ℕ) (top : ℕ) (s : List ℕ) (t : Store) (k at : ℕ) (d : Defined) : Type 0 where
  pub few : k ≤ length (definitions_in s)
  pub rest : defined_in top s ≡ defined_from top s k d
  pub laid : Laid s (job_in s)
  pub turn : InTurn any_definition s at (drop k (definitions_in s)) laid.fifty
  pub entries : EntriesIn s t k
  pub values : ValuesIn s t k at
  pub counters : Counters s (t COUNTS) k
  pub names : NamesIn (size p NAME-HEADS) s t
  pub named : name_count t ≡ length (namings_of (done_in s k))
  pub naming : d.names ≡ take (name_count t) (namings_in s)
  pub raws : RawsIn p (constants_in s) top d.held d.indexes t
  pub room : raw_count t ≤ raws_of (counts_of (done_in s k) 0)

-- the record in turn
abbrev pub place_count : Store → ℕ
place_count t = get_or (t COUNTS) PLACE 0

-- what the definitions write
abbrev pub defined_regions : List ℕ
defined_regions =
    COUNTS
    ∷ NAME-HEADS
    ∷ RAW-HEADS
    ∷ NAME-LINKS
    ∷ RAW-LINKS
    ∷ RECORDS
    ∷ OFFSETS
    ∷ FIRSTS
    ∷ SIZES
    ∷ GOALS
    ∷ NAME-PLACES
    ∷ RAW-KEYS
    ∷ RAW-ENTRIES
    ∷ VALUES
    ∷ []

-- the definition in turn is at a place
abbrev pub InPlace : List ℕ → ℕ → List ℕ → Store → ℕ → Defined → Type 0
InPlace p top s t at d = Defining p top s t (place_count t) at d × (place_count t < length (definitions_in s))

-- so it is, of some defined. It is shut, so that a search takes it whole from the premises
unfoldable pub SomePlace : List ℕ → ℕ → List ℕ → Store → ℕ → Type 0
SomePlace p top s t at = (d : Defined) × InPlace p top s t at d

-- what a record's test answers, and what its step does: the place behind it, or why it is refused
abbrev pub Tested : Type 0
Tested = std.Result (Unit {0}) refusal.Refusal

abbrev pub Answer : Type 0
Answer = std.Result ℕ refusal.Refusal

-- the place behind a record that passed its test, or the refusal
unfoldable pub answered : Tested → ℕ → Answer
answered (Ok _) next = Ok next
answered (Err e) next = Err e

-- the definition in turn is through, and r the place behind it, or it is refused: t before, u after
pub record Stepped (p : List ℕ) (top : ℕ) (s : List ℕ) (t u : Store) (r : Answer) : Type 0 where
  pub through : (next : ℕ) → r ≡ Ok next → (d : Defined) × Defining p top s u (suc (place_count t)) next d
  pub refused : (e : refusal.Refusal) → r ≡ Err e → defined_in top s ≡ bad (record { code = number e; place = place_count t })
  pub place : place_count u ≡ place_count t
  pub counters : (c : ℕ) → HELD-COUNT < c → get_or (u COUNTS) c 0 ≡ get_or (t COUNTS) c 0
  pub kept : Kept defined_regions t u

-- all definitions are through
pub record DefinedAll (p : List ℕ) (top : ℕ) (s : List ℕ) (u : Store) (d : Defined) : Type 0 where
  pub is : defined_in top s ≡ good d
  pub naming : d.names ≡ namings_in s
  pub entered : Entered s (u OFFSETS) (u FIRSTS) (u SIZES) (u VALUES)
  pub kids :
      (e : ℕ) (x : Entry (List ℕ) Reference) → get_elem? (table_in s) e ≡ some x → (i : ℕ) (r : Reference) → get_elem? x.kids i ≡ some r →
      reference_word s (constants_in s) (get_or (u GOALS) (get_or (u FIRSTS) e 0 + i) 0) ≡ r
  pub words : (i : ℕ) → i < (counts_in s).references → IsReference s (entries_in s) (get_or (u GOALS) i 0)
  pub turns : (e : ℕ) (x : Entry (List ℕ) Reference) → get_elem? (table_in s) e ≡ some x → Turn s (get_or (u RECORDS) e 0) e x
  pub names : NamesIn (size p NAME-HEADS) s u
  pub named : name_count u ≡ length (namings_in s)
  pub raws : RawsIn p (constants_in s) top d.held d.indexes u
  pub room : raw_count u ≤ size p RAW-KEYS
  pub laid : Laid s (job_in s)
  pub at : get_or (u COUNTS) AT 0 ≡ laid.fifty + 1

-- r is 0 and they are, or they are refused by number, at the record in turn: t before, u after
pub record Defines (p : List ℕ) (top : ℕ) (s : List ℕ) (t u : Store) (r : ℕ) : Type 0 where
  pub through : r ≡ 0 → ((d : Defined) × DefinedAll p top s u d) × (place_count u ≡ length (definitions_in s))
  pub refused : 0 < r → defined_in top s ≡ bad (record { code = r; place = place_count u })
  pub counters : (c : ℕ) → HELD-COUNT < c → get_or (u COUNTS) c 0 ≡ get_or (t COUNTS) c 0
  pub kept : Kept defined_regions t u

-- the regions that start as zeros are zeros. It is shut, so that a search takes it whole from the premises
unfoldable pub Zeros : List ℕ → Store → Type 0
Zeros p t = (k : ℕ) → k < 9 → (i : ℕ) → i < size p k → get_or (t k) i 0 ≡ 0
