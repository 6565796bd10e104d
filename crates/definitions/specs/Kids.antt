-- The references of an entry one behind the other, as words. Assumes nothing.
use Rattle.std.specs.Prelude.{Bool, true, false, List, [], ◌∷◌, ◌≡◌, ℕ, ◌+◌, ◌/◌, ◌<◌, ◌≤◌, length, get_or, set, drop}
use Rattle.std.proofs.Math.Option.{some}
use Rattle.std.proofs.Math.ListN.{get_elem?}
use Rattle.definition.specs.Shapes.{Entry}
use Rattle.definition.specs.Job.{Reference, define}
use Rattle.job.specs.Stored.{Found, any_definition, KidsTurn}
use Rattle.store.specs.Store.{Store, put, Kept}
use Rattle.store.specs.JobIn.{counts_in, constants_in, entries_in}
use Rattle.store.specs.Regions.{COUNTS, RECORDS, OFFSETS, FIRSTS, SIZES, GOALS, VALUES, PLACE, REFERENCE-COUNT}
use Rattle.store.specs.Words.{reference_word, IsReference}
use Rattle.store.specs.Entries.{WordsAt}
use Rattle.sym_refs.specs.Names.{CitedIn}

-- entry e is the record in turn, at a place, with n references, whose words begin behind those that were counted
abbrev pub entry_put : Store → ℕ → ℕ → ℕ → Store
entry_put t e at n =
    put (put (put (put t RECORDS e (get_or (t COUNTS) PLACE 0)) OFFSETS e at) FIRSTS e (get_or (t COUNTS) REFERENCE-COUNT 0)) SIZES e n

-- one more is counted
abbrev pub counted : Store → ℕ → Store
counted t c = put t COUNTS c (get_or (t COUNTS) c 0 + 1)

-- the value of the constant worked out at a place is kept, behind those before it: t before, u after
pub record Valued (s : List ℕ) (t u : Store) (at : ℕ) : Type 0 where
  pub words : WordsAt s (u VALUES) at
  pub before : (i : ℕ) → i < at / 3 → get_or (u VALUES) i 0 ≡ get_or (t VALUES) i 0
  pub kept : Kept (VALUES ∷ []) t u

-- the bytes of a bootstrap's count, where it stands behind a reference
unfoldable pub gap_after : Bool → ℕ
gap_after true = 2
gap_after false = 0

-- what an entry refers to is there
abbrev pub AllCited : List ℕ → Entry (List ℕ) Reference → Type 0
AllCited s x = (i : ℕ) (r : Reference) → get_elem? x.kids i ≡ some r → CitedIn s r

-- the words from a place on are the first m of these references; those before are as they were
pub record Referred (s before after : List ℕ) (first m : ℕ) (kids : List Reference) : Type 0 where
  pub words :
      (i : ℕ) (r : Reference) → i < m → get_elem? kids i ≡ some r →
      (reference_word s (constants_in s) (get_or after (first + i) 0) ≡ r) × IsReference s (entries_in s) (get_or after (first + i) 0)
  pub below : (j : ℕ) → j < first → get_or after j 0 ≡ get_or before j 0

-- the first i references of an entry that ends at `next` were read, and the next one stands at `from`: t before, u now
pub record ReadSoFar (s : List ℕ) (t u : Store) (first i from : ℕ) (x : Entry (List ℕ) Reference) (next : ℕ) : Type 0 where
  pub turn : KidsTurn s x.tag i from (drop i x.kids) next
  pub goals : Referred s (t GOALS) (u GOALS) first i x.kids

-- the entry at a place has n references, and what it cites is there
pub record HasKids (s : List ℕ) (at n : ℕ) (x : Entry (List ℕ) Reference) (next : ℕ) : Type 0 where
  pub stands : Found any_definition s at (define x) next
  pub cited : AllCited s x
  pub count : n ≡ length x.kids

-- all n references were read: r is the place behind the entry
pub record ReadsAll (s : List ℕ) (t u : Store) (at n first r : ℕ) : Type 0 where
  pub all : (x : Entry (List ℕ) Reference) (next : ℕ) → HasKids s at n x next → (r ≡ next) × Referred s (t GOALS) (u GOALS) first n x.kids
  pub kept : Kept (GOALS ∷ []) t u

-- the entry at a place can be entry e: it stands there, cites what is there, and its references' words find room
pub record CanEnter (s : List ℕ) (t : Store) (at e : ℕ) (x : Entry (List ℕ) Reference) (next : ℕ) : Type 0 where
  pub stands : Found any_definition s at (define x) next
  pub cited : AllCited s x
  pub low : e < entries_in s
  pub room : get_or (t COUNTS) REFERENCE-COUNT 0 + length x.kids ≤ (counts_in s).references

-- it became entry e: t before, u after, r the place behind it
pub record Enters (s : List ℕ) (t u : Store) (at e r : ℕ) (x : Entry (List ℕ) Reference) (next : ℕ) : Type 0 where
  pub end : r ≡ next
  pub counts : u COUNTS ≡ set (t COUNTS) REFERENCE-COUNT (get_or (t COUNTS) REFERENCE-COUNT 0 + length x.kids)
  pub records : u RECORDS ≡ set (t RECORDS) e (get_or (t COUNTS) PLACE 0)
  pub offsets : u OFFSETS ≡ set (t OFFSETS) e at
  pub firsts : u FIRSTS ≡ set (t FIRSTS) e (get_or (t COUNTS) REFERENCE-COUNT 0)
  pub sizes : u SIZES ≡ set (t SIZES) e (length x.kids)
  pub goals : Referred s (t GOALS) (u GOALS) (get_or (t COUNTS) REFERENCE-COUNT 0) (length x.kids) x.kids
  pub kept : Kept (COUNTS ∷ RECORDS ∷ OFFSETS ∷ FIRSTS ∷ SIZES ∷ GOALS ∷ []) t u
