-- The layout: places rise, regions have their sizes, and so they have in the work of a job. Assumes nothing.
use mathlib.Core.List.{List, [], ◌∷◌}
use mathlib.Core.Path.{◌≡◌, refl, ap, ◌∙◌}
use Prim.Native.Nat.{ℕ, zero, suc, ◌+◌, ◌*◌, ◌/◌, ◌<◌}
use native.Mathlib.Omega.{arith}
use lib.ListN.{length, get_or, length-append}
use Rattle.job.specs.declared.JobCounts.{JobCounts}
use Rattle.job.specs.Forms.{counts_of}
use Rattle.definition.specs.Numbering.{constants_of, bootstraps_of}
use Rattle.store.specs.Store.{size, Laid}
use Rattle.store.specs.JobIn.{WellFormed, definitions_in, counts_in, table_of, entries_in}
use Rattle.store.specs.Regions.{places_of, entries_of, raws_of, sizes_for, Work, COUNTS, MARKS, GIVEN, INDEXES, NAME-HEADS, NODE-HEADS, RAW-HEADS, ROW-HEADS, OWNER-HEADS, NAME-LINKS, NODE-LINKS, RAW-LINKS, ROW-LINKS, OWNER-LINKS, RECORDS, OFFSETS, FIRSTS, SIZES, GOALS, CHILDREN, NAME-PLACES, NAME-GOALS, RAW-KEYS, RAW-ENTRIES, ORDER, NODES, STACK, PENDING, INLINE, ANSWERS, ORIGINS, VALUES}

pub length-places : (a : ℕ) (sizes : List ℕ) → length (places_of a sizes) ≡ suc (length sizes)
unfolding places_of
length-places a [] = refl
length-places a (n ∷ sizes) = ap suc (length-places (a + n) sizes)

pub head_place : (a : ℕ) (sizes : List ℕ) → get_or (places_of a sizes) 0 0 ≡ a
unfolding places_of
head_place a [] = refl
head_place a (n ∷ sizes) = refl

pub next_place :
    (a : ℕ) (sizes : List ℕ) (k : ℕ) → k < length sizes → get_or (places_of a sizes) (suc k) 0 ≡ get_or (places_of a sizes) k 0 + get_or sizes k 0
unfolding places_of
next_place a [] k h = absurd (omega arith)
next_place a (n ∷ sizes) zero h = head_place (a + n) sizes
next_place a (n ∷ sizes) (suc k) h = next_place (a + n) sizes k (omega arith)

pub places_laid : (sizes : List ℕ) → length sizes ≡ 32 → Laid (places_of 0 sizes)
unfolding Laid
places_laid sizes e = (length-places 0 sizes ∙ ap suc e, λ k h. omega (arith, next_place 0 sizes k (omega arith)))

pub places_size : (sizes : List ℕ) (k : ℕ) → k < length sizes → size (places_of 0 sizes) k ≡ get_or sizes k 0
unfolding size
places_size sizes k h = omega (arith, next_place 0 sizes k h)

-- how many words each region has
pub record Sizes (p : List ℕ) (c : JobCounts) (bytes : ℕ) : Type 0 where
  pub counts : size p COUNTS ≡ 20
  pub marks : size p MARKS ≡ entries_of c
  pub given : size p GIVEN ≡ entries_of c
  pub indexes : size p INDEXES ≡ c.bootstraps
  pub name_heads : size p NAME-HEADS ≡ c.names + 2
  pub node_heads : size p NODE-HEADS ≡ 2 * entries_of c + 2
  pub raw_heads_lem : size p RAW-HEADS ≡ raws_of c + 2
  pub row_heads_lem : size p ROW-HEADS ≡ c.bootstraps + 2
  pub owner_heads_lem : size p OWNER-HEADS ≡ entries_of c + 2
  pub name_links : size p NAME-LINKS ≡ c.names
  pub node_links : size p NODE-LINKS ≡ entries_of c
  pub raw_links : size p RAW-LINKS ≡ raws_of c
  pub row_links : size p ROW-LINKS ≡ c.bootstraps
  pub owner_links : size p OWNER-LINKS ≡ entries_of c
  pub records : size p RECORDS ≡ entries_of c
  pub offsets : size p OFFSETS ≡ entries_of c
  pub firsts : size p FIRSTS ≡ entries_of c
  pub sizes : size p SIZES ≡ entries_of c
  pub goals : size p GOALS ≡ c.references
  pub children : size p CHILDREN ≡ c.references
  pub name_places : size p NAME-PLACES ≡ c.names
  pub name_goals : size p NAME-GOALS ≡ c.names
  pub raw_keys : size p RAW-KEYS ≡ raws_of c
  pub raw_entries : size p RAW-ENTRIES ≡ raws_of c
  pub order : size p ORDER ≡ raws_of c
  pub nodes : size p NODES ≡ entries_of c
  pub stack : size p STACK ≡ entries_of c + c.references + 1
  pub pending : size p PENDING ≡ entries_of c + c.raw_constants
  pub inline : size p INLINE ≡ c.bootstraps
  pub answers : size p ANSWERS ≡ c.requests
  pub origins : size p ORIGINS ≡ c.requests
  pub values : size p VALUES ≡ bytes / 3

sized : (c : JobCounts) (bytes : ℕ) (p : List ℕ) → p ≡ places_of 0 (sizes_for c bytes) → (k n : ℕ) → k < 32 → get_or (sizes_for c bytes) k 0 ≡ n → size p k ≡ n
unfolding sizes_for
sized c bytes p e k n h g = rw e (places_size (sizes_for c bytes) k h ∙ g)

pub work-sizes : (s p : List ℕ) → Work s p → Sizes p (counts_in s) (length s)
unfolding Work sizes_for
work-sizes s p (formed, e) =
    let c = counts_in s in
    let n = length s in
    record {
      counts = sized c n p e COUNTS _ (omega arith) refl;
      marks = sized c n p e MARKS _ (omega arith) refl;
      given = sized c n p e GIVEN _ (omega arith) refl;
      indexes = sized c n p e INDEXES _ (omega arith) refl;
      name_heads = sized c n p e NAME-HEADS _ (omega arith) refl;
      node_heads = sized c n p e NODE-HEADS _ (omega arith) refl;
      raw_heads_lem = sized c n p e RAW-HEADS _ (omega arith) refl;
      row_heads_lem = sized c n p e ROW-HEADS _ (omega arith) refl;
      owner_heads_lem = sized c n p e OWNER-HEADS _ (omega arith) refl;
      name_links = sized c n p e NAME-LINKS _ (omega arith) refl;
      node_links = sized c n p e NODE-LINKS _ (omega arith) refl;
      raw_links = sized c n p e RAW-LINKS _ (omega arith) refl;
      row_links = sized c n p e ROW-LINKS _ (omega arith) refl;
      owner_links = sized c n p e OWNER-LINKS _ (omega arith) refl;
      records = sized c n p e RECORDS _ (omega arith) refl;
      offsets = sized c n p e OFFSETS _ (omega arith) refl;
      firsts = sized c n p e FIRSTS _ (omega arith) refl;
      sizes = sized c n p e SIZES _ (omega arith) refl;
      goals = sized c n p e GOALS _ (omega arith) refl;
      children = sized c n p e CHILDREN _ (omega arith) refl;
      name_places = sized c n p e NAME-PLACES _ (omega arith) refl;
      name_goals = sized c n p e NAME-GOALS _ (omega arith) refl;
      raw_keys = sized c n p e RAW-KEYS _ (omega arith) refl;
      raw_entries = sized c n p e RAW-ENTRIES _ (omega arith) refl;
      order = sized c n p e ORDER _ (omega arith) refl;
      nodes = sized c n p e NODES _ (omega arith) refl;
      stack = sized c n p e STACK _ (omega arith) refl;
      pending = sized c n p e PENDING _ (omega arith) refl;
      inline = sized c n p e INLINE _ (omega arith) refl;
      answers = sized c n p e ANSWERS _ (omega arith) refl;
      origins = sized c n p e ORIGINS _ (omega arith) refl;
      values = sized c n p e VALUES _ (omega arith) refl;
    }

pub work-formed : (s p : List ℕ) → Work s p → WellFormed s
unfolding Work
work-formed s p h = h.0

pub entries-counted : (s : List ℕ) → entries_of (counts_in s) ≡ entries_in s
unfolding counts_in counts_of table_of
entries-counted s = rw (length-append (constants_of (definitions_in s)) (bootstraps_of (definitions_in s)))
