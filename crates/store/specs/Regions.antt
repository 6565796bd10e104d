-- The regions by their numbers, the counters by theirs, and how large each region is. Assumes nothing.
use Rattle.std.specs.Prelude.{List, [], ◌∷◌, ◌≡◌, ℕ, ◌+◌, ◌*◌, ◌/◌, ◌≤◌, ◌<◌, length, get_or}
use Rattle.job.specs.declared.JobCounts.{JobCounts}
use Rattle.store.specs.Store.{size, store, On}
use Rattle.store.specs.JobIn.{WellFormed, counts_in}

-- regions, by the names that they have in the code, with - for _
abbrev pub COUNTS : ℕ
COUNTS = 0

abbrev pub MARKS : ℕ
MARKS = 1

abbrev pub GIVEN : ℕ
GIVEN = 2

abbrev pub INDEXES : ℕ
INDEXES = 3

abbrev pub NAME-HEADS : ℕ
NAME-HEADS = 4

abbrev pub NODE-HEADS : ℕ
NODE-HEADS = 5

abbrev pub RAW-HEADS : ℕ
RAW-HEADS = 6

abbrev pub ROW-HEADS : ℕ
ROW-HEADS = 7

abbrev pub OWNER-HEADS : ℕ
OWNER-HEADS = 8

abbrev pub NAME-LINKS : ℕ
NAME-LINKS = 9

abbrev pub NODE-LINKS : ℕ
NODE-LINKS = 10

abbrev pub RAW-LINKS : ℕ
RAW-LINKS = 11

abbrev pub ROW-LINKS : ℕ
ROW-LINKS = 12

abbrev pub OWNER-LINKS : ℕ
OWNER-LINKS = 13

abbrev pub RECORDS : ℕ
RECORDS = 14

abbrev pub OFFSETS : ℕ
OFFSETS = 15

abbrev pub FIRSTS : ℕ
FIRSTS = 16

abbrev pub SIZES : ℕ
SIZES = 17

abbrev pub GOALS : ℕ
GOALS = 18

abbrev pub CHILDREN : ℕ
CHILDREN = 19

abbrev pub NAME-PLACES : ℕ
NAME-PLACES = 20

abbrev pub NAME-GOALS : ℕ
NAME-GOALS = 21

abbrev pub RAW-KEYS : ℕ
RAW-KEYS = 22

abbrev pub RAW-ENTRIES : ℕ
RAW-ENTRIES = 23

abbrev pub ORDER : ℕ
ORDER = 24

abbrev pub NODES : ℕ
NODES = 25

abbrev pub STACK : ℕ
STACK = 26

abbrev pub PENDING : ℕ
PENDING = 27

abbrev pub INLINE : ℕ
INLINE = 28

abbrev pub ANSWERS : ℕ
ANSWERS = 29

abbrev pub ORIGINS : ℕ
ORIGINS = 30

abbrev pub VALUES : ℕ
VALUES = 31

-- counters
abbrev pub PLACE : ℕ
PLACE = 0

abbrev pub AT : ℕ
AT = 1

abbrev pub CONSTANT-COUNT : ℕ
CONSTANT-COUNT = 2

abbrev pub BOOTSTRAP-COUNT : ℕ
BOOTSTRAP-COUNT = 3

abbrev pub REFERENCE-COUNT : ℕ
REFERENCE-COUNT = 4

abbrev pub NAME-COUNT : ℕ
NAME-COUNT = 5

abbrev pub RAW-COUNT : ℕ
RAW-COUNT = 6

abbrev pub HELD-COUNT : ℕ
HELD-COUNT = 7

abbrev pub NODE-COUNT : ℕ
NODE-COUNT = 8

abbrev pub VISITS : ℕ
VISITS = 9

abbrev pub GAP-COUNT : ℕ
GAP-COUNT = 10

abbrev pub ODD : ℕ
ODD = 11

abbrev pub WIDE : ℕ
WIDE = 12

abbrev pub PLAIN : ℕ
PLAIN = 13

abbrev pub PENDING-COUNT : ℕ
PENDING-COUNT = 14

abbrev pub ROW-COUNT : ℕ
ROW-COUNT = 15

abbrev pub WRITTEN-COUNT : ℕ
WRITTEN-COUNT = 16

abbrev pub INLINE-COUNT : ℕ
INLINE-COUNT = 17

abbrev pub NAME-SLOT : ℕ
NAME-SLOT = 18

abbrev pub POOL-COUNT : ℕ
POOL-COUNT = 19

-- the regions' places from their sizes
unfoldable pub places_of : ℕ → List ℕ → List ℕ
places_of a [] = a ∷ []
places_of a (n ∷ sizes) = a ∷ places_of (a + n) sizes

-- how many entries a job has, and how many raw definitions, a raw constant counted as two
abbrev pub entries_of : JobCounts → ℕ
entries_of c = c.constants + c.bootstraps

abbrev pub raws_of : JobCounts → ℕ
raws_of c = 2 * c.raw_constants + c.raw_bootstraps

-- counts so small that the places of their regions stay below 2^25
pub record Few (c : JobCounts) : Type 0 where
  pub constants : c.constants ≤ 65536
  pub bootstraps : c.bootstraps ≤ 65536
  pub references : c.references ≤ 1048576
  pub names : c.names ≤ 1048576
  pub raw_constants : c.raw_constants ≤ 1048576
  pub raw_bootstraps : c.raw_bootstraps ≤ 1048576
  pub requests : c.requests ≤ 1048576

-- the regions of a job that counts so much in so many bytes, in their order
unfoldable pub sizes_for : JobCounts → ℕ → List ℕ
sizes_for c bytes =
    20  -- COUNTS
    ∷ entries_of c  -- MARKS
    ∷ entries_of c  -- GIVEN
    ∷ c.bootstraps  -- INDEXES
    ∷ (c.names + 2)  -- NAME-HEADS
    ∷ (2 * entries_of c + 2)  -- NODE-HEADS
    ∷ (raws_of c + 2)  -- RAW-HEADS
    ∷ (c.bootstraps + 2)  -- ROW-HEADS
    ∷ (entries_of c + 2)  -- OWNER-HEADS
    ∷ c.names  -- NAME-LINKS
    ∷ entries_of c  -- NODE-LINKS
    ∷ raws_of c  -- RAW-LINKS
    ∷ c.bootstraps  -- ROW-LINKS
    ∷ entries_of c  -- OWNER-LINKS
    ∷ entries_of c  -- RECORDS
    ∷ entries_of c  -- OFFSETS
    ∷ entries_of c  -- FIRSTS
    ∷ entries_of c  -- SIZES
    ∷ c.references  -- GOALS
    ∷ c.references  -- CHILDREN
    ∷ c.names  -- NAME-PLACES
    ∷ c.names  -- NAME-GOALS
    ∷ raws_of c  -- RAW-KEYS
    ∷ raws_of c  -- RAW-ENTRIES
    ∷ raws_of c  -- ORDER
    ∷ entries_of c  -- NODES
    ∷ (entries_of c + c.references + 1)  -- STACK
    ∷ (entries_of c + c.raw_constants)  -- PENDING
    ∷ c.bootstraps  -- INLINE
    ∷ c.requests  -- ANSWERS
    ∷ c.requests  -- ORIGINS
    ∷ bytes / 3  -- VALUES
    ∷ []

-- the regions of a job that counts so much are laid out over the words, and those before NAME-LINKS are zeros
pub record Started (c : JobCounts) (bytes : ℕ) (p before after : List ℕ) : Type 0 where
  pub places : p ≡ places_of 0 (sizes_for c bytes)
  pub long : length after ≡ length before
  pub on : On p (length after)
  pub zeros : (k : ℕ) → k < 9 → (i : ℕ) → i < size p k → get_or (store p after k) i 0 ≡ 0

-- well-formed bytes, and the places of their job's regions. It is shut, as WellFormed is
unfoldable pub Work : List ℕ → List ℕ → Type 0
Work s p = WellFormed s × (p ≡ places_of 0 (sizes_for (counts_in s) (length s)))
