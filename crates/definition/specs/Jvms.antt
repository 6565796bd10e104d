-- Reading a constant pool and bootstraps as JVMS 4.4 and 4.7.23 lay them down, by the table of shapes, which follows those pages.
-- Assumes nothing.
use Rattle.std.specs.Prelude.{true, false, List, [], ◌∷◌, ℕ, zero, suc}
use Rattle.std.proofs.Math.Option.{Option, none, some}
use Rattle.definition.specs.Basics.{lookup}
use Rattle.definition.specs.Bytes.{Parser, return, fail, ◌>>=◌, one, two, many}
use Rattle.definition.specs.Shapes.{Kind, Field, shapes, bootstrap_shape, bootstrap_tag, Entry, read_entry, is_wide}

-- what a slot of a pool shows: an entry, or none where it is the unusable slot behind a Long or a Double
abbrev pub Shown : Type 0
Shown = Option (Entry (List ℕ) ℕ)

-- in a class file a reference is an index of two bytes
unfoldable pub index : Kind → Parser ℕ
index kind = two

-- cp_info: a known tag, then its fields
unfoldable pub of_tag : ℕ → Option (List Field) → Parser (Entry (List ℕ) ℕ)
of_tag tag none = fail
of_tag tag (some fields) = read_entry index tag fields

unfoldable pub cp_info : Parser (Entry (List ℕ) ℕ)
cp_info = do
  tag ← one
  of_tag tag (lookup tag shapes)

-- entries that fill exactly so many slots: a Long or a Double takes two, which both lie below the count (4.4.5)
unfoldable pub read_slots : ℕ → Parser (List Shown)
read_slots zero = return []
read_slots (suc zero) = do
  e ← cp_info
  elim (is_wide e.tag) [ true ↦ fail | false ↦ return (some e ∷ []) ]
read_slots (suc (suc slots)) = do
  e ← cp_info
  elim (is_wide e.tag) [
    | true ↦ (do
      rest ← read_slots slots
      return (some e ∷ none ∷ rest))
    | false ↦ (do
      rest ← read_slots (suc slots)
      return (some e ∷ rest))
  ]

-- constant_pool_count is one more than the number of slots (4.1)
unfoldable pub below_count : ℕ → Parser (List Shown)
below_count zero = fail
below_count (suc slots) = read_slots slots

-- a result with no bytes left over
unfoldable pub wholly : {A : Type 0} → Option (A × List ℕ) → Option A
wholly none = none
wholly (some (a, [])) = some a
wholly (some (a, b ∷ bytes)) = none

-- a pool: what each slot from 1 on shows, or nothing where the bytes aren't a pool
unfoldable pub read_pool : List ℕ → Option (List Shown)
read_pool bytes = wholly ((two >>= below_count) bytes)

-- bootstrap_methods (4.7.23): so many, each a handle's index and its arguments'
unfoldable pub read_bootstraps : ℕ → List ℕ → Option (List (Entry (List ℕ) ℕ))
read_bootstraps count bytes = wholly (many count (read_entry index bootstrap_tag bootstrap_shape) bytes)
