-- Facts on rows of the gap table as the definition's gaps. Assumes nothing.
use mathlib.Core.List.{[], ◌∷◌, ◌++◌, map-append}
use mathlib.Core.Option.{some}
use mathlib.Core.Path.{◌≡◌, ◌∙◌}
use Prim.Native.Nat.{ℕ, suc, ◌≤◌, ◌<◌}
use native.Mathlib.Omega.{arith}
use lib.ListN.{length, get_or, take, drop, set, get_elem?, length-map}
use lib.Seq.{length-take-le, get_or-take, take-suc, take-set-lt, take-suc-set}
use Rattle.definition.specs.Slots.{Gap}
use Rattle.facts.proofs.Lists.{place_map, get_map, map-set, drop-place}
use Rattle.slots.specs.Gaps.{GapTable, gap_of, row_of, no_gap, gap_at, gaps_of, gaps_at, ends}

module _ (rows : GapTable) where
  pub length-gaps_of : length (gaps_of rows) ≡ length rows
  unfolding gaps_of
  length-gaps_of = length-map rows gap_of

  -- the gap at a place
  pub row_place : (i : ℕ) → i < length rows → get_elem? (gaps_of rows) i ≡ some (gap_at rows i)
  unfolding gaps_of
  row_place i h = place_map gap_of rows i no_gap h

  -- it and those behind it
  pub rows_from : (i : ℕ) → i < length rows → drop i (gaps_of rows) ≡ gap_at rows i ∷ drop (suc i) (gaps_of rows)
  rows_from i h = drop-place (gaps_of rows) i (gap_at rows i) (row_place i h)

  pub row_end : (i : ℕ) → i < length rows → get_or (ends (gaps_of rows)) i 0 ≡ (gap_at rows i).last
  unfolding ends
  row_end i h = get_map (λ (g : Gap). g.last) (gaps_of rows) i (gap_at rows i) 0 (row_place i h)

  -- a row is changed
  pub rows_set : (at : ℕ) (g : Gap) → gaps_of (set rows at (row_of g)) ≡ set (gaps_of rows) at g
  unfolding gaps_of gap_of row_of
  rows_set at g = map-set gap_of rows at (row_of g)

module _ (rows : GapTable) (count : ℕ) where
  pub gaps_length : count ≤ length rows → length (gaps_at rows count) ≡ count
  gaps_length h = length-gaps_of (take count rows) ∙ length-take-le count rows h

  -- the gap at a place in use
  pub gap_place : (i : ℕ) → count ≤ length rows → i < count → get_elem? (gaps_at rows count) i ≡ some (gap_at rows i)
  gap_place i h l =
      let k : i < length (take count rows) = omega (arith, length-take-le count rows h) in
      row_place (take count rows) i k ∙ rw (get_or-take count rows i no_gap l)

  -- it and those behind it
  pub gaps_from_lem : (i : ℕ) → count ≤ length rows → i < count → drop i (gaps_at rows count) ≡ gap_at rows i ∷ drop (suc i) (gaps_at rows count)
  gaps_from_lem i h l = drop-place (gaps_at rows count) i (gap_at rows i) (gap_place i h l)

  pub end-place : (i : ℕ) → count ≤ length rows → i < count → get_or (ends (gaps_at rows count)) i 0 ≡ (gap_at rows i).last
  unfolding ends
  end-place i h l = get_map (λ (g : Gap). g.last) (gaps_at rows count) i (gap_at rows i) 0 (gap_place i h l)

  -- a row in use is changed
  pub gaps_set : (at : ℕ) (g : Gap) → at < count → gaps_at (set rows at (row_of g)) count ≡ set (gaps_at rows count) at g
  gaps_set at g l = rw (take-set-lt count rows at (row_of g) l) (rows_set (take count rows) at g)

  -- a row behind those in use is written
  pub gaps_snoc : (g : Gap) → count < length rows → gaps_at (set rows count (row_of g)) (suc count) ≡ gaps_at rows count ++ (g ∷ [])
  unfolding gaps_of gap_of row_of
  gaps_snoc g l = rw (take-suc-set rows count (row_of g) l) (map-append gap_of (take count rows) (row_of g ∷ []))

-- the last gap in use
pub gaps_last : (rows : GapTable) (j : ℕ) → j < length rows → gaps_at rows (suc j) ≡ gaps_at rows j ++ (gap_at rows j ∷ [])
unfolding gaps_of
gaps_last rows j h = rw (take-suc rows j no_gap h) (map-append gap_of (take j rows) (get_or rows j no_gap ∷ []))
