-- A search through rows of the gap table, place by place. Assumes nothing.
use mathlib.Core.Bool.{Bool, true, false}
use mathlib.Core.List.{[]}
use mathlib.Core.Path.{◌≡◌, ◌∙◌, ap}
use Prim.Native.Nat.{ℕ, suc, ◌+◌, ◌≤◌, ◌<◌}
use native.Mathlib.Numerals.{add-one}
use native.Mathlib.Omega.{arith}
use lib.Dec.{leb}
use lib.ListN.{length, drop, drop_of_length-le}
use Rattle.definition.specs.Basics.{position}
use Rattle.definition.specs.Slots.{Gap, size, scan, too_high, plain_ends}
use Rattle.facts.proofs.Lists.{position_here, position_later}
use Rattle.slots.specs.Gaps.{GapTable, gap_at, gaps_of}
use Rattle.slots.proofs.Rows.{length-gaps_of, rows_from}

-- the plain search ends at a gap that is too high, and else goes by the gap's slots
module _ (ldc high : Bool) (g : Gap) (t : high ≡ too_high ldc g) where
  pub high_ends : high ≡ true → plain_ends ldc g ≡ true
  unfolding plain_ends
  high_ends h = rw (← t, h, plain_ends)

  pub low-ends : (n : ℕ) (b : Bool) → high ≡ false → n ≡ size g → leb 1 n ≡ b → plain_ends ldc g ≡ b
  unfolding plain_ends
  low-ends n b h e f = rw (← t, h, ← e, plain_ends) f

-- what a search's loop keeps: the search from here on ends where the whole search does
abbrev pub Rest : (Gap → Bool) → GapTable → ℕ → ℕ → Type 0
Rest p rows at i = scan p i (gaps_of rows) ≡ scan p at (gaps_of rows)

module _ (p : Gap → Bool) (rows : GapTable) (at i : ℕ) (r : Rest p rows at i) where
  pub passed : i < length rows → p (gap_at rows i) ≡ false → Rest p rows at (i + 1)
  unfolding scan
  passed l t =
      let e = ap (position p) (rows_from rows i l) ∙ position_later p (gap_at rows i) (drop (suc i) (gaps_of rows)) t in
      rw add-one (omega (arith, e))

  pub found : i < length rows → p (gap_at rows i) ≡ true → i ≡ scan p at (gaps_of rows)
  unfolding scan
  found l t =
      let e = ap (position p) (rows_from rows i l) ∙ position_here p (gap_at rows i) (drop (suc i) (gaps_of rows)) t in
      omega (arith, e)

  pub ended : length rows ≤ i → i ≡ scan p at (gaps_of rows)
  unfolding scan position
  ended l =
      let e : drop i (gaps_of rows) ≡ [] = drop_of_length-le (gaps_of rows) {i = i} (rw (length-gaps_of rows) l) in
      omega (arith, ap (position p) e)
