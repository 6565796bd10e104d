-- The lent gap table as the definition's gaps and positions, and what the slot functions leave in it. Assumes nothing.
use Rattle.std.specs.Prelude.{Bool, true, false, List, map, ◌≡◌, ℕ, ◌+◌, ◌≤◌, leb, length, get_or, take, drop, Option, Some, None, IfNone}
use Rattle.std.proofs.Math.Option as math
use Rattle.definition.specs.Basics.{every}
use Rattle.definition.specs.Slots.{highest_slot, Gap, Slots, slot_for}
use Rattle.slots.specs.declared.Gap.{Gap as Row}
use Rattle.slots.specs.declared.Positions.{Positions}

-- the lent table: a row is a gap record of the code
abbrev pub GapTable : Type 0
GapTable = List Row

-- the definition's gap that a row is, and back
unfoldable pub gap_of : Row → Gap
gap_of row = record { first = row.first; last = row.last }

unfoldable pub row_of : Gap → Row
row_of g = record { first = g.first; last = g.last }

-- a row that nothing was written to, which also stands for one past the end
abbrev pub no_gap : Row
no_gap = record { first = 0; last = 0 }

-- a row once so many slots are taken from its front
abbrev pub less : ℕ → Row → Row
less n row = record { first = row.first + n; last = row.last }

-- the gap at a place
abbrev pub gap_at : GapTable → ℕ → Gap
gap_at rows i = gap_of (get_or rows i no_gap)

-- the gaps that rows are, and those in use, which are the first rows
unfoldable pub gaps_of : GapTable → List Gap
gaps_of rows = map gap_of rows

abbrev pub gaps_at : GapTable → ℕ → List Gap
gaps_at rows count = gaps_of (take count rows)

-- the gaps' last slots
unfoldable pub ends : List Gap → List ℕ
ends gaps = map (λ (g : Gap). g.last) gaps

-- no number in a list is above a limit
abbrev pub AtMost : ℕ → List ℕ → Type 0
AtMost limit ns = (i : ℕ) → get_or ns i 0 ≤ limit

-- rows and positions, as the definition has them
unfoldable pub slots_of : GapTable → Positions → Slots
slots_of rows p = record { gaps = gaps_of rows; odd = p.odd; wide = p.wide; plain = p.plain }

abbrev pub slots_at_lem : GapTable → ℕ → Positions → Slots
slots_at_lem rows count p = slots_of (take count rows) p

-- a test of the code's is this one of the definition's
abbrev pub Decides : (Gap → Bool) → (Row → Bool → Type 0) → Type 0
Decides p gives = (row : Row) (b : Bool) → gives row b → b ≡ p (gap_of row)

-- a request's answer with the gaps that it left, as the definition has them
unfoldable pub answer_of : GapTable → Option (ℕ × Positions) → math.Option (ℕ × Slots)
answer_of rows (Some (n, p)) = math.some (n, slots_of rows p)
answer_of rows None = math.none

-- a slot found, if any, with the positions behind it
abbrev pub behind : Positions → Option ℕ → Option (ℕ × Positions)
behind p (Some n) = Some (n, p)
behind p None = None

-- a request is answered as the definition says, and with no slot leaves the gaps as they were; the gaps end where they ended
pub record Answered (o : math.Option (ℕ × Slots)) (before after : GapTable) (r : Option (ℕ × Positions)) : Type 0 where
  pub answer : answer_of after r ≡ o
  pub alone : IfNone r (after ≡ before)
  pub same : ends (gaps_of after) ≡ ends (gaps_of before)

-- the first rows are written with these gaps, and nothing behind them
pub record Written (gaps : List Gap) (before after : GapTable) (count : ℕ) : Type 0 where
  pub counted : count ≡ length gaps
  pub read : gaps_at after count ≡ gaps
  pub behind : drop count after ≡ drop count before

-- a request over gaps of any contents: none is met where a gap ends past the highest slot
unfoldable pub end_fits : Gap → Bool
end_fits g = leb g.last highest_slot

unfoldable pub requested : Bool → Bool → Slots → math.Option (ℕ × Slots)
requested wide ldc s = elim (every end_fits s.gaps) [ true ↦ slot_for wide ldc s | false ↦ math.none ]
