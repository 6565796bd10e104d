-- Rows of any contents: the check of the gaps' ends, and a request. Assumes nothing.
use mathlib.Core.Bool.{Bool, true, false}
use mathlib.Core.List.{List, [], ◌∷◌}
use mathlib.Core.Path.{◌≡◌, refl}
use Prim.Native.Nat.{ℕ, zero, suc, ◌+◌, ◌≤◌, ◌<◌}
use native.Mathlib.Numerals.{add-one}
use native.Mathlib.Omega.{arith}
use lib.ListN.{length, drop, drop_of_length-le}
use borrow.Author.Tests.{leb-true}
use Rattle.std.specs.Prelude.{Option, None}
use Rattle.std.specs.List.{list_all}
use Rattle.definition.specs.Basics.{every}
use Rattle.definition.specs.Slots.{highest_slot, Gap, slot_for}
use Rattle.facts.proofs.Lists.{both_true}
use Rattle.slots.specs.declared.Positions.{Positions}
use Rattle.slots.specs.Gaps.{GapTable, gap_of, gap_at, gaps_of, ends, AtMost, slots_of, Answered, end_fits, requested}
use Rattle.slots.proofs.Rows.{length-gaps_of, rows_from}
use Rattle.slots.proofs.Answers.{no_answer}

-- the gaps from here on decide
abbrev pub Left : GapTable → ℕ → Type 0
Left rows i = every end_fits (drop i (gaps_of rows)) ≡ every end_fits (gaps_of rows)

module _ (rows : GapTable) (i : ℕ) (r : Left rows i) where
  pub check_more : i < length rows → end_fits (gap_at rows i) ≡ true → Left rows (i + 1)
  unfolding every
  check_more h t = rw add-one (rw (rows_from rows i h, t) at r)

  pub check_fails : i < length rows → end_fits (gap_at rows i) ≡ false → false ≡ every end_fits (gaps_of rows)
  unfolding every
  check_fails h t = rw (rows_from rows i h, t) at r

  pub check_ends : length rows ≤ i → true ≡ every end_fits (gaps_of rows)
  unfolding every
  check_ends h =
      let l : length (gaps_of rows) ≤ i = rw (length-gaps_of rows) h in
      rw (drop_of_length-le (gaps_of rows) {i = i} l) at r

-- the same row by row
pub every-rows : (rows : GapTable) → list_all (λ row. end_fits (gap_of row)) rows ≡ every end_fits (gaps_of rows)
unfolding every gaps_of
every-rows [] = refl
every-rows (row ∷ rows) = rw (every-rows rows, every)

pub checked : (gaps : List Gap) → every end_fits gaps ≡ true → AtMost highest_slot (ends gaps)
unfolding every end_fits ends
checked [] e i = omega arith
checked (g ∷ gaps) e zero = leb-true g.last highest_slot (both_true (end_fits g) (every end_fits gaps) e).0
checked (g ∷ gaps) e (suc i) = checked gaps (both_true (end_fits g) (every end_fits gaps) e).1 i

module _ (rows : GapTable) (p : Positions) (wide ldc ok : Bool) (e : ok ≡ every end_fits (gaps_of rows)) where
  pub request_met :
      (after : GapTable) (r : Option (ℕ × Positions)) →
      ok ≡ true →
      Answered (slot_for wide ldc (slots_of rows p)) rows after r →
      Answered (requested wide ldc (slots_of rows p)) rows after r
  unfolding requested slots_of
  request_met after r t a = rw (← e, t, requested) a

  pub request_none : ok ≡ false → Answered (requested wide ldc (slots_of rows p)) rows rows None
  unfolding requested slots_of
  request_none t = no_answer (requested wide ldc (slots_of rows p)) rows (rw (← e, t, requested))
