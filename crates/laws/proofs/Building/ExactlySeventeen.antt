-- EXACTLY 17: an inline row is refused for want of an index exactly if it shares none and all 65,535 are used. Assumes nothing.
use mathlib.Core.List.{List}
use mathlib.Core.Logic.{◌⊎◌, inl, inr}
use mathlib.Core.Option.{Option, none, some}
use mathlib.Core.Path.{◌≡◌, refl, sym, ◌∙◌}
use Prim.Native.Nat.{ℕ, ◌≤◌, ◌<◌}
use native.Mathlib.Omega.{arith}
use lib.ListN.{length}
use Rattle.definition.specs.Basics.{bad, lookup}
use Rattle.definition.specs.Building.{Row, Rows, write_raw, index_of, row_index}
use Rattle.facts.proofs.Lists.{none≢some, order}
use Rattle.facts.proofs.Results.{bad≢good}
use Rattle.laws.specs.Statements.{ExactlySeventeen}
use Rattle.laws.proofs.Building.RowsThatOccur.{Wrote, wrote, row_old, row_new, take-some, take_none, rows_sound}

-- an index is used: written, or kept by a raw bootstrap
abbrev Used : Rows → ℕ → Type 0
Used rows i = (i < length rows.written) ⊎ ((r : Row) × (lookup i rows.waiting ≡ some r))

pub exactly_seventeen : ExactlySeventeen
exactly_seventeen rows row o = (used, refused)
  where
    r : List Row × List (ℕ × Row)
    r = write_raw rows.written rows.waiting

    w : Wrote rows.written rows.waiting r
    w = wrote rows.waiting rows.written (rows_sound o).rising

    written : (i : ℕ) → i < length r.0 → (i < length rows.written) ⊎ (length rows.written ≤ i) → Used rows i
    written i h (inl l) = inl l
    written i h (inr l) = inr (w.filled i l h)

    full : index_of row rows.inline ≡ none → row_index row rows ≡ bad 17 → (length r.0 < 65535) ⊎ (65535 ≤ length r.0) → (i : ℕ) → i < 65535 → Used rows i
    full e h (inl l) i k = bad≢good (sym h ∙ row_new row rows e ∙ take-some row rows.inline r l)
    full e h (inr l) i k = written i (omega arith) (order i (length rows.written))

    ways : row_index row rows ≡ bad 17 → (a : Option ℕ) → index_of row rows.inline ≡ a → (index_of row rows.inline ≡ none) × ((i : ℕ) → i < 65535 → Used rows i)
    ways h none e = (e, full e h (order (length r.0) 65535))
    ways h (some n) e = bad≢good (sym h ∙ row_old row rows n e)

    used : row_index row rows ≡ bad 17 → (index_of row rows.inline ≡ none) × ((i : ℕ) → i < 65535 → Used rows i)
    used h = ways h (index_of row rows.inline) refl

    unused : Used rows (length r.0) → ⊥
    unused (inl h) = let m = w.more in omega arith
    unused (inr (x, e)) = none≢some (sym w.next ∙ e)

    refuse : index_of row rows.inline ≡ none → ((i : ℕ) → i < 65535 → Used rows i) → (length r.0 < 65535) ⊎ (65535 ≤ length r.0) → row_index row rows ≡ bad 17
    refuse e h (inl l) = absurd (unused (h (length r.0) l))
    refuse e h (inr l) = row_new row rows e ∙ take_none row rows.inline r l

    refused : (index_of row rows.inline ≡ none) × ((i : ℕ) → i < 65535 → Used rows i) → row_index row rows ≡ bad 17
    refused h = refuse h.0 h.1 (order (length r.0) 65535)
