-- The pool's count by the last gap alone. Assumes nothing.
use mathlib.Core.List.{List, [], ◌∷◌, ◌++◌}
use mathlib.Core.Path.{◌≡◌, refl, sym, ◌∙◌, ap}
use Prim.Native.Nat.{ℕ, suc, ◌+◌, ◌-◌, ◌≤◌, ◌<◌}
use native.Mathlib.Numerals.{add-one}
use native.Mathlib.Omega.{arith}
use lib.ListN.{length}
use borrow.Author.Tests.{eq-eqb, ne_eqb}
use Rattle.definition.specs.Slots.{Gap, count_from}
use Rattle.facts.specs.Lists.{Rising}
use Rattle.std.specs.Prelude.{◌⊎◌, Some, None, slice_get}
use Rattle.std.proofs.Common.{inl, inr}
use Rattle.std.proofs.lemmas.List.{take_all, nil_from_length}
use Rattle.std.proofs.lemmas.Option.{slice_get_within, get_or_from_slice_get, slice_get-get_or}
use Rattle.facts.proofs.Lists.{order}
use Rattle.slots.specs.declared.Gap.{Gap as Row}
use Rattle.slots.specs.Gaps.{GapTable, gap_of, no_gap, gap_at, gaps_of, gaps_at, ends}
use Rattle.slots.proofs.Rows.{gaps_last}

pub count_hit : (top : ℕ) (g : Gap) (gaps : List Gap) → g.last ≡ top → count_from top (g ∷ gaps) ≡ g.first
unfolding count_from
count_hit top g gaps e = rw (eq-eqb g.last top e, count_from)

count_miss : (top : ℕ) (g : Gap) (gaps : List Gap) → (g.last ≡ top → ⊥) → count_from top (g ∷ gaps) ≡ count_from top gaps
unfolding count_from
count_miss top g gaps e = rw (ne_eqb g.last top e, count_from)

pub count_past : (top : ℕ) (g : Gap) → (g.last ≡ top → ⊥) → top + 1 ≡ count_from top (g ∷ [])
unfolding count_from
count_past top g e = rw add-one (sym (count_miss top g [] e))

-- where the gaps' ends rise, only the last one can be the highest slot
rising_low : (low top : ℕ) (gaps : List Gap) (g : Gap) → Rising low top (ends (gaps ++ (g ∷ []))) → low ≤ top
unfolding ends
rising_low low top [] g r = omega arith
rising_low low top (x ∷ gaps) g r = omega arith

count_last :
    (low top : ℕ) (gaps : List Gap) (g : Gap) →
    Rising low top (ends (gaps ++ (g ∷ []))) →
    count_from top (gaps ++ (g ∷ [])) ≡ count_from top (g ∷ [])
unfolding ends
count_last low top [] g r = refl
count_last low top (x ∷ gaps) g r =
    let l = rising_low (suc x.last) top gaps g r.2 in
    count_miss top x (gaps ++ (g ∷ [])) (λ e. omega arith) ∙ count_last (suc x.last) top gaps g r.2

module _ (rows : GapTable) (top : ℕ) (rise : Rising 0 top (ends (gaps_of rows))) where
  pub count_none : length rows ≡ 0 → top + 1 ≡ count_from top (gaps_of rows)
  unfolding gaps_of count_from
  count_none e = rw (nil_from_length rows e, add-one)

  -- the last gap is the one at `length rows - 1`
  pub by_last : (length rows ≡ 0 → ⊥) → count_from top (gaps_of rows) ≡ count_from top (gap_at rows (length rows - 1) ∷ [])
  by_last some =
      let h : length rows - 1 < length rows = omega arith in
      let e : suc (length rows - 1) ≡ length rows = omega arith in
      let q : gaps_of rows ≡ gaps_at rows (length rows - 1) ++ (gap_at rows (length rows - 1) ∷ []) =
      ap gaps_of (sym (take_all (length rows) rows (omega arith))) ∙ ap (gaps_at rows) (sym e) ∙ gaps_last rows (length rows - 1) h in
      ap (count_from top) q ∙ count_last 0 top (gaps_at rows (length rows - 1)) (gap_at rows (length rows - 1)) (rw q at rise)

  -- the same by the last row, or that there is none
  counted : (row : Row) → Some row ≡ slice_get rows (length rows - 1) → count_from top (gaps_of rows) ≡ count_from top (gap_of row ∷ [])
  counted row e =
      let here = slice_get_within rows (length rows - 1) row (sym e) in
      by_last (λ z. omega (arith, here)) ∙ ap (λ (r : Row). count_from top (gap_of r ∷ [])) (get_or_from_slice_get rows (length rows - 1) row no_gap (sym e))

  pub last_hit : (row : Row) → Some row ≡ slice_get rows (length rows - 1) → row.last ≡ top → row.first ≡ count_from top (gaps_of rows)
  unfolding gap_of
  last_hit row e h = sym (counted row e ∙ count_hit top (gap_of row) [] h)

  pub last_past : (row : Row) → Some row ≡ slice_get rows (length rows - 1) → (row.last ≡ top → ⊥) → top + 1 ≡ count_from top (gaps_of rows)
  unfolding gap_of
  last_past row e h = count_past top (gap_of row) h ∙ sym (counted row e)

  pub last_none : None ≡ slice_get rows (length rows - 1) → top + 1 ≡ count_from top (gaps_of rows)
  last_none e = ways (order (length rows - 1) (length rows))
    where
      ways : (length rows - 1 < length rows) ⊎ (length rows ≤ length rows - 1) → top + 1 ≡ count_from top (gaps_of rows)
      ways (inl h) = let same = e ∙ slice_get-get_or rows (length rows - 1) no_gap h in absurd (let never : ⊥ = cc in never)
      ways (inr h) = count_none (omega arith)
