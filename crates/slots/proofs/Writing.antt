-- One gap more is written. Assumes nothing.
use mathlib.Core.List.{[], ◌∷◌, ◌++◌, append-nil}
use mathlib.Core.Path.{refl, sym}
use Prim.Native.Nat.{ℕ, suc, ◌+◌, ◌-◌, ◌≤◌, ◌<◌}
use native.Mathlib.Numerals.{add-one}
use native.Mathlib.Omega.{arith}
use lib.ListN.{length, set, length-append}
use lib.Seq.{drop-set-lt}
use Rattle.definition.specs.Slots.{gap_before}
use Rattle.laws.proofs.Slots.Gaps.{gap_before-some, gap_before-none}
use Rattle.slots.specs.Gaps.{GapTable, row_of, gaps_at, Written}
use Rattle.slots.proofs.Rows.{gaps_length, gaps_snoc}

module _ (rows : GapTable) (count first next : ℕ) (fits : count ≤ length rows) where
  pub push_none : next ≤ first → Written (gaps_at rows count ++ gap_before first next []) rows rows count
  push_none h =
      rw (gap_before-none first next [] h, append-nil)
      (record {
        counted = sym (gaps_length rows count fits);
        read = refl;
        behind = refl;
      })

  pub push_some :
      first < next →
      count < length rows →
      Written (gaps_at rows count ++ gap_before first next []) rows (set rows count (record { first = first; last = next - 1 })) (count + 1)
  unfolding row_of
  push_some h l =
      rw (gap_before-some first next [] h, add-one)
      (record {
        counted = omega (arith, length-append (gaps_at rows count) (record { first = first; last = next - 1 } ∷ []), gaps_length rows count fits);
        read = gaps_snoc rows count (record { first = first; last = next - 1 }) l;
        behind = drop-set-lt (suc count) rows count (record { first = first; last = next - 1 }) (omega arith);
      })
