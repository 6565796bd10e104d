-- What a caller wants of a slot that was given, and that what the slot functions ask holds again. Assumes nothing.
use mathlib.Core.Bool.{Bool, true}
use mathlib.Core.List.{List, [], ◌∷◌}
use mathlib.Core.Logic.{◌⊎◌, inl, inr}
use mathlib.Core.Option.{some}
use mathlib.Core.Path.{◌≡◌, sym, ◌∙◌, ap}
use Prim.Native.Nat.{ℕ, zero, suc, ◌+◌, ◌≤◌, ◌<◌}
use native.Mathlib.Nat.{le_trans}
use native.Mathlib.Omega.{arith}
use lib.ListN.{set, get_elem?}
use Rattle.std.specs.Prelude.{Some}
use Rattle.definition.specs.Slots.{highest_slot, Gap, size, gaps_from, Slots, narrow_slot, wide_slot}
use Rattle.facts.specs.Lists.{Among, Rising}
use Rattle.laws.specs.Statements.{free_slots}
use Rattle.facts.proofs.Lists.{some_inj, order, equal, found_inside, found_set, found_elsewhere}
use Rattle.laws.proofs.Slots.Gaps.{less, cut-some, apart_start, apart_set, apart_at, apart_rise, Within, free_within, within-free}
use Rattle.laws.specs.Gaps.{Apart}
use Rattle.laws.proofs.Slots.SlotRequest.{Taken, wide_taken, narrow_taken}
use Rattle.slots.specs.declared.Positions.{Positions}
use Rattle.slots.specs.Gaps.{GapTable, gaps_of, gaps_at, ends, AtMost, slots_of, answer_of, Answered, Written}

-- WHAT THE SLOT FUNCTIONS ASK, from gaps that lie apart

pub apart_ends : (top low : ℕ) (gaps : List Gap) → Apart top (suc low) gaps → Rising low top (ends gaps)
unfolding ends
apart_ends top low [] a = tt
apart_ends top low (g ∷ gaps) a = (omega arith, a.2, apart_ends top (suc g.last) gaps a.3)

rising_most : (low top : ℕ) (ns : List ℕ) → Rising low top ns → AtMost top ns
rising_most low top [] r i = omega arith
rising_most low top (n ∷ ns) r zero = r.1
rising_most low top (n ∷ ns) r (suc i) = rising_most (suc n) top ns r.2 i

pub apart_most : (top : ℕ) (gaps : List Gap) → top ≤ highest_slot → Apart top 1 gaps → AtMost highest_slot (ends gaps)
apart_most top gaps h a i = le_trans (rising_most 0 top (ends gaps) (apart_ends top 0 gaps a) i) h

-- the first gaps lie so
pub written_apart :
    (top : ℕ) (held : List ℕ) (before after : GapTable) (count : ℕ) →
    Rising 1 top held →
    Written (gaps_from top 1 held) before after count →
    Apart top 1 (gaps_at after count)
written_apart top held before after count r w = rw w.read (apart_start top 1 held (omega arith) r)

-- A SLOT THAT WAS GIVEN

-- it and the others given with it were free, are in range and are free no more; the gaps lie apart again
pub record Given (top n width : ℕ) (before after : List Gap) : Type 0 where
  pub free : (i : ℕ) → i < width → Among (n + i) (free_slots before)
  pub gone : (i : ℕ) → i < width → Among (n + i) (free_slots after) → ⊥
  pub low : 1 ≤ n
  pub high : n + width ≤ suc top
  pub apart : Apart top 1 after

module _ (top count at : ℕ) (gaps : List Gap) (g : Gap) (there : get_elem? gaps at ≡ some g) (enough : count ≤ size g) (a : Apart top 1 gaps) where
  -- no gap holds a slot that was taken
  held-no_more : (i : ℕ) → i < count → Within (g.first + i) (set gaps at (less count g)) → ⊥
  unfolding size
  held-no_more i l (j, h, e, first, last) = ways (equal j at) (order at j)
    where
      ways : (j ≡ at) ⊎ (j ≡ at → ⊥) → (at < j) ⊎ (j ≤ at) → ⊥
      ways (inl q) o =
          let same = some_inj (sym (found_set gaps at (less count g) (found_inside gaps at g there)) ∙ ap (get_elem? (set gaps at (less count g))) (sym q) ∙ e) in
          omega (arith, ap (λ (y : Gap). y.first) same)
      ways (inr q) (inl o) =
          omega (arith, apart_rise top 1 at j gaps g h a there (sym (found_elsewhere gaps at j (less count g) q) ∙ e) o)
      ways (inr q) (inr o) =
          omega (arith, apart_rise top 1 j at gaps h g a (sym (found_elsewhere gaps at j (less count g) q) ∙ e) there (omega arith))

  taken : Given top g.first count gaps (set gaps at (less count g))
  unfolding size
  taken =
      let r = apart_at top 1 at gaps g a there in
      record {
        free = λ i l. within-free (g.first + i) at gaps g there (omega arith) (omega arith);
        gone = λ i l w. held-no_more i l (free_within (g.first + i) (set gaps at (less count g)) w);
        low = r.0;
        high = omega arith;
        apart = apart_set top 1 count at gaps g there enough a;
      }

given :
    (top count n : ℕ) (s : Slots) (s' : Slots) → Apart top 1 s.gaps → Taken count s n s' → Given top n count s.gaps s'.gaps
given top count n s s' a t =
    rw (t.slot, t.gaps, cut-some count t.at s.gaps t.gap t.there)
    (taken top count t.at s.gaps t.gap t.there t.enough a)

-- what `take_wide` and `take_narrow` gave
module _
    (top n : ℕ) (before after : GapTable) (p p' : Positions)
    (a : Apart top 1 (gaps_of before)) where
  pub wide_given :
      Answered (wide_slot (slots_of before p)) before after (Some (n, p')) → Given top n 2 (gaps_of before) (gaps_of after)
  unfolding slots_of answer_of
  wide_given w =
      given top 2 n (slots_of before p) (slots_of after p') a
      (wide_taken (slots_of before p) n (slots_of after p') (sym w.answer))

  pub narrow_given :
      (ldc : Bool) →
      Answered (narrow_slot ldc (slots_of before p)) before after (Some (n, p')) →
      Given top n 1 (gaps_of before) (gaps_of after) × (ldc ≡ true → n ≤ 255)
  unfolding slots_of answer_of
  narrow_given ldc w =
      let (t, low) = narrow_taken ldc (slots_of before p) n (slots_of after p') (sym w.answer) in
      (given top 1 n (slots_of before p) (slots_of after p') a t, low)
