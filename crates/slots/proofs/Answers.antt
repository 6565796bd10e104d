-- A request for a slot: what its search finds, what it takes, and that the definition says the same. Assumes nothing.
use mathlib.Core.Bool.{Bool, true, false}
use mathlib.Core.Option as math
use mathlib.Core.Path.{◌≡◌, refl, sym, ◌∙◌, ap}
use Prim.Native.Nat.{ℕ, ◌+◌, ◌≤◌, ◌<◌}
use native.Mathlib.Numerals.{add-one}
use native.Mathlib.Omega.{arith}
use lib.ListN.{length, set, get_or, get_elem?}
use lib.Seq.{set-get_or}
use borrow.Author.Tests.{leb-true}
use Rattle.std.specs.Prelude.{Option, Some, None}
use Rattle.definition.specs.Slots.{Gap, size, Slots, scan, cut, too_high, is_odd, plain_ends, plain_slot, narrow_slot, wide_slot, highest_slot}
use Rattle.laws.proofs.Slots.Gaps as laws
use Rattle.laws.proofs.Slots.Gaps.{cut-some, scan-at}
use Rattle.laws.proofs.Slots.SlotRequest.{has_two, odd_one}
use Rattle.slots.specs.declared.Positions.{Positions}
use Rattle.slots.specs.Gaps.{GapTable, gap_of, row_of, no_gap, gap_at, gaps_of, ends, AtMost, slots_of, less, answer_of, Answered}
use Rattle.slots.proofs.Rows.{length-gaps_of, row_place, row_end, rows_set}
use Rattle.facts.proofs.Lists.{place_out, map-set}

-- WHERE A SEARCH ENDS

module _ (p : Gap → Bool) (rows : GapTable) (from at : ℕ) (e : at ≡ scan p from (gaps_of rows)) where
  nothing : length rows ≤ at → get_elem? (gaps_of rows) (scan p from (gaps_of rows)) ≡ math.none
  nothing h = rw (← e) (place_out (gaps_of rows) at (rw (length-gaps_of rows) h))

  something : at < length rows → get_elem? (gaps_of rows) (scan p from (gaps_of rows)) ≡ math.some (gap_at rows at)
  something h = rw (← e) (row_place rows at h)

  passes : at < length rows → p (gap_at rows at) ≡ true
  passes h = scan-at p from (gaps_of rows) (gap_at rows at) (something h)

-- TAKING FROM A GAP

-- the rows once so many slots are taken from the front of the gap at a place
abbrev pub rows_less : ℕ → ℕ → GapTable → GapTable
rows_less n at rows = set rows at (less n (get_or rows at no_gap))

module _ (rows : GapTable) (at n : ℕ) (h : at < length rows) where
  set-less : gaps_of (rows_less n at rows) ≡ set (gaps_of rows) at (laws.less n (gap_at rows at))
  unfolding gap_of row_of
  set-less = rows_set rows at (laws.less n (gap_at rows at))

  gaps_less : gaps_of (rows_less n at rows) ≡ cut n at (gaps_of rows)
  gaps_less = set-less ∙ sym (cut-some n at (gaps_of rows) (gap_at rows at) (row_place rows at h))

  ends-less : ends (gaps_of (rows_less n at rows)) ≡ ends (gaps_of rows)
  unfolding ends
  ends-less =
      ap ends set-less
      ∙ map-set (λ (g : Gap). g.last) (gaps_of rows) at (laws.less n (gap_at rows at))
      ∙ ap (set (ends (gaps_of rows)) at) (sym (row_end rows at h))
      ∙ set-get_or (ends (gaps_of rows)) at 0

  -- a gap that has as many slots: its numbers fit
  pub fits-less : AtMost highest_slot (ends (gaps_of rows)) → n ≤ size (gap_at rows at) → 1 ≤ n → (gap_at rows at).first + n < 65536
  unfolding size
  fits-less low enough one = omega (arith, low at, row_end rows at h)

  -- the answer that takes them
  answer-less :
      (o : math.Option (ℕ × Slots)) (p : Positions) (slot : ℕ) (after : GapTable) →
      slot ≡ (gap_at rows at).first → after ≡ rows_less n at rows →
      o ≡ math.some ((gap_at rows at).first, record { gaps = cut n at (gaps_of rows); odd = p.odd; wide = p.wide; plain = p.plain }) →
      Answered o rows after (Some (slot, p))
  unfolding answer_of slots_of
  answer-less o p slot after s t e =
      rw (s, t)
      (record {
        answer = rw gaps_less (sym e);
        alone = tt;
        same = ends-less;
      })

-- no answer takes nothing
pub no_answer : (o : math.Option (ℕ × Slots)) (rows : GapTable) → o ≡ math.none → Answered o rows rows None
unfolding answer_of
no_answer o rows e =
    record {
      answer = sym e;
      alone = refl;
      same = refl;
    }

-- WIDE

module _ (rows : GapTable) (p : Positions) (at : ℕ) (e : at ≡ scan has_two p.wide (gaps_of rows)) where
  pub wide_unmet : length rows ≤ at → Answered (wide_slot (slots_of rows p)) rows rows None
  unfolding wide_slot slots_of
  wide_unmet h = no_answer (wide_slot (slots_of rows p)) rows (rw (nothing has_two rows p.wide at e h, wide_slot))

  pub wide_fits : AtMost highest_slot (ends (gaps_of rows)) → at < length rows → (gap_at rows at).first + 2 < 65536
  wide_fits low h =
      fits-less rows at 2 h low (leb-true 2 (size (gap_at rows at)) (passes has_two rows p.wide at e h)) (omega arith)

  pub wide_met :
      (slot : ℕ) (after : GapTable) →
      at < length rows →
      slot ≡ (gap_at rows at).first → after ≡ rows_less 2 at rows →
      Answered (wide_slot (slots_of rows p)) rows after (Some (slot, record { odd = p.odd; wide = at; plain = p.plain }))
  unfolding wide_slot slots_of
  wide_met slot after h s t =
      answer-less rows at 2 h
      (wide_slot (slots_of rows p))
      (record { odd = p.odd; wide = at; plain = p.plain })
      slot
      after
      s
      t
      (rw (something has_two rows p.wide at e h, ← e, wide_slot))

-- PLAIN

-- a gap where the plain search ends, and that isn't too high, has a slot
plain_one : (ldc : Bool) (g : Gap) → plain_ends ldc g ≡ true → too_high ldc g ≡ false → 1 ≤ size g
unfolding plain_ends
plain_one ldc g e t = leb-true 1 (size g) (rw (t, plain_ends) at e)

module _
    (rows : GapTable) (p : Positions) (ldc : Bool) (at : ℕ)
    (e : at ≡ scan (plain_ends ldc) p.plain (gaps_of rows)) where
  pub plain_unmet : length rows ≤ at → Answered (plain_slot ldc (slots_of rows p)) rows rows None
  unfolding plain_slot slots_of
  plain_unmet h =
      no_answer (plain_slot ldc (slots_of rows p)) rows
      (rw (nothing (plain_ends ldc) rows p.plain at e h, plain_slot))

  module _ (high : Bool) (t : high ≡ too_high ldc (gap_at rows at)) (h : at < length rows) where
    there : get_elem? (gaps_of rows) (scan (plain_ends ldc) p.plain (gaps_of rows)) ≡ math.some (gap_at rows at)
    there = something (plain_ends ldc) rows p.plain at e h

    pub plain_high : high ≡ true → Answered (plain_slot ldc (slots_of rows p)) rows rows None
    unfolding plain_slot slots_of
    plain_high w = no_answer (plain_slot ldc (slots_of rows p)) rows (rw (there, ← t, w, plain_slot))

    pub plain_fits : AtMost highest_slot (ends (gaps_of rows)) → high ≡ false → (gap_at rows at).first + 1 < 65536
    plain_fits low w =
        fits-less rows at 1 h low
        (plain_one ldc (gap_at rows at) (passes (plain_ends ldc) rows p.plain at e h) (sym t ∙ w))
        (omega arith)

    pub plain_met :
        (slot : ℕ) (after : GapTable) →
        high ≡ false →
        slot ≡ (gap_at rows at).first → after ≡ rows_less 1 at rows →
        Answered (plain_slot ldc (slots_of rows p)) rows after (Some (slot, record { odd = p.odd; wide = p.wide; plain = at }))
    unfolding plain_slot slots_of
    plain_met slot after w r t' =
        answer-less rows at 1 h
        (plain_slot ldc (slots_of rows p))
        (record { odd = p.odd; wide = p.wide; plain = at })
        slot
        after
        r
        t'
        (rw (there, ← t, w, ← e, plain_slot))

-- NARROW

-- the odd position stands here
abbrev pub odd_at : ℕ → Positions → Positions
odd_at at p = record { odd = at; wide = p.wide; plain = p.plain }

module _
    (rows : GapTable) (p : Positions) (ldc : Bool) (at : ℕ)
    (e : at ≡ scan is_odd p.odd (gaps_of rows)) where
  -- with no odd gap, or one that is too high, the plain search from there decides
  pub narrow_past :
      (after : GapTable) (r : Option (ℕ × Positions)) →
      length rows ≤ at →
      Answered (plain_slot ldc (slots_of rows (odd_at at p))) rows after r →
      Answered (narrow_slot ldc (slots_of rows p)) rows after r
  unfolding narrow_slot slots_of
  narrow_past after r h a = rw (nothing is_odd rows p.odd at e h, ← e, narrow_slot) a

  module _ (high : Bool) (t : high ≡ too_high ldc (gap_at rows at)) (h : at < length rows) where
    odd_there : get_elem? (gaps_of rows) (scan is_odd p.odd (gaps_of rows)) ≡ math.some (gap_at rows at)
    odd_there = something is_odd rows p.odd at e h

    pub narrow_high :
        (after : GapTable) (r : Option (ℕ × Positions)) →
        high ≡ true →
        Answered (plain_slot ldc (slots_of rows (odd_at at p))) rows after r →
        Answered (narrow_slot ldc (slots_of rows p)) rows after r
    unfolding narrow_slot slots_of
    narrow_high after r w a = rw (odd_there, ← t, w, ← e, narrow_slot) a

    pub narrow_fits : AtMost highest_slot (ends (gaps_of rows)) → (gap_at rows at).first + 1 < 65536
    narrow_fits low =
        fits-less rows at 1 h low (odd_one (gap_at rows at) (passes is_odd rows p.odd at e h)) (omega arith)

    pub narrow_met :
        (slot : ℕ) (after : GapTable) →
        high ≡ false →
        slot ≡ (gap_at rows at).first → after ≡ rows_less 1 at rows →
        Answered (narrow_slot ldc (slots_of rows p)) rows after (Some (slot, odd_at (at + 1) p))
    unfolding narrow_slot slots_of
    narrow_met slot after w r t' =
        answer-less rows at 1 h
        (narrow_slot ldc (slots_of rows p))
        (odd_at (at + 1) p)
        slot
        after
        r
        t'
        (rw (odd_there, ← t, w, ← e, add-one, narrow_slot))
