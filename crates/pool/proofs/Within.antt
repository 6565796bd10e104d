-- The positions stay within the gaps, and gaps that lie apart are few. Assumes nothing.
use mathlib.Core.Bool.{Bool, true, false}
use mathlib.Core.List.{List, [], ◌∷◌}
use mathlib.Core.Option.{Option, none, some}
use mathlib.Core.Path.{◌≡◌, refl, subst}
use Prim.Native.Nat.{ℕ, suc, ◌+◌, ◌≤◌}
use native.Mathlib.Omega.{arith}
use lib.ListN.{length, drop, set, get_elem?, length-drop, length-set}
use Rattle.definition.specs.Slots.{Gap, Slots, scan, cut, too_high, is_odd, plain_ends, plain_slot, narrow_slot, wide_slot, slot_for}
use Rattle.facts.proofs.Lists.{none≢some, some_inj, found_inside, position-le}
use Rattle.laws.specs.Gaps.{Apart}
use Rattle.laws.proofs.Slots.SlotRequest.{has_two, wide_at, plain_at, odd_at, odd_moved}

-- no position is past the gaps
abbrev pub Within : Slots → Type 0
Within s = (s.odd ≤ length s.gaps) × (s.wide ≤ length s.gaps) × (s.plain ≤ length s.gaps)

scan-within : (p : Gap → Bool) (at : ℕ) (gaps : List Gap) → at ≤ length gaps → scan p at gaps ≤ length gaps
unfolding scan
scan-within p at gaps h = omega (arith, position-le p (drop at gaps), length-drop at gaps)

cut-length : (count at : ℕ) (gaps : List Gap) → length (cut count at gaps) ≡ length gaps
unfolding cut
cut-length count at gaps = ways (get_elem? gaps at)
  where
    ways :
        (o : Option Gap) →
        length {A = Gap} (elim o [ none ↦ gaps | some g ↦ set gaps at (record { first = g.first + count; last = g.last }) ]) ≡ length gaps
    ways none = refl
    ways (some g) = length-set gaps at (record { first = g.first + count; last = g.last })

wide_within : (s : Slots) (n : ℕ) (s' : Slots) → Within s → wide_slot s ≡ some (n, s') → Within s'
unfolding wide_slot
wide_within s n s' w h = ways (get_elem? s.gaps (wide_at s)) h
  where
    ways :
        (o : Option Gap) →
        ◌≡◌ {A = Option (ℕ × Slots)}
        (elim o [
          | none ↦ none
          | some g ↦ some (g.first, record { gaps = cut 2 (wide_at s) s.gaps; odd = s.odd; wide = wide_at s; plain = s.plain })
        ])
        (some (n, s')) →
        Within s'
    ways none e = none≢some e
    ways (some g) e =
        subst (λ (r : ℕ × Slots). Within r.1) (some_inj e)
        (let l = cut-length 2 (wide_at s) s.gaps in
        (omega arith, omega (arith, scan-within has_two s.wide s.gaps w.1), omega arith))

plain_within : (ldc : Bool) (s : Slots) (n : ℕ) (s' : Slots) → Within s → plain_slot ldc s ≡ some (n, s') → Within s'
unfolding plain_slot
plain_within ldc s n s' w h = ways (get_elem? s.gaps (plain_at ldc s)) h
  where
    met : Gap → ℕ × Slots
    met g = (g.first, record { gaps = cut 1 (plain_at ldc s) s.gaps; odd = s.odd; wide = s.wide; plain = plain_at ldc s })

    here : (g : Gap) (b : Bool) → ◌≡◌ {A = Option (ℕ × Slots)} (elim b [ true ↦ none | false ↦ some (met g) ]) (some (n, s')) → Within s'
    here g true e = none≢some e
    here g false e =
        subst (λ (r : ℕ × Slots). Within r.1) (some_inj e)
        (let l = cut-length 1 (plain_at ldc s) s.gaps in
        (omega arith, omega arith, omega (arith, scan-within (plain_ends ldc) s.plain s.gaps w.2)))

    ways :
        (o : Option Gap) →
        ◌≡◌ {A = Option (ℕ × Slots)}
        (elim o [ none ↦ none | some g ↦ elim (too_high ldc g) [ true ↦ none | false ↦ some (met g) ] ])
        (some (n, s')) →
        Within s'
    ways none e = none≢some e
    ways (some g) e = here g (too_high ldc g) e

narrow_within : (ldc : Bool) (s : Slots) (n : ℕ) (s' : Slots) → Within s → narrow_slot ldc s ≡ some (n, s') → Within s'
unfolding narrow_slot
narrow_within ldc s n s' w h = ways (get_elem? s.gaps (odd_at s)) refl h
  where
    met : Gap → ℕ × Slots
    met g = (g.first, record { gaps = cut 1 (odd_at s) s.gaps; odd = suc (odd_at s); wide = s.wide; plain = s.plain })

    plainly : plain_slot ldc (odd_moved s) ≡ some (n, s') → Within s'
    plainly = plain_within ldc (odd_moved s) n s' (scan-within is_odd s.odd s.gaps w.0, w.1, w.2)

    here :
        (g : Gap) (b : Bool) →
        get_elem? s.gaps (odd_at s) ≡ some g →
        ◌≡◌ {A = Option (ℕ × Slots)} (elim b [ true ↦ plain_slot ldc (odd_moved s) | false ↦ some (met g) ]) (some (n, s')) →
        Within s'
    here g true is e = plainly e
    here g false is e =
        subst (λ (r : ℕ × Slots). Within r.1) (some_inj e)
        (let l = cut-length 1 (odd_at s) s.gaps in
        (omega (arith, found_inside s.gaps (odd_at s) g is), omega arith, omega arith))

    ways :
        (o : Option Gap) →
        get_elem? s.gaps (odd_at s) ≡ o →
        ◌≡◌ {A = Option (ℕ × Slots)}
        (elim o [ none ↦ plain_slot ldc (odd_moved s) | some g ↦ elim (too_high ldc g) [ true ↦ plain_slot ldc (odd_moved s) | false ↦ some (met g) ] ])
        (some (n, s')) →
        Within s'
    ways none is e = plainly e
    ways (some g) is e = here g (too_high ldc g) is e

pub slot-within : (wide ldc : Bool) (s : Slots) (n : ℕ) (s' : Slots) → Within s → slot_for wide ldc s ≡ some (n, s') → Within s'
unfolding slot_for
slot-within true ldc s n s' w h = wide_within s n s' w h
slot-within false ldc s n s' w h = narrow_within ldc s n s' w h

-- each gap takes a slot or the place of one
pub apart_few : (top low : ℕ) (gaps : List Gap) → Apart top low gaps → low ≤ top + 2 → length gaps + low ≤ top + 2
apart_few top low [] a h = omega arith
apart_few top low (g ∷ gaps) a h = omega (arith, apart_few top (suc (suc g.last)) gaps a.3 (omega arith))
