-- Slots (document 01, "Slots"): gaps, the three positions, and one request, as `ConstSlotAllocator` does it. Assumes nothing.
use Rattle.std.specs.Prelude.{Bool, true, false, ◌&&◌, List, [], ◌∷◌, ℕ, suc, ◌+◌, ◌-◌, ◌%◌, eqb, leb, ltb, drop, set}
use Rattle.std.proofs.Math.Option.{Option, none, some}
use Rattle.std.proofs.Math.ListN.{get_elem?}
use Rattle.definition.specs.Basics.{position}

-- slots are 1 to 65534, where a job says nothing else
abbrev pub highest_slot : ℕ
highest_slot = 65534

-- the highest slot that ldc can name
abbrev pub highest_ldc : ℕ
highest_ldc = 255

-- free slots in a row, from the first to the last; none when first is last + 1
pub record Gap : Type 0 where
  pub first : ℕ
  pub last : ℕ

unfoldable pub size : Gap → ℕ
size g = suc g.last - g.first

-- the gap from `first` to just before `next`, if it has a slot, ahead of `gaps`
unfoldable pub gap_before : ℕ → ℕ → List Gap → List Gap
gap_before first next gaps = elim (ltb first next) [ true ↦ record { first = first; last = next - 1 } ∷ gaps | false ↦ gaps ]

-- the longest free runs from slot `first` on, between the held slots, which rise, up to the highest slot
unfoldable pub gaps_from : ℕ → ℕ → List ℕ → List Gap
gaps_from top first [] = gap_before first (suc top) []
gaps_from top first (n ∷ held) = gap_before first n (gaps_from top (suc n) held)

-- the gaps and the three positions, which are places in the list of gaps
pub record Slots : Type 0 where
  pub gaps : List Gap
  pub odd : ℕ
  pub wide : ℕ
  pub plain : ℕ

-- three positions start at the first gap
unfoldable pub start_slots : List Gap → Slots
start_slots gaps = record { gaps = gaps; odd = 0; wide = 0; plain = 0 }

-- the first place from a position on whose gap passes
unfoldable pub scan : (Gap → Bool) → ℕ → List Gap → ℕ
scan p at gaps = at + position p (drop at gaps)

-- the gaps once so many slots are taken from the front of the one at a place
unfoldable pub cut : ℕ → ℕ → List Gap → List Gap
cut count at gaps = elim (get_elem? gaps at) [ none ↦ gaps | some g ↦ set gaps at (record { first = g.first + count; last = g.last }) ]

-- ldc was asked, and the gap's first slot is above 255
unfoldable pub too_high : Bool → Gap → Bool
too_high ldc g = ldc && ltb highest_ldc g.first

unfoldable pub is_odd : Gap → Bool
is_odd g = eqb (size g % 2) 1

-- where the search from the plain position ends: at a gap not empty, or one too high
unfoldable pub plain_ends : Bool → Gap → Bool
plain_ends ldc g = elim (too_high ldc g) [ true ↦ true | false ↦ leb 1 (size g) ]

-- narrow, from the plain position: the first slot of the first gap not empty, under the ldc rule
unfoldable pub plain_slot : Bool → Slots → Option (ℕ × Slots)
plain_slot ldc s =
    let at = scan (plain_ends ldc) s.plain s.gaps in
    elim (get_elem? s.gaps at) [
      | none ↦ none
      | some g ↦
          elim (too_high ldc g) [
            | true ↦ none
            | false ↦ some (g.first, record { gaps = cut 1 at s.gaps; odd = s.odd; wide = s.wide; plain = at })
          ]
    ]

-- narrow: from the odd position skip gaps of even length; an odd gap gives its first slot and the position moves on,
-- unless that slot is too high for ldc; then, or past the end, the plain position decides
unfoldable pub narrow_slot : Bool → Slots → Option (ℕ × Slots)
narrow_slot ldc s =
    let at = scan is_odd s.odd s.gaps in
    let rest = plain_slot ldc (record { gaps = s.gaps; odd = at; wide = s.wide; plain = s.plain }) in
    elim (get_elem? s.gaps at) [
      | none ↦ rest
      | some g ↦
          elim (too_high ldc g) [
            | true ↦ rest
            | false ↦ some (g.first, record { gaps = cut 1 at s.gaps; odd = suc at; wide = s.wide; plain = s.plain })
          ]
    ]

-- wide: the first two slots of the first gap that has two, ldc or not
unfoldable pub wide_slot : Slots → Option (ℕ × Slots)
wide_slot s =
    let at = scan (λ g. leb 2 (size g)) s.wide s.gaps in
    elim (get_elem? s.gaps at) [
      | none ↦ none
      | some g ↦ some (g.first, record { gaps = cut 2 at s.gaps; odd = s.odd; wide = at; plain = s.plain })
    ]

-- one slot request
unfoldable pub slot_for : Bool → Bool → Slots → Option (ℕ × Slots)
slot_for true ldc s = wide_slot s
slot_for false ldc s = narrow_slot ldc s

-- the count of the pool: the first free slot of the gap that ends at the highest slot, or one more than that slot; a gap used up has
-- that number for its first
unfoldable pub count_from : ℕ → List Gap → ℕ
count_from top [] = suc top
count_from top (g ∷ gaps) = elim (eqb g.last top) [ true ↦ g.first | false ↦ count_from top gaps ]
