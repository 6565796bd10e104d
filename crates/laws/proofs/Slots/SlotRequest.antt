-- What one slot request does to the gaps and the positions, and when it finds no slot. Assumes nothing.
use mathlib.Core.Bool.{Bool, true, false}
use mathlib.Core.List.{List, ◌∷◌}
use mathlib.Core.Logic.{◌⊎◌, inl, inr}
use mathlib.Core.Option.{Option, none, some}
use mathlib.Core.Path.{◌≡◌, refl, sym, ap, subst, ◌∙◌}
use Prim.Native.Nat.{ℕ, suc, ◌%◌, ◌≤◌, ◌<◌}
use native.Mathlib.Omega.{arith}
use lib.Dec.{leb}
use lib.ListN.{get_elem?}
use borrow.Author.Tests.{eqb-true, ltb-true, ltb-false, leb-true, leb-false}
use Rattle.definition.specs.Basics.{good, lookup}
use Rattle.definition.specs.Shapes.{is_wide}
use Rattle.definition.specs.Definitions.{tag_at}
use Rattle.definition.specs.Resolving.{Node}
use Rattle.definition.specs.Slots.{Gap, size, Slots, scan, cut, too_high, is_odd, plain_ends, plain_slot, narrow_slot, wide_slot, slot_for}
use Rattle.definition.specs.Building.{Pool, give, allocate}
use Rattle.facts.proofs.Lists.{none≢some, true≢false, some_inj, order}
use Rattle.facts.proofs.Results.{bad≢good, good_inj}
use Rattle.laws.proofs.Slots.Gaps.{Under, scan-before, scan-at, scan-none, apart_firsts}
use Rattle.laws.specs.Gaps.{Apart}

-- how many slots a request takes
unfoldable pub width : Bool → ℕ
width true = 2
width false = 1

-- slots taken from the front of a gap that has as many; positions then stand where they may
pub record Taken (count : ℕ) (s : Slots) (n : ℕ) (s' : Slots) : Type 0 where
  pub at : ℕ
  pub gap : Gap
  pub there : get_elem? s.gaps at ≡ some gap
  pub enough : count ≤ size gap
  pub slot : n ≡ gap.first
  pub gaps : s'.gaps ≡ cut count at s.gaps
  pub plain : Under 1 s.plain s.gaps → Under 1 s'.plain s.gaps
  pub wide : Under 2 s.wide s.gaps → Under 2 s'.wide s.gaps

-- a search that passes over none but small gaps may move its position
pub under_scan :
    (few : ℕ) (p : Gap → Bool) (at : ℕ) (gaps : List Gap) →
    ((g : Gap) → p g ≡ false → size g < few) →
    Under few at gaps →
    Under few (scan p at gaps) gaps
under_scan few p at gaps small u i g e h = ways (order i at)
  where
    ways : (i < at) ⊎ (at ≤ i) → size g < few
    ways (inl o) = u i g e o
    ways (inr o) = small g (scan-before p at gaps i g e o h)

-- and if it finds none, all gaps are small
pub under_none :
    (few : ℕ) (p : Gap → Bool) (at : ℕ) (gaps : List Gap) →
    ((g : Gap) → p g ≡ false → size g < few) →
    Under few at gaps →
    get_elem? gaps (scan p at gaps) ≡ none →
    (i : ℕ) (g : Gap) →
    get_elem? gaps i ≡ some g →
    size g < few
under_none few p at gaps small u nowhere i g e = ways (order i at)
  where
    ways : (i < at) ⊎ (at ≤ i) → size g < few
    ways (inl o) = u i g e o
    ways (inr o) = small g (scan-none p at gaps nowhere i g e o)

-- WIDE

abbrev pub has_two : Gap → Bool
has_two g = leb 2 (size g)

small_two : (g : Gap) → has_two g ≡ false → size g < 2
small_two g t = leb-false 2 (size g) t

-- where the search from the wide position ends
abbrev pub wide_at : Slots → ℕ
wide_at s = scan has_two s.wide s.gaps

wide_none : (s : Slots) → get_elem? s.gaps (wide_at s) ≡ none → wide_slot s ≡ none
unfolding wide_slot
wide_none s e = rw (e, wide_slot)

wide_some :
    (s : Slots) (g : Gap) →
    get_elem? s.gaps (wide_at s) ≡ some g →
    wide_slot s ≡ some (g.first, record { gaps = cut 2 (wide_at s) s.gaps; odd = s.odd; wide = wide_at s; plain = s.plain })
unfolding wide_slot
wide_some s g e = rw (e, wide_slot)

-- a wide request that is met takes two
pub wide_taken : (s : Slots) (n : ℕ) (s' : Slots) → wide_slot s ≡ some (n, s') → Taken 2 s n s'
wide_taken s n s' h = ways (get_elem? s.gaps (wide_at s)) refl
  where
    ways : (o : Option Gap) → get_elem? s.gaps (wide_at s) ≡ o → Taken 2 s n s'
    ways none e = none≢some (sym (wide_none s e) ∙ h)
    ways (some g) e =
        subst
        (λ (r : ℕ × Slots). Taken 2 s r.0 r.1)
        (some_inj (sym (wide_some s g e) ∙ h))
        (record {
          at = wide_at s;
          gap = g;
          there = e;
          enough = leb-true 2 (size g) (scan-at has_two s.wide s.gaps g e);
          slot = refl;
          gaps = refl;
          plain = λ u. u;
          wide = under_scan 2 has_two s.wide s.gaps small_two;
        })

-- one that isn't leaves no gap of two
pub wide_refused :
    (s : Slots) → wide_slot s ≡ none → Under 2 s.wide s.gaps → (i : ℕ) (g : Gap) → get_elem? s.gaps i ≡ some g → size g < 2
wide_refused s h u = ways (get_elem? s.gaps (wide_at s)) refl
  where
    ways : (o : Option Gap) → get_elem? s.gaps (wide_at s) ≡ o → (i : ℕ) (g : Gap) → get_elem? s.gaps i ≡ some g → size g < 2
    ways none e = under_none 2 has_two s.wide s.gaps small_two u e
    ways (some g) e = none≢some (sym h ∙ wide_some s g e)

-- NARROW

-- what the tests say
ends-high : (ldc : Bool) (g : Gap) → too_high ldc g ≡ true → plain_ends ldc g ≡ true
unfolding plain_ends
ends-high ldc g e = rw (e, plain_ends)

ends_low : (ldc : Bool) (g : Gap) → too_high ldc g ≡ false → plain_ends ldc g ≡ leb 1 (size g)
unfolding plain_ends
ends_low ldc g e = rw (e, plain_ends)

-- a gap that the plain search passes over is empty
pub passed : (ldc : Bool) (g : Gap) → plain_ends ldc g ≡ false → size g < 1
passed ldc g h = ways (too_high ldc g) refl
  where
    ways : (b : Bool) → too_high ldc g ≡ b → size g < 1
    ways true t = true≢false (sym (ends-high ldc g t) ∙ h)
    ways false t = leb-false 1 (size g) (sym (ends_low ldc g t) ∙ h)

-- a gap that is too high starts above 255, and one that isn't doesn't, under ldc
pub too_high-true : (ldc : Bool) (g : Gap) → too_high ldc g ≡ true → (ldc ≡ true) × (255 < g.first)
unfolding too_high
too_high-true true g h = (refl, ltb-true 255 g.first h)
too_high-true false g h = true≢false (sym h)

pub too_high-false : (ldc : Bool) (g : Gap) → too_high ldc g ≡ false → ldc ≡ true → g.first ≤ 255
unfolding too_high
too_high-false true g h l = ltb-false 255 g.first h
too_high-false false g h l = true≢false (sym l)

-- where the search from the plain position ends
abbrev pub plain_at : Bool → Slots → ℕ
plain_at ldc s = scan (plain_ends ldc) s.plain s.gaps

plain_none : (ldc : Bool) (s : Slots) → get_elem? s.gaps (plain_at ldc s) ≡ none → plain_slot ldc s ≡ none
unfolding plain_slot
plain_none ldc s e = rw (e, plain_slot)

plain_high : (ldc : Bool) (s : Slots) (g : Gap) → get_elem? s.gaps (plain_at ldc s) ≡ some g → too_high ldc g ≡ true → plain_slot ldc s ≡ none
unfolding plain_slot
plain_high ldc s g e t = rw (e, t, plain_slot)

plain_some :
    (ldc : Bool) (s : Slots) (g : Gap) →
    get_elem? s.gaps (plain_at ldc s) ≡ some g →
    too_high ldc g ≡ false →
    plain_slot ldc s ≡ some (g.first, record { gaps = cut 1 (plain_at ldc s) s.gaps; odd = s.odd; wide = s.wide; plain = plain_at ldc s })
unfolding plain_slot
plain_some ldc s g e t = rw (e, t, plain_slot)

-- a narrow request that is met takes one slot, at most 255 under ldc
abbrev pub NarrowTaken : Bool → Slots → ℕ → Slots → Type 0
NarrowTaken ldc s n s' = Taken 1 s n s' × (ldc ≡ true → n ≤ 255)

-- one that isn't leaves no slot, or none but too high ones under ldc
abbrev pub NarrowRefused : Bool → Slots → Type 0
NarrowRefused ldc s = (i : ℕ) (g : Gap) → get_elem? s.gaps i ≡ some g → 1 ≤ size g → (ldc ≡ true) × (255 < g.first)

pub plain_taken : (ldc : Bool) (s : Slots) (n : ℕ) (s' : Slots) → plain_slot ldc s ≡ some (n, s') → NarrowTaken ldc s n s'
plain_taken ldc s n s' h = ways (get_elem? s.gaps (plain_at ldc s)) refl
  where
    taken : (g : Gap) (b : Bool) → get_elem? s.gaps (plain_at ldc s) ≡ some g → too_high ldc g ≡ b → NarrowTaken ldc s n s'
    taken g true e t = none≢some (sym (plain_high ldc s g e t) ∙ h)
    taken g false e t =
        subst
        (λ (r : ℕ × Slots). NarrowTaken ldc s r.0 r.1)
        (some_inj (sym (plain_some ldc s g e t) ∙ h)) (
          record {
            at = plain_at ldc s;
            gap = g;
            there = e;
            enough = leb-true 1 (size g) (sym (ends_low ldc g t) ∙ scan-at (plain_ends ldc) s.plain s.gaps g e);
            slot = refl;
            gaps = refl;
            plain = under_scan 1 (plain_ends ldc) s.plain s.gaps (passed ldc);
            wide = λ u. u;
          },
          too_high-false ldc g t,
        )

    ways : (o : Option Gap) → get_elem? s.gaps (plain_at ldc s) ≡ o → NarrowTaken ldc s n s'
    ways none e = none≢some (sym (plain_none ldc s e) ∙ h)
    ways (some g) e = taken g (too_high ldc g) e refl

pub plain_refused :
    (ldc : Bool) (s : Slots) (top low : ℕ) → plain_slot ldc s ≡ none → Under 1 s.plain s.gaps → Apart top low s.gaps → NarrowRefused ldc s
plain_refused ldc s top low h u a i g e one = ways (get_elem? s.gaps (plain_at ldc s)) refl
  where
    behind : (x : Gap) → get_elem? s.gaps (plain_at ldc s) ≡ some x → 255 < x.first → (i < plain_at ldc s) ⊎ (plain_at ldc s ≤ i) → 255 < g.first
    behind x f high (inl o) =
        let r = under_scan 1 (plain_ends ldc) s.plain s.gaps (passed ldc) u i g e o in
        absurd (omega arith)
    behind x f high (inr o) = let r = apart_firsts top low (plain_at ldc s) i s.gaps x g a f e o in omega arith

    found : (x : Gap) (b : Bool) → get_elem? s.gaps (plain_at ldc s) ≡ some x → too_high ldc x ≡ b → (ldc ≡ true) × (255 < g.first)
    found x true f t = let r = too_high-true ldc x t in (r.0, behind x f r.1 (order i (plain_at ldc s)))
    found x false f t = none≢some (sym h ∙ plain_some ldc s x f t)

    ways : (o : Option Gap) → get_elem? s.gaps (plain_at ldc s) ≡ o → (ldc ≡ true) × (255 < g.first)
    ways none f =
        let r = under_none 1 (plain_ends ldc) s.plain s.gaps (passed ldc) u f i g e in
        absurd (omega arith)
    ways (some x) f = found x (too_high ldc x) f refl

-- where the search from the odd position ends
abbrev pub odd_at : Slots → ℕ
odd_at s = scan is_odd s.odd s.gaps

-- the odd position has moved to where its search ends
abbrev pub odd_moved : Slots → Slots
odd_moved s = record { gaps = s.gaps; odd = odd_at s; wide = s.wide; plain = s.plain }

narrow_none : (ldc : Bool) (s : Slots) → get_elem? s.gaps (odd_at s) ≡ none → narrow_slot ldc s ≡ plain_slot ldc (odd_moved s)
unfolding narrow_slot
narrow_none ldc s e = rw (e, narrow_slot)

narrow_high :
    (ldc : Bool) (s : Slots) (g : Gap) → get_elem? s.gaps (odd_at s) ≡ some g → too_high ldc g ≡ true → narrow_slot ldc s ≡ plain_slot ldc (odd_moved s)
unfolding narrow_slot
narrow_high ldc s g e t = rw (e, t, narrow_slot)

narrow_odd :
    (ldc : Bool) (s : Slots) (g : Gap) →
    get_elem? s.gaps (odd_at s) ≡ some g →
    too_high ldc g ≡ false →
    narrow_slot ldc s ≡ some (g.first, record { gaps = cut 1 (odd_at s) s.gaps; odd = suc (odd_at s); wide = s.wide; plain = s.plain })
unfolding narrow_slot
narrow_odd ldc s g e t = rw (e, t, narrow_slot)

-- an odd gap has a slot
pub odd_one : (g : Gap) → is_odd g ≡ true → 1 ≤ size g
unfolding is_odd
odd_one g h = let r = eqb-true (size g % 2) 1 h in omega arith

pub narrow_taken : (ldc : Bool) (s : Slots) (n : ℕ) (s' : Slots) → narrow_slot ldc s ≡ some (n, s') → NarrowTaken ldc s n s'
narrow_taken ldc s n s' h = ways (get_elem? s.gaps (odd_at s)) refl
  where
    plainly : plain_slot ldc (odd_moved s) ≡ some (n, s') → NarrowTaken ldc s n s'
    plainly f =
        let (t, l) = plain_taken ldc (odd_moved s) n s' f in (
          record {
            at = t.at;
            gap = t.gap;
            there = t.there;
            enough = t.enough;
            slot = t.slot;
            gaps = t.gaps;
            plain = t.plain;
            wide = t.wide;
          },
          l,
        )

    found : (g : Gap) (b : Bool) → get_elem? s.gaps (odd_at s) ≡ some g → too_high ldc g ≡ b → NarrowTaken ldc s n s'
    found g true e t = plainly (sym (narrow_high ldc s g e t) ∙ h)
    found g false e t =
        subst
        (λ (r : ℕ × Slots). NarrowTaken ldc s r.0 r.1)
        (some_inj (sym (narrow_odd ldc s g e t) ∙ h)) (
          record {
            at = odd_at s;
            gap = g;
            there = e;
            enough = odd_one g (scan-at is_odd s.odd s.gaps g e);
            slot = refl;
            gaps = refl;
            plain = λ u. u;
            wide = λ u. u;
          },
          too_high-false ldc g t,
        )

    ways : (o : Option Gap) → get_elem? s.gaps (odd_at s) ≡ o → NarrowTaken ldc s n s'
    ways none e = plainly (sym (narrow_none ldc s e) ∙ h)
    ways (some g) e = found g (too_high ldc g) e refl

pub narrow_refused :
    (ldc : Bool) (s : Slots) (top low : ℕ) → narrow_slot ldc s ≡ none → Under 1 s.plain s.gaps → Apart top low s.gaps → NarrowRefused ldc s
narrow_refused ldc s top low h u a = ways (get_elem? s.gaps (odd_at s)) refl
  where
    found : (g : Gap) (b : Bool) → get_elem? s.gaps (odd_at s) ≡ some g → too_high ldc g ≡ b → NarrowRefused ldc s
    found g true e t = plain_refused ldc (odd_moved s) top low (sym (narrow_high ldc s g e t) ∙ h) u a
    found g false e t = none≢some (sym h ∙ narrow_odd ldc s g e t)

    ways : (o : Option Gap) → get_elem? s.gaps (odd_at s) ≡ o → NarrowRefused ldc s
    ways none e = plain_refused ldc (odd_moved s) top low (sym (narrow_none ldc s e) ∙ h) u a
    ways (some g) e = found g (too_high ldc g) e refl

-- a request that is met, wide or narrow
pub slot-taken : (wide ldc : Bool) (s : Slots) (n : ℕ) (s' : Slots) → slot_for wide ldc s ≡ some (n, s') → Taken (width wide) s n s'
unfolding slot_for width
slot-taken true ldc s n s' h = wide_taken s n s' h
slot-taken false ldc s n s' h = (narrow_taken ldc s n s' h).0

-- A REQUEST FOR A NODE

-- the two ways in which a request is met: by the slot that the node has, and by a new one
pub data Met (nodes : List Node) (ldc : Bool) (k : ℕ) (p : Pool) (s : ℕ) (p' : Pool) : Type 0 where
  old : lookup k p.given ≡ some s → p' ≡ p → Met nodes ldc k p s p'
  new :
      (slots : Slots) →
      lookup k p.given ≡ none →
      slot_for (is_wide (tag_at nodes k)) ldc p.slots ≡ some (s, slots) →
      p' ≡ record { slots = slots; given = (k, s) ∷ p.given; pending = (s, k) ∷ p.pending; version = p.version } →
      Met nodes ldc k p s p'

-- a request of a node that has no slot
pub allocate-new :
    (nodes : List Node) (ldc : Bool) (k : ℕ) (p : Pool) →
    lookup k p.given ≡ none →
    allocate nodes ldc k p ≡ give ldc k p (slot_for (is_wide (tag_at nodes k)) ldc p.slots)
unfolding allocate
allocate-new nodes ldc k p e = rw (e, allocate)

-- a request of a node that has one
pub allocate-old : (nodes : List Node) (ldc : Bool) (k s : ℕ) (p : Pool) → lookup k p.given ≡ some s → allocate nodes ldc k p ≡ good (s, p)
unfolding allocate
allocate-old nodes ldc k s p e = rw (e, allocate)

pub met :
    (nodes : List Node) (ldc : Bool) (k s : ℕ) (p p' : Pool) →
    allocate nodes ldc k p ≡ good (s, p') →
    Met nodes ldc k p s p'
unfolding give
met nodes ldc k s p p' h = ways (lookup k p.given) refl
  where
    taken :
        (o : Option (ℕ × Slots)) →
        lookup k p.given ≡ none →
        slot_for (is_wide (tag_at nodes k)) ldc p.slots ≡ o →
        give ldc k p o ≡ good (s, p') →
        Met nodes ldc k p s p'
    taken none e f g = bad≢good g
    taken (some r) e f g =
        let q = good_inj g in
        new r.1 e (f ∙ ap {B = Option (ℕ × Slots)} some (λ i. ((q i).0, r.1)))
        (sym (λ i. (q i).1) ∙ (λ i. record { slots = r.1; given = (k, (q i).0) ∷ p.given; pending = ((q i).0, k) ∷ p.pending; version = p.version }))

    ways : (o : Option ℕ) → lookup k p.given ≡ o → Met nodes ldc k p s p'
    ways none e = taken (slot_for (is_wide (tag_at nodes k)) ldc p.slots) e refl (sym (allocate-new nodes ldc k p e) ∙ h)
    ways (some n) e =
        let q = good_inj (sym (allocate-old nodes ldc k n p e) ∙ h) in
        old (e ∙ ap {B = Option ℕ} some (λ i. (q i).0)) (λ i. (sym q i).1)
