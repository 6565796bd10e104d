-- Facts on gaps: which slots are free in them, how they lie, and what taking slots from one changes. Assumes nothing.
use mathlib.Core.Bool.{Bool, true, false}
use mathlib.Core.List.{List, [], ◌∷◌, ◌++◌}
use mathlib.Core.Logic.{◌⊎◌, inl, inr}
use mathlib.Core.Option.{none, some}
use mathlib.Core.Path.{◌≡◌, refl, sym, ap, ◌∙◌}
use Prim.Native.Nat.{ℕ, zero, suc, ◌+◌, ◌-◌, ◌≤◌, ◌<◌}
use native.Mathlib.Omega.{arith}
use lib.ListN.{drop, get_elem?, set}
use borrow.Author.Tests.{lt-ltb, le-ltb}
use Rattle.definition.specs.Basics.{position, concat, from}
use Rattle.definition.specs.Slots.{Gap, size, gap_before, gaps_from, scan, cut}
use Rattle.facts.specs.Lists.{Among, Rising}
use Rattle.facts.proofs.Lists.{none≢some, some_inj, order, equal, found_inside, missing_outside, found_set, found_elsewhere, place_drop, among-left, among-right, among-either, position-before, position_at}
use Rattle.facts.proofs.Sums.{total, total_append, run, run-split, run-has, run-low, run-high}
use Rattle.laws.specs.Statements.{free_slots}
use Rattle.laws.specs.Gaps.{Apart}

pub apart_lower : (top low low' : ℕ) (gaps : List Gap) → low' ≤ low → Apart top low gaps → Apart top low' gaps
apart_lower top low low' [] h a = tt
apart_lower top low low' (g ∷ gaps) h a = (omega arith, a.1, a.2, a.3)

-- a gap's slots
abbrev pub slots_in : Gap → List ℕ
slots_in g = run g.first (size g)

pub free_cons : (g : Gap) (gaps : List Gap) → free_slots (g ∷ gaps) ≡ slots_in g ++ free_slots gaps
unfolding free_slots concat
free_cons g gaps = refl

pub total_free : (f : ℕ → ℕ) (g : Gap) (gaps : List Gap) → total f (free_slots (g ∷ gaps)) ≡ total f (slots_in g) + total f (free_slots gaps)
total_free f g gaps = rw (free_cons g gaps) (total_append f (slots_in g) (free_slots gaps))

pub free_nil : free_slots [] ≡ []
unfolding free_slots concat
free_nil = refl

-- WHAT IS FREE AT FIRST

pub gap_before-some : (first next : ℕ) (gaps : List Gap) → first < next → gap_before first next gaps ≡ record { first = first; last = next - 1 } ∷ gaps
unfolding gap_before
gap_before-some first next gaps h = rw (lt-ltb first next h, gap_before)

pub gap_before-none : (first next : ℕ) (gaps : List Gap) → next ≤ first → gap_before first next gaps ≡ gaps
unfolding gap_before
gap_before-none first next gaps h = rw (le-ltb first next h, gap_before)

-- the slots of a gap before a held one
pub total_before :
    (f : ℕ → ℕ) (first next : ℕ) (gaps : List Gap) →
    total f (free_slots (gap_before first next gaps)) ≡ total f (run first (next - first)) + total f (free_slots gaps)
unfolding size from total
total_before f first next gaps = ways (order first next)
  where
    ways :
        (first < next) ⊎ (next ≤ first) →
        total f (free_slots (gap_before first next gaps)) ≡ total f (run first (next - first)) + total f (free_slots gaps)
    ways (inl h) =
        let e : suc (next - 1) - first ≡ next - first = omega arith in
        rw (gap_before-some first next gaps h, free_cons, total_append, e)
    ways (inr h) =
        let e : next - first ≡ 0 = omega arith in
        rw (gap_before-none first next gaps h, e) (omega arith)

-- a run around one of its numbers
pub total_around :
    (f : ℕ → ℕ) (first n top : ℕ) →
    first ≤ n →
    n ≤ top →
    total f (run first (suc top - first)) ≡ total f (run first (n - first)) + (f n + total f (run (suc n) (suc top - suc n)))
unfolding from total
total_around f first n top h k =
    let e : suc top - first ≡ n - first + suc (suc top - suc n) = omega arith in
    let q : first + (n - first) ≡ n = omega arith in
    rw (e, run-split first (n - first) (suc (suc top - suc n)), total_append, q)

-- held and free slots together are all from the first on
pub total_start :
    (f : ℕ → ℕ) (top first : ℕ) (held : List ℕ) →
    first ≤ suc top →
    Rising first top held →
    total f held + total f (free_slots (gaps_from top first held)) ≡ total f (run first (suc top - first))
unfolding gaps_from total
total_start f top first [] h r = rw (total_before f first (suc top) [], free_nil) (omega arith)
total_start f top first (n ∷ held) h r =
    let rest = total_start f top (suc n) held (omega arith) r.2 in
    omega (arith, total_before f first n (gaps_from top (suc n) held), total_around f first n top r.0 r.1)

-- the first gaps lie apart
pub apart_before :
    (top low first next : ℕ) (gaps : List Gap) →
    low ≤ first →
    first ≤ next →
    next ≤ suc top →
    Apart top (suc next) gaps →
    Apart top low (gap_before first next gaps)
apart_before top low first next gaps h k m a = ways (order first next)
  where
    ways : (first < next) ⊎ (next ≤ first) → Apart top low (gap_before first next gaps)
    ways (inl o) =
        let e : suc (suc (next - 1)) ≡ suc next = omega arith in
        rw (gap_before-some first next gaps o) (h, omega arith, omega arith, rw e a)
    ways (inr o) = rw (gap_before-none first next gaps o) (apart_lower top (suc next) low gaps (omega arith) a)

pub apart_start : (top first : ℕ) (held : List ℕ) → first ≤ suc top → Rising first top held → Apart top first (gaps_from top first held)
unfolding gaps_from
apart_start top first [] h r = apart_before top first first (suc top) [] (omega arith) h (omega arith) tt
apart_start top first (n ∷ held) h r =
    apart_before top first first n (gaps_from top (suc n) held) (omega arith) r.0 (omega arith) (apart_start top (suc n) held (omega arith) r.2)

-- TAKING FROM A GAP

-- a gap without its first slots
abbrev pub less : ℕ → Gap → Gap
less count g = record { first = g.first + count; last = g.last }

pub cut-some : (count at : ℕ) (gaps : List Gap) (g : Gap) → get_elem? gaps at ≡ some g → cut count at gaps ≡ set gaps at (less count g)
unfolding cut
cut-some count at gaps g e = rw (e, cut)

-- a gap's first slots, and the others
pub total_less : (f : ℕ → ℕ) (count : ℕ) (g : Gap) → count ≤ size g → total f (slots_in g) ≡ total f (run g.first count) + total f (slots_in (less count g))
unfolding size
total_less f count g h =
    let e : suc g.last - g.first ≡ count + (suc g.last - (g.first + count)) = omega arith in
    rw (e, run-split g.first count (suc g.last - (g.first + count)))
    (total_append f (run g.first count) (run (g.first + count) (suc g.last - (g.first + count))))

-- taking as many as a gap has keeps the gaps apart
pub apart_set :
    (top low count at : ℕ) (gaps : List Gap) (g : Gap) →
    get_elem? gaps at ≡ some g →
    count ≤ size g →
    Apart top low gaps →
    Apart top low (set gaps at (less count g))
unfolding size
apart_set top low count at [] g e h a = tt
apart_set top low count zero (x ∷ gaps) g e h a =
    let q = some_inj e in
    let a' : Apart top low (g ∷ gaps) = rw (← q) a in
    (omega arith, omega arith, a'.2, a'.3)
apart_set top low count (suc at) (x ∷ gaps) g e h a = (a.0, a.1, a.2, apart_set top (suc (suc x.last)) count at gaps g e h a.3)

-- the slots taken and the slots then free are those that were free
pub total_set :
    (f : ℕ → ℕ) (count at : ℕ) (gaps : List Gap) (g : Gap) →
    get_elem? gaps at ≡ some g →
    count ≤ size g →
    total f (free_slots gaps) ≡ total f (run g.first count) + total f (free_slots (set gaps at (less count g)))
unfolding size
total_set f count at [] g e h = none≢some e
total_set f count zero (x ∷ gaps) g e h =
    omega (arith, ap (λ (y : Gap). total f (free_slots (y ∷ gaps))) (some_inj e), total_free f g gaps, total_free f (less count g) gaps, total_less f count g h)
total_set f count (suc at) (x ∷ gaps) g e h =
    let rest = total_set f count at gaps g e h in
    omega (arith, total_free f x gaps, total_free f x (set gaps at (less count g)))

-- every gap before a place has fewer slots than that
abbrev pub Under : ℕ → ℕ → List Gap → Type 0
Under count place gaps = (i : ℕ) (g : Gap) → get_elem? gaps i ≡ some g → i < place → size g < count

-- taking slots from a gap leaves this so
pub under_set :
    (few place count at : ℕ) (gaps : List Gap) (g : Gap) →
    get_elem? gaps at ≡ some g →
    Under few place gaps →
    Under few place (set gaps at (less count g))
unfolding size
under_set few place count at gaps g e u i x f h = ways (equal i at)
  where
    ways : (i ≡ at) ⊎ (i ≡ at → ⊥) → suc x.last - x.first < few
    ways (inl q) =
        let was : suc g.last - g.first < few = u at g e (omega arith) in
        let same = some_inj (sym (found_set gaps at (less count g) (found_inside gaps at g e)) ∙ ap (get_elem? (set gaps at (less count g))) (sym q) ∙ f) in
        omega (arith, ap (λ (y : Gap). y.first) same, ap (λ (y : Gap). y.last) same)
    ways (inr q) = u i x (sym (found_elsewhere gaps at i (less count g) q) ∙ f) h

-- A SEARCH FROM A PLACE ON

-- no gap that it passes over passes the test
pub scan-before :
    (p : Gap → Bool) (at : ℕ) (gaps : List Gap) (i : ℕ) (g : Gap) →
    get_elem? gaps i ≡ some g →
    at ≤ i →
    i < scan p at gaps →
    p g ≡ false
unfolding scan
scan-before p at gaps i g e h k =
    let q : at + (i - at) ≡ i = omega arith in
    position-before p (drop at gaps) (i - at) g (place_drop gaps at (i - at) ∙ ap (get_elem? gaps) q ∙ e) (omega arith)

-- the one where it ends does
pub scan-at : (p : Gap → Bool) (at : ℕ) (gaps : List Gap) (g : Gap) → get_elem? gaps (scan p at gaps) ≡ some g → p g ≡ true
unfolding scan
scan-at p at gaps g e = position_at p (drop at gaps) g (place_drop gaps at (position p (drop at gaps)) ∙ e)

-- if it ends nowhere, none does
pub scan-none :
    (p : Gap → Bool) (at : ℕ) (gaps : List Gap) →
    get_elem? gaps (scan p at gaps) ≡ none →
    (i : ℕ) (g : Gap) →
    get_elem? gaps i ≡ some g →
    at ≤ i →
    p g ≡ false
scan-none p at gaps e i g f h =
    let l = missing_outside gaps (scan p at gaps) e in
    let k = found_inside gaps i g f in
    scan-before p at gaps i g f h (omega arith)

-- WHICH SLOTS ARE FREE

-- a slot lies in a gap
abbrev pub Within : ℕ → List Gap → Type 0
Within s gaps = (i : ℕ) × (g : Gap) × (get_elem? gaps i ≡ some g) × (g.first ≤ s) × (s ≤ g.last)

-- a free slot lies in a gap
pub free_within : (s : ℕ) (gaps : List Gap) → Among s (free_slots gaps) → Within s gaps
unfolding size free_slots concat
free_within s [] (i, e) = none≢some e
free_within s (g ∷ gaps) a = ways (among-either s (slots_in g) (free_slots gaps) a) (free_within s gaps)
  where
    ways : Among s (slots_in g) ⊎ Among s (free_slots gaps) → (Among s (free_slots gaps) → Within s gaps) → Within s (g ∷ gaps)
    ways (inl h) rest =
        let l = run-low g.first (size g) s h in
        let u : s < g.first + (suc g.last - g.first) = run-high g.first (size g) s h in
        (0, g, refl, l, omega arith)
    ways (inr h) rest = let w = rest h in (suc w.0, w.1, w.2, w.3, w.4)

-- a slot in a gap is free
pub within-free : (s i : ℕ) (gaps : List Gap) (g : Gap) → get_elem? gaps i ≡ some g → g.first ≤ s → s ≤ g.last → Among s (free_slots gaps)
unfolding size free_slots concat
within-free s i [] g e h k = none≢some e
within-free s zero (x ∷ gaps) g e h k =
    rw (some_inj e) (among-left s (slots_in g) (free_slots gaps) (run-has g.first (size g) s h (omega arith)))
within-free s (suc i) (x ∷ gaps) g e h k = among-right s (slots_in x) (free_slots gaps) (within-free s i gaps g e h k)

-- what holds of a gap of those
pub apart_at :
    (top low i : ℕ) (gaps : List Gap) (g : Gap) →
    Apart top low gaps →
    get_elem? gaps i ≡ some g →
    (low ≤ g.first) × (g.first ≤ suc g.last) × (g.last ≤ top)
apart_at top low i [] g a e = none≢some e
apart_at top low zero (x ∷ gaps) g a e = rw (← some_inj e) (a.0, a.1, a.2)
apart_at top low (suc i) (x ∷ gaps) g a e =
    let r = apart_at top (suc (suc x.last)) i gaps g a.3 e in
    (omega arith, r.1, r.2)

-- a gap further on lies higher: it starts past the end of an earlier one
pub apart_rise :
    (top low i j : ℕ) (gaps : List Gap) (g h : Gap) →
    Apart top low gaps →
    get_elem? gaps i ≡ some g →
    get_elem? gaps j ≡ some h →
    i < j →
    suc (suc g.last) ≤ h.first
apart_rise top low i j [] g h a e f l = none≢some e
apart_rise top low i zero (x ∷ gaps) g h a e f l = absurd (omega arith)
apart_rise top low zero (suc j) (x ∷ gaps) g h a e f l =
    let r = (apart_at top (suc (suc x.last)) j gaps h a.3 f).0 in
    omega (arith, ap (λ (y : Gap). y.last) (some_inj e))
apart_rise top low (suc i) (suc j) (x ∷ gaps) g h a e f l = apart_rise top (suc (suc x.last)) i j gaps g h a.3 e f (omega arith)

-- the gaps' first slots rise
pub apart_firsts :
    (top low i j : ℕ) (gaps : List Gap) (g h : Gap) →
    Apart top low gaps →
    get_elem? gaps i ≡ some g →
    get_elem? gaps j ≡ some h →
    i ≤ j →
    g.first ≤ h.first
apart_firsts top low i j gaps g h a e f l = ways (equal i j)
  where
    ways : (i ≡ j) ⊎ (i ≡ j → ⊥) → g.first ≤ h.first
    ways (inl q) = omega (arith, ap (λ (y : Gap). y.first) (some_inj (sym e ∙ ap (get_elem? gaps) q ∙ f)))
    ways (inr q) =
        let r = apart_rise top low i j gaps g h a e f (omega arith) in
        let b = apart_at top low i gaps g a e in
        omega arith

-- two neighbours that are free lie in one gap
pub neighbours :
    (top low s : ℕ) (gaps : List Gap) → Apart top low gaps → (w : Within s gaps) → Within (suc s) gaps → suc s ≤ w.1.last
neighbours top low s gaps a (i, g, e, l, u) (j, h, f, l', u') = ways (equal i j) (order i j)
  where
    ways : (i ≡ j) ⊎ (i ≡ j → ⊥) → (i < j) ⊎ (j ≤ i) → suc s ≤ g.last
    ways (inl q) o = omega (arith, ap (λ (y : Gap). y.last) (some_inj (sym e ∙ ap (get_elem? gaps) q ∙ f)))
    ways (inr q) (inl o) = let r = apart_rise top low i j gaps g h a e f o in absurd (omega arith)
    ways (inr q) (inr o) = let r = apart_rise top low j i gaps h g a f e (omega arith) in absurd (omega arith)
