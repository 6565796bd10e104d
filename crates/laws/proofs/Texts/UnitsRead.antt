-- Reading the units of bytes, form by form: what each first byte says, what follows it, and that the fuel lasts. Assumes nothing.
use mathlib.Core.Bool.{Bool, true, false}
use mathlib.Core.List.{List, [], ◌∷◌}
use mathlib.Core.Option.{Option, none, some}
use mathlib.Core.Logic.{◌⊎◌, inl, inr}
use mathlib.Core.Path.{◌≡◌, refl, sym, ap, subst, ◌∙◌}
use Prim.Native.Nat.{ℕ, zero, suc, ◌+◌, ◌*◌, ◌-◌, ◌<◌, ◌≤◌}
use native.Mathlib.Nat.{le_refl}
use native.Mathlib.Omega.{arith}
use borrow.Author.Tests.{le-leb, lt-leb, leb-true}
use lib.Dec.{leb}
use lib.ListN.{length}
use Rattle.definition.specs.Bytes.{Parser, fail, one}
use Rattle.definition.specs.Texts.{between, leading, trailing, unit, units, units_of}
use Rattle.facts.proofs.Each.{Each}
use Rattle.facts.proofs.Lists.{clash, none≢some, some_inj, and-false, both_true, order}

-- TESTS

module _ (low high n : ℕ) where
  pub between_in : low ≤ n → n ≤ high → between low high n ≡ true
  unfolding between
  between_in l h = rw (le-leb low n l, le-leb n high h)

  pub between-below : n < low → between low high n ≡ false
  unfolding between
  between-below l = rw (lt-leb low n l)

  pub between-above : high < n → between low high n ≡ false
  unfolding between
  between-above h = rw (lt-leb n high h) (and-false (leb low n))

  pub between-true : between low high n ≡ true → (low ≤ n) × (n ≤ high)
  unfolding between
  between-true e = let b = both_true (leb low n) (leb n high) e in (leb-true low n b.0, leb-true n high b.1)

-- A FORM'S FIRST BYTE

-- the definition's choice, by its three tests
abbrev lead_by : Bool → Bool → Bool → ℕ → Option (ℕ × ℕ)
lead_by first second third b =
    elim first [
      | true ↦ some (0, b)
      | false ↦ elim second [ true ↦ some (1, b - 0xc0) | false ↦ elim third [ true ↦ some (2, b - 0xe0) | false ↦ none ] ]
    ]

module _ (b : ℕ) (x y z : Bool) where
  lead_by_lem : between 0x01 0x7f b ≡ x → between 0xc0 0xdf b ≡ y → between 0xe0 0xef b ≡ z → leading b ≡ lead_by x y z b
  unfolding leading
  lead_by_lem p q r = λ i. lead_by (p i) (q i) (r i) b

pub lead_one : (b : ℕ) → 0x01 ≤ b → b < 0x80 → leading b ≡ some (0, b)
lead_one b l h =
    lead_by_lem b true false false
    (between_in 0x01 0x7f b l (omega arith)) (between-below 0xc0 0xdf b (omega arith)) (between-below 0xe0 0xef b (omega arith))

pub lead_two : (b : ℕ) → 0xc0 ≤ b → b < 0xe0 → leading b ≡ some (1, b - 0xc0)
lead_two b l h =
    lead_by_lem b false true false
    (between-above 0x01 0x7f b (omega arith)) (between_in 0xc0 0xdf b l (omega arith)) (between-below 0xe0 0xef b (omega arith))

pub lead_three : (b : ℕ) → 0xe0 ≤ b → b < 0xf0 → leading b ≡ some (2, b - 0xe0)
lead_three b l h =
    lead_by_lem b false false true
    (between-above 0x01 0x7f b (omega arith)) (between-above 0xc0 0xdf b (omega arith)) (between_in 0xe0 0xef b l (omega arith))

-- no form begins with 00, with a byte that follows in one, or from F0 on
pub lead_zero : (b : ℕ) → b ≡ 0 → leading b ≡ none
lead_zero b e =
    lead_by_lem b false false false
    (between-below 0x01 0x7f b (omega arith)) (between-below 0xc0 0xdf b (omega arith)) (between-below 0xe0 0xef b (omega arith))

pub lead_follower : (b : ℕ) → 0x80 ≤ b → b < 0xc0 → leading b ≡ none
lead_follower b l h =
    lead_by_lem b false false false
    (between-above 0x01 0x7f b (omega arith)) (between-below 0xc0 0xdf b (omega arith)) (between-below 0xe0 0xef b (omega arith))

pub lead_high : (b : ℕ) → 0xf0 ≤ b → leading b ≡ none
lead_high b l =
    lead_by_lem b false false false
    (between-above 0x01 0x7f b (omega arith)) (between-above 0xc0 0xdf b (omega arith)) (between-above 0xe0 0xef b (omega arith))

-- THE BYTES THAT FOLLOW

module _ (n bits b : ℕ) (bytes : List ℕ) where
  abbrev trail_by : Bool → Parser ℕ
  trail_by t = elim t [ true ↦ trailing n (64 * bits + (b - 0x80)) | false ↦ fail ]

  pub trail_more : between 0x80 0xbf b ≡ true → trailing (suc n) bits (b ∷ bytes) ≡ trailing n (64 * bits + (b - 0x80)) bytes
  unfolding trailing one
  trail_more e = ap (λ t. trail_by t bytes) e

  pub trail_none : between 0x80 0xbf b ≡ false → trailing (suc n) bits (b ∷ bytes) ≡ none
  unfolding trailing one
  trail_none e = ap (λ t. trail_by t bytes) e

pub trail_end : (n bits : ℕ) → trailing (suc n) bits [] ≡ none
unfolding trailing one
trail_end n bits = refl

pub trail_done : (bits : ℕ) (bytes : List ℕ) → trailing 0 bits bytes ≡ some (bits, bytes)
unfolding trailing
trail_done bits bytes = refl

-- A FORM

module _ (b : ℕ) (bytes : List ℕ) where
  abbrev unit_by : Option (ℕ × ℕ) → Parser ℕ
  unit_by o = elim o [ none ↦ fail | some l ↦ trailing l.0 l.1 ]

  pub unit-led : (l : ℕ × ℕ) → leading b ≡ some l → unit (b ∷ bytes) ≡ trailing l.0 l.1 bytes
  unfolding unit one
  unit-led l e = ap (λ o. unit_by o bytes) e

  pub unit-not-led : leading b ≡ none → unit (b ∷ bytes) ≡ none
  unfolding unit one
  unit-not-led e = ap (λ o. unit_by o bytes) e

-- a form takes a byte at least
trail_shorter : (n bits : ℕ) (bytes : List ℕ) (r : ℕ × List ℕ) → trailing n bits bytes ≡ some r → length r.1 ≤ length bytes
trail_shorter zero bits bytes r e = let same = ap (λ x. length x.1) (some_inj (sym (trail_done bits bytes) ∙ e)) in omega arith
trail_shorter (suc n) bits [] r e = none≢some (sym (trail_end n bits) ∙ e)
trail_shorter (suc n) bits (b ∷ bytes) r e = ways (between 0x80 0xbf b) refl (trail_shorter n (64 * bits + (b - 0x80)) bytes r)
  where
    ways :
        (t : Bool) → between 0x80 0xbf b ≡ t → (trailing n (64 * bits + (b - 0x80)) bytes ≡ some r → length r.1 ≤ length bytes) →
        length r.1 ≤ suc (length bytes)
    ways true q ih = let h = ih (sym (trail_more n bits b bytes q) ∙ e) in omega arith
    ways false q ih = none≢some (sym (trail_none n bits b bytes q) ∙ e)

unit-shorter : (b : ℕ) (bytes : List ℕ) (r : ℕ × List ℕ) → unit (b ∷ bytes) ≡ some r → length r.1 ≤ length bytes
unit-shorter b bytes r e = ways (leading b) refl
  where
    ways : (o : Option (ℕ × ℕ)) → leading b ≡ o → length r.1 ≤ length bytes
    ways none q = none≢some (sym (unit-not-led b bytes q) ∙ e)
    ways (some l) q = trail_shorter l.0 l.1 bytes r (sym (unit-led b bytes l q) ∙ e)

-- UNITS

-- a unit in front of others
abbrev pub consed : ℕ → Option (List ℕ) → Option (List ℕ)
consed u none = none
consed u (some l) = some (u ∷ l)

module _ (most b : ℕ) (bytes : List ℕ) where
  abbrev units_by : Option (ℕ × List ℕ) → Option (List ℕ)
  units_by o = elim o [ none ↦ none | some r ↦ elim (units most r.1) [ none ↦ none | some rest ↦ some (r.0 ∷ rest) ] ]

  consed_is : (u : ℕ) (o : Option (List ℕ)) → elim o [ none ↦ none | some rest ↦ some (u ∷ rest) ] ≡ consed u o
  consed_is u none = refl
  consed_is u (some l) = refl

  units-led : (r : ℕ × List ℕ) → unit (b ∷ bytes) ≡ some r → units (suc most) (b ∷ bytes) ≡ consed r.0 (units most r.1)
  unfolding units
  units-led r e = ap units_by e ∙ consed_is r.0 (units most r.1)

  units-not-led : unit (b ∷ bytes) ≡ none → units (suc most) (b ∷ bytes) ≡ none
  unfolding units
  units-not-led e = ap units_by e

-- any fuel that lasts gives the same
units-fuel : (f g : ℕ) (bytes : List ℕ) → length bytes ≤ f → length bytes ≤ g → units f bytes ≡ units g bytes
unfolding units
units-fuel zero zero bytes l m = refl
units-fuel zero (suc g) [] l m = refl
units-fuel zero (suc g) (b ∷ bytes) l m = clash (omega arith)
units-fuel (suc f) zero [] l m = refl
units-fuel (suc f) zero (b ∷ bytes) l m = clash (omega arith)
units-fuel (suc f) (suc g) [] l m = refl
units-fuel (suc f) (suc g) (b ∷ bytes) l m = ways (unit (b ∷ bytes)) refl (units-fuel f g)
  where
    ways :
        (o : Option (ℕ × List ℕ)) → unit (b ∷ bytes) ≡ o →
        ((rest : List ℕ) → length rest ≤ f → length rest ≤ g → units f rest ≡ units g rest) →
        units (suc f) (b ∷ bytes) ≡ units (suc g) (b ∷ bytes)
    ways none e ih = units-not-led f b bytes e ∙ sym (units-not-led g b bytes e)
    ways (some r) e ih =
        let short = unit-shorter b bytes r e in
        units-led f b bytes r e
        ∙ ap (consed r.0) (ih r.1 (omega arith) (omega arith))
        ∙ sym (units-led g b bytes r e)

pub units-end : units_of [] ≡ some []
unfolding units_of units
units-end = refl

-- bytes that begin with a form: its unit, and those of the bytes behind it
pub units-next : (bytes : List ℕ) (u : ℕ) (rest : List ℕ) → unit bytes ≡ some (u, rest) → units_of bytes ≡ consed u (units_of rest)
unfolding units_of unit one
units-next [] u rest e = none≢some e
units-next (b ∷ bytes) u rest e =
    units-led (length bytes) b bytes (u, rest) e
    ∙ ap (consed u) (units-fuel (length bytes) (length rest) rest (unit-shorter b bytes (u, rest) e) (le_refl (length rest)))

-- bytes that don't are no text
pub units-none : (bytes : List ℕ) → 0 < length bytes → unit bytes ≡ none → units_of bytes ≡ none
unfolding units_of
units-none [] more e = clash (omega arith)
units-none (b ∷ bytes) more e = units-not-led (length bytes) b bytes e

-- UNITS HAVE SIXTEEN BITS

-- six bits more for each byte
abbrev shifted : ℕ → ℕ → ℕ
shifted zero m = m
shifted (suc n) m = shifted n (64 * m)

trail_small :
    (n bits m : ℕ) (bytes : List ℕ) (r : ℕ × List ℕ) → bits < m → trailing n bits bytes ≡ some r → r.0 < shifted n m
trail_small zero bits m bytes r low e = let same = ap (λ x. x.0) (some_inj (sym (trail_done bits bytes) ∙ e)) in omega arith
trail_small (suc n) bits m [] r low e = none≢some (sym (trail_end n bits) ∙ e)
trail_small (suc n) bits m (b ∷ bytes) r low e =
    ways (between 0x80 0xbf b) refl (trail_small n (64 * bits + (b - 0x80)) (64 * m) bytes r)
  where
    ways :
        (t : Bool) → between 0x80 0xbf b ≡ t →
        (64 * bits + (b - 0x80) < 64 * m → trailing n (64 * bits + (b - 0x80)) bytes ≡ some r → r.0 < shifted n (64 * m)) →
        r.0 < shifted n (64 * m)
    ways true q ih = let six = between-true 0x80 0xbf b q in ih (omega arith) (sym (trail_more n bits b bytes q) ∙ e)
    ways false q ih = none≢some (sym (trail_none n bits b bytes q) ∙ e)

lead_small : (b : ℕ) (l : ℕ × ℕ) → leading b ≡ some l → (m : ℕ) × (l.1 < m) × (shifted l.0 m ≤ 65536)
lead_small b l e = ways (order b 0x80) (order b 0xc0) (order b 0xe0) (order b 0xf0)
  where
    is : (k : ℕ × ℕ) (m : ℕ) → leading b ≡ some k → k.1 < m → shifted k.0 m ≤ 65536 → (m : ℕ) × (l.1 < m) × (shifted l.0 m ≤ 65536)
    is k m f low high =
        let same : k ≡ l = some_inj (sym f ∙ e) in
        subst (λ x. (m : ℕ) × (x.1 < m) × (shifted x.0 m ≤ 65536)) same (m, low, high)

    ways : (b < 0x80) ⊎ (0x80 ≤ b) → (b < 0xc0) ⊎ (0xc0 ≤ b) → (b < 0xe0) ⊎ (0xe0 ≤ b) → (b < 0xf0) ⊎ (0xf0 ≤ b) →
        (m : ℕ) × (l.1 < m) × (shifted l.0 m ≤ 65536)
    ways (inl low) y z w = one_byte (order 1 (suc b))
      where
        one_byte : (1 < suc b) ⊎ (suc b ≤ 1) → (m : ℕ) × (l.1 < m) × (shifted l.0 m ≤ 65536)
        one_byte (inl more) = is (0, b) 128 (lead_one b (omega arith) low) low (omega arith)
        one_byte (inr less) = none≢some (sym (lead_zero b (omega arith)) ∙ e)
    ways (inr x) (inl y) z w = none≢some (sym (lead_follower b x y) ∙ e)
    ways (inr x) (inr y) (inl z) w = is (1, b - 0xc0) 32 (lead_two b y z) (omega arith) (omega arith)
    ways (inr x) (inr y) (inr z) (inl w) = is (2, b - 0xe0) 16 (lead_three b z w) (omega arith) (omega arith)
    ways (inr x) (inr y) (inr z) (inr w) = none≢some (sym (lead_high b w) ∙ e)

-- the unit of a form
unit-small : (bytes : List ℕ) (r : ℕ × List ℕ) → unit bytes ≡ some r → r.0 < 65536
unfolding unit one
unit-small [] r e = none≢some e
unit-small (b ∷ bytes) r e = ways (leading b) refl
  where
    ways : (o : Option (ℕ × ℕ)) → leading b ≡ o → r.0 < 65536
    ways none q = none≢some (sym (unit-not-led b bytes q) ∙ e)
    ways (some l) q =
        let (m, low, high) = lead_small b l q in
        let under : r.0 < shifted l.0 m = trail_small l.0 l.1 m bytes r low (sym (unit-led b bytes l q) ∙ e) in
        omega arith

-- the units of all bytes
fuel_small : (most : ℕ) (bytes l : List ℕ) → units most bytes ≡ some l → Each (λ u. u < 65536) l
unfolding units
fuel_small zero [] l e = subst (Each (λ u. u < 65536)) (some_inj e) tt
fuel_small zero (b ∷ bytes) l e = none≢some e
fuel_small (suc most) [] l e = subst (Each (λ u. u < 65536)) (some_inj e) tt
fuel_small (suc most) (b ∷ bytes) l e = ways (unit (b ∷ bytes)) refl (fuel_small most)
  where
    ways :
        (o : Option (ℕ × List ℕ)) → unit (b ∷ bytes) ≡ o →
        ((rest m : List ℕ) → units most rest ≡ some m → Each (λ u. u < 65536) m) → Each (λ u. u < 65536) l
    ways none q ih = none≢some (sym (units-not-led most b bytes q) ∙ e)
    ways (some r) q ih = behind (units most r.1) refl
      where
        behind : (o : Option (List ℕ)) → units most r.1 ≡ o → Each (λ u. u < 65536) l
        behind none p = none≢some (sym (units-led most b bytes r q ∙ ap (consed r.0) p) ∙ e)
        behind (some m) p =
            let same : r.0 ∷ m ≡ l = some_inj (sym (units-led most b bytes r q ∙ ap (consed r.0) p) ∙ e) in
            subst (Each (λ u. u < 65536)) same (unit-small (b ∷ bytes) r q, ih r.1 m p)

pub units_small : (bytes l : List ℕ) → units_of bytes ≡ some l → Each (λ u. u < 65536) l
unfolding units_of
units_small bytes l e = fuel_small (length bytes) bytes l e
