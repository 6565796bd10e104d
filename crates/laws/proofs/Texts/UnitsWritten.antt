-- The text of units: each unit's form by its size, and the texts of rows one behind the other. Assumes nothing.
use mathlib.Core.Bool.{Bool, true, false}
use mathlib.Core.List.{List, [], ◌∷◌, ◌++◌, append_assoc, append-nil}
use mathlib.Core.Logic.{◌⊎◌, inl, inr}
use mathlib.Core.Option.{some}
use mathlib.Core.Path.{◌≡◌, refl, sym, ap, ◌∙◌}
use Prim.Native.Nat.{ℕ, ◌+◌, ◌*◌, ◌-◌, ◌/◌, ◌%◌, ◌<◌, ◌≤◌}
use native.Mathlib.Numerals.{add-one}
use native.Mathlib.Omega.{arith}
use borrow.Author.Tests.{le-leb, lt-leb}
use lib.Dec.{leb}
use lib.ListN.{length, get_or, take, drop, length-append, take-append-drop}
use lib.Seq.{take-suc}
use Rattle.definition.specs.Basics.{concat}
use Rattle.definition.specs.Texts.{between, unit, units_of, unit_bytes, text_of}
use Rattle.facts.proofs.Each.{Each}
use Rattle.facts.proofs.Lists.{order, equal}
use Rattle.laws.proofs.Texts.UnitsRead.{between_in, between-below, between-above, lead_one, lead_two, lead_three, trail_more, trail_done, unit-led, units-end, units-next}

-- A UNIT'S FORM

-- the definition's choice, by its two tests
abbrev form_by : Bool → Bool → ℕ → List ℕ
form_by low middle n =
    elim low [
      | true ↦ n ∷ []
      | false ↦
          elim middle [
            | true ↦ (0xc0 + n / 64) ∷ (0x80 + n % 64) ∷ []
            | false ↦ (0xe0 + n / 4096) ∷ (0x80 + n / 64 % 64) ∷ (0x80 + n % 64) ∷ []
          ]
    ]

module _ (n : ℕ) (x y : Bool) where
  form-by : between 0x0001 0x007f n ≡ x → leb n 0x07ff ≡ y → unit_bytes n ≡ form_by x y n
  unfolding unit_bytes
  form-by p q = λ i. form_by (p i) (q i) n

module _ (n : ℕ) where
  pub one_byte : 0x01 ≤ n → n < 0x80 → unit_bytes n ≡ n ∷ []
  one_byte l h = form-by n true true (between_in 0x0001 0x007f n l (omega arith)) (le-leb n 0x07ff (omega arith))

  pub two-of_zero : n ≡ 0 → unit_bytes n ≡ (0xc0 + n / 64) ∷ (0x80 + n % 64) ∷ []
  two-of_zero e = form-by n false true (between-below 0x0001 0x007f n (omega arith)) (le-leb n 0x07ff (omega arith))

  pub two_bytes : 0x80 ≤ n → n < 0x800 → unit_bytes n ≡ (0xc0 + n / 64) ∷ (0x80 + n % 64) ∷ []
  two_bytes l h = form-by n false true (between-above 0x0001 0x007f n (omega arith)) (le-leb n 0x07ff (omega arith))

  pub three_bytes : 0x800 ≤ n → unit_bytes n ≡ (0xe0 + n / 4096) ∷ (0x80 + n / 64 % 64) ∷ (0x80 + n % 64) ∷ []
  three_bytes l = form-by n false false (between-above 0x0001 0x007f n (omega arith)) (lt-leb n 0x07ff (omega arith))

  -- the three ways that a unit can go
  pub sized :
      {C : Type 0} →
      (0x01 ≤ n → n < 0x80 → unit_bytes n ≡ n ∷ [] → C) →
      (n < 0x800 → unit_bytes n ≡ (0xc0 + n / 64) ∷ (0x80 + n % 64) ∷ [] → C) →
      (0x800 ≤ n → unit_bytes n ≡ (0xe0 + n / 4096) ∷ (0x80 + n / 64 % 64) ∷ (0x80 + n % 64) ∷ [] → C) →
      C
  sized {C} one two three = ways (equal n 0) (order n 0x80) (order n 0x800)
    where
      ways : (n ≡ 0) ⊎ (n ≡ 0 → ⊥) → (n < 0x80) ⊎ (0x80 ≤ n) → (n < 0x800) ⊎ (0x800 ≤ n) → C
      ways (inl e) x y = two (omega arith) (two-of_zero e)
      ways (inr e) (inl l) y = one (omega arith) l (one_byte (omega arith) l)
      ways (inr e) (inr l) (inl m) = two m (two_bytes l m)
      ways (inr e) (inr l) (inr m) = three m (three_bytes m)

-- what is written for a unit is read as that unit
unit-back : (n : ℕ) (rest : List ℕ) → n < 65536 → unit (unit_bytes n ++ rest) ≡ some (n, rest)
unit-back n rest small =
    sized n
    (λ l h e. ap (λ f. unit (f ++ rest)) e ∙ unit-led n rest (0, n) (lead_one n l h) ∙ trail_done n rest)
    (λ h e.
    let b = 0xc0 + n / 64 in
    let c = 0x80 + n % 64 in
    let whole : 64 * (b - 0xc0) + (c - 0x80) ≡ n = omega arith in
    ap (λ f. unit (f ++ rest)) e
    ∙ unit-led b (c ∷ rest) (1, b - 0xc0) (lead_two b (omega arith) (omega arith))
    ∙ trail_more 0 (b - 0xc0) c rest (between_in 0x80 0xbf c (omega arith) (omega arith))
    ∙ trail_done (64 * (b - 0xc0) + (c - 0x80)) rest
    ∙ ap (λ u. some (u, rest)) whole)
    (λ l e.
    let b = 0xe0 + n / 4096 in
    let c = 0x80 + n / 64 % 64 in
    let d = 0x80 + n % 64 in
    let whole : 64 * (64 * (b - 0xe0) + (c - 0x80)) + (d - 0x80) ≡ n = omega arith in
    ap (λ f. unit (f ++ rest)) e
    ∙ unit-led b (c ∷ d ∷ rest) (2, b - 0xe0) (lead_three b (omega arith) (omega arith))
    ∙ trail_more 1 (b - 0xe0) c (d ∷ rest) (between_in 0x80 0xbf c (omega arith) (omega arith))
    ∙ trail_more 0 (64 * (b - 0xe0) + (c - 0x80)) d rest (between_in 0x80 0xbf d (omega arith) (omega arith))
    ∙ trail_done (64 * (64 * (b - 0xe0) + (c - 0x80)) + (d - 0x80)) rest
    ∙ ap (λ u. some (u, rest)) whole)

-- TEXTS

pub text_cons : (u : ℕ) (l : List ℕ) → text_of (u ∷ l) ≡ unit_bytes u ++ text_of l
unfolding text_of concat
text_cons u l = refl

pub text_none : text_of [] ≡ []
unfolding text_of concat
text_none = refl

text_append : (l m : List ℕ) → text_of (l ++ m) ≡ text_of l ++ text_of m
text_append [] m = sym (ap (λ t. t ++ text_of m) text_none)
text_append (u ∷ l) m =
    text_cons u (l ++ m)
    ∙ ap (λ t. unit_bytes u ++ t) (text_append l m)
    ∙ sym (append_assoc (unit_bytes u) (text_of l) (text_of m))
    ∙ sym (ap (λ t. t ++ text_of m) (text_cons u l))

-- the units ahead of a place, and those behind
pub text_split : (l : List ℕ) (i : ℕ) → length (text_of (take i l)) + length (text_of (drop i l)) ≡ length (text_of l)
text_split l i =
    sym (length-append (text_of (take i l)) (text_of (drop i l)))
    ∙ ap length (sym (text_append (take i l) (drop i l)) ∙ ap text_of (take-append-drop i l))

-- one unit more
pub text_snoc : (l : List ℕ) (i : ℕ) → i < length l → text_of (take (i + 1) l) ≡ text_of (take i l) ++ unit_bytes (get_or l i 0)
text_snoc l i inside =
    let u = get_or l i 0 in
    ap (λ k. text_of (take k l)) (add-one i)
    ∙ ap text_of (take-suc l i 0 inside)
    ∙ text_append (take i l) (u ∷ [])
    ∙ ap (λ t. text_of (take i l) ++ t) (text_cons u [] ∙ ap (λ t. unit_bytes u ++ t) text_none ∙ append-nil (unit_bytes u))

-- BACK

-- units written and read come back the same
pub units-back : (l : List ℕ) → Each (λ u. u < 65536) l → units_of (text_of l) ≡ some l
units-back [] small = ap units_of text_none ∙ units-end
units-back (u ∷ l) small =
    ap units_of (text_cons u l)
    ∙ units-next (unit_bytes u ++ text_of l) u (text_of l) (unit-back u (text_of l) small.0)
    ∙ rw (units-back l small.1)
