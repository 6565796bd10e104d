-- The definition of a number's and a text's bytes (specs/Numbers.antt), a step or a case at a time. Assumes nothing.
use mathlib.Core.List.{List, [], ◌∷◌, ◌++◌, map, append_assoc}
use mathlib.Core.Logic.{◌⊎◌, inl, inr}
use mathlib.Core.Path.{◌≡◌, refl, sym, ap, ◌∙◌}
use Prim.Native.Nat.{ℕ, zero, suc, ◌+◌, ◌*◌, ◌-◌, ◌/◌, ◌%◌, ◌^◌, ◌≤◌, ◌<◌}
use native.Mathlib.Nat.{pow-suc, one-le-pow, pow-le-pow_right, div-div-eq-div-mul}
use native.Mathlib.Numerals.{add-one}
use native.Mathlib.Omega.{arith}
use lib.ListN.{length, take, drop, get_or, length-drop}
use lib.Seq.{length-take-le, get_or-take, get_or-drop}
use borrow.Author.Tests.{lt-ltb, le-ltb, le-leb, lt-leb, eq-eqb, ne_eqb}
use Rattle.facts.proofs.Lists.{equal}
use Rattle.definition.specs.Basics.{concat}
use Rattle.definition.specs.Ascii.{ascii, decimal, hex_digit, hex}
use Rattle.printing.specs.Numbers.{escaped, signed, hex_of, unit_of, fraction, power, scaled, magnitude, minus, to_hex_string}
use Rattle.printing.proofs.Printing.{next_of, end_of}

unit-power : (k : ℕ) → unit_of (suc k) ≡ 16 ^ k
unfolding unit_of
unit-power zero = refl
unit-power (suc k) = ap (λ u. 16 * u) (unit-power k) ∙ omega (arith, pow-suc 16 k)

pub unit-more : (i : ℕ) → 0 < i → unit_of i * 16 ≡ unit_of (i + 1)
unfolding unit_of
unit-more zero h = absurd (omega arith)
unit-more (suc k) h = omega arith ∙ sym (ap unit_of (add-one (suc k)))

-- no unit of a number of 64 bits is too big
pub unit-low : (i : ℕ) → i < 16 → unit_of i ≤ 72057594037927936
unfolding unit_of
unit-low zero h = omega arith
unit-low (suc k) h =
    let most : 16 ^ k ≤ 16 ^ 14 = let few : k ≤ 14 = omega arith in pow-le-pow_right (omega arith) few in
    omega (arith, most, unit-power k)

-- the first hex digit, and those behind it
hex-first : (k n : ℕ) → hex_of (suc k) n ≡ hex_digit (n / unit_of (suc k) % 16) ∷ hex_of k n
unfolding hex_of unit_of
hex-first zero n = ap (λ m. hex_digit (m % 16) ∷ []) (omega arith)
hex-first (suc k) n =
    ap (λ l. l ++ hex_digit (n % 16) ∷ []) (hex-first k (n / 16))
    ∙ ap (λ m. hex_digit (m % 16) ∷ hex_of (suc k) n) (div-div-eq-div-mul n 16 (unit_of (suc k)))

-- the digit of a unit, and what is left behind it
pub record Digit (unit n : ℕ) (digits : List ℕ) : Type 0 where
  pub left : ℕ
  pub unit-is : unit / 16 ≡ unit_of left
  pub digits_are : digits ≡ hex_digit (n / unit % 16) ∷ hex_of left n

pub hex-next : (k unit n : ℕ) → 0 < unit → unit ≡ unit_of k → Digit unit n (hex_of k n)
unfolding unit_of
hex-next zero unit n h is = absurd (omega arith)
hex-next (suc zero) unit n h is =
    record { left = 0; unit-is = omega arith; digits_are = hex-first 0 n ∙ ap (λ u. hex_digit (n / u % 16) ∷ hex_of 0 n) (sym is) }
hex-next (suc (suc k)) unit n h is =
    record {
      left = suc k;
      unit-is = omega arith;
      digits_are = hex-first (suc k) n ∙ ap (λ u. hex_digit (n / u % 16) ∷ hex_of (suc k) n) (sym is);
    }

pub hex-none : (k n : ℕ) → unit_of k ≡ 0 → hex_of k n ≡ []
unfolding unit_of hex_of
hex-none zero n h = refl
hex-none (suc k) n h = absurd (omega (arith, unit-power k, one-le-pow k 16 (omega arith)))

pub signed_low : (half n : ℕ) → n < half → decimal n ≡ signed half n
unfolding signed
signed_low half n h = rw (lt-ltb n half h, signed) refl

pub signed_high : (half n : ℕ) → half ≤ n → 0x2d ∷ decimal (2 * half - n) ≡ signed half n
unfolding signed
signed_high half n h = rw (le-ltb n half h, signed) refl

pub power-high : (bias e : ℕ) → bias ≤ e → decimal (e - bias) ≡ power bias e
unfolding power
power-high bias e h = rw (le-ltb e bias h, power) refl

pub power-low : (bias e : ℕ) → e < bias → 0x2d ∷ decimal (bias - e) ≡ power bias e
unfolding power
power-low bias e h = rw (lt-ltb e bias h, power) refl

-- of a fraction's digits: a zero behind others goes, another digit stays, and so does the only one
pub fraction-less : (count m : ℕ) → 1 < count → m % 16 ≡ 0 → fraction (count - 1) (m / 16) ≡ fraction count m
unfolding fraction
fraction-less zero m h k = absurd (omega arith)
fraction-less (suc zero) m h k = absurd (omega arith)
fraction-less (suc (suc count)) m h k =
    let down : suc (suc count) - 1 ≡ suc count = omega arith in
    ap (λ n. fraction n (m / 16)) down ∙ rw (eq-eqb (m % 16) 0 k, fraction) refl

pub fraction-full : (count m : ℕ) → (m % 16 ≡ 0 → ⊥) → hex_of count m ≡ fraction count m
unfolding fraction hex_of
fraction-full zero m h = refl
fraction-full (suc zero) m h = refl
fraction-full (suc (suc count)) m h = rw (ne_eqb (m % 16) 0 h, fraction) refl

pub fraction-one : (count m : ℕ) → count ≡ 1 → hex_of count m ≡ fraction count m
unfolding fraction
fraction-one count m h = ap (λ n. hex_of n m) h ∙ ap (λ n. fraction n m) (sym h)

-- the cases of a magnitude
pub infinite : (bias count e m : ℕ) → e ≡ 2 * bias + 1 → ascii "Infinity" ≡ magnitude bias count e m
unfolding magnitude
infinite bias count e m h = rw (eq-eqb e (2 * bias + 1) h, magnitude) refl

pub normal :
    (bias count e m : ℕ) → (e ≡ 2 * bias + 1 → ⊥) → 0 < e → ascii "0x1." ++ scaled bias count e m ≡ magnitude bias count e m
unfolding magnitude
normal bias count e m h k =
    let some : e ≡ 0 → ⊥ = λ z. omega arith in
    rw (ne_eqb e (2 * bias + 1) h, ne_eqb e 0 some, magnitude) refl

pub nought : (bias count e m : ℕ) → e ≡ 0 → m ≡ 0 → ascii "0x0.0p0" ≡ magnitude bias count e m
unfolding magnitude
nought bias count e m h k =
    let low : e ≡ 2 * bias + 1 → ⊥ = λ z. omega arith in
    rw (ne_eqb e (2 * bias + 1) low, eq-eqb e 0 h, eq-eqb m 0 k, magnitude) refl

pub subnormal :
    (bias count e m : ℕ) → e ≡ 0 → (m ≡ 0 → ⊥) → ascii "0x0." ++ scaled bias count 1 m ≡ magnitude bias count e m
unfolding magnitude
subnormal bias count e m h k =
    let low : e ≡ 2 * bias + 1 → ⊥ = λ z. omega arith in
    rw (ne_eqb e (2 * bias + 1) low, eq-eqb e 0 h, ne_eqb m 0 k, magnitude) refl

-- a number or none, and a number's sign
pub nan : (bias count sign e m : ℕ) → e ≡ 2 * bias + 1 → 0 < m → ascii "NaN" ≡ to_hex_string bias count sign e m
unfolding to_hex_string
nan bias count sign e m h k = rw (eq-eqb e (2 * bias + 1) h, lt-ltb 0 m k, to_hex_string) refl

infinite_number :
    (bias count sign e m : ℕ) → e ≡ 2 * bias + 1 → m ≤ 0 → minus sign ++ magnitude bias count e m ≡ to_hex_string bias count sign e m
unfolding to_hex_string
infinite_number bias count sign e m h k = rw (eq-eqb e (2 * bias + 1) h, le-ltb 0 m k, to_hex_string) refl

finite_number :
    (bias count sign e m : ℕ) → (e ≡ 2 * bias + 1 → ⊥) → minus sign ++ magnitude bias count e m ≡ to_hex_string bias count sign e m
unfolding to_hex_string
finite_number bias count sign e m h = rw (ne_eqb e (2 * bias + 1) h, to_hex_string) refl

number :
    (bias count sign e m : ℕ) → (e ≡ 2 * bias + 1 → m ≡ 0) → minus sign ++ magnitude bias count e m ≡ to_hex_string bias count sign e m
number bias count sign e m h = ways (equal e (2 * bias + 1))
  where
    ways : (e ≡ 2 * bias + 1) ⊎ (e ≡ 2 * bias + 1 → ⊥) → minus sign ++ magnitude bias count e m ≡ to_hex_string bias count sign e m
    ways (inl is) = infinite_number bias count sign e m is (omega (arith, h is))
    ways (inr is-not) = finite_number bias count sign e m is-not

minus-some : (sign : ℕ) → (sign ≡ 0 → ⊥) → minus sign ≡ 0x2d ∷ []
unfolding minus
minus-some sign h = rw (ne_eqb sign 0 h, minus) refl

pub positive :
    (bias count sign e m : ℕ) → (e ≡ 2 * bias + 1 → m ≡ 0) → sign ≡ 0 → magnitude bias count e m ≡ to_hex_string bias count sign e m
unfolding minus
positive bias count sign e m h k = ap (λ s. minus s ++ magnitude bias count e m) (sym k) ∙ number bias count sign e m h

pub negative :
    (bias count sign e m : ℕ) → (e ≡ 2 * bias + 1 → m ≡ 0) → (sign ≡ 0 → ⊥) → 0x2d ∷ magnitude bias count e m ≡ to_hex_string bias count sign e m
negative bias count sign e m h k = ap (λ l. l ++ magnitude bias count e m) (sym (minus-some sign k)) ∙ number bias count sign e m h

-- the cases of a byte in quotes
pub escaped-quote : (b : ℕ) → b ≡ 0x22 → 0x5c ∷ 0x22 ∷ [] ≡ escaped b
unfolding escaped
escaped-quote b h = ap escaped (sym h)

pub escaped-backslash : (b : ℕ) → b ≡ 0x5c → 0x5c ∷ 0x5c ∷ [] ≡ escaped b
unfolding escaped
escaped-backslash b h = ap escaped (sym h)

module _ (b : ℕ) (quote : b ≡ 0x22 → ⊥) (backslash : b ≡ 0x5c → ⊥) where
  pub escaped-plain : 0x20 ≤ b → b < 0x7f → b ∷ [] ≡ escaped b
  unfolding escaped
  escaped-plain h k = rw (ne_eqb b 0x22 quote, ne_eqb b 0x5c backslash, le-leb 0x20 b h, lt-ltb b 0x7f k, escaped) refl

  pub escaped-low : b < 0x20 → 0x5c ∷ 0x78 ∷ hex_of 2 b ≡ escaped b
  unfolding escaped hex hex_of concat
  escaped-low h = rw (ne_eqb b 0x22 quote, ne_eqb b 0x5c backslash, lt-leb 0x20 b h, escaped) refl

  pub escaped-high : 0x7f ≤ b → 0x5c ∷ 0x78 ∷ hex_of 2 b ≡ escaped b
  unfolding escaped hex hex_of concat
  escaped-high h =
      let printable : 0x20 ≤ b = omega arith in
      rw (ne_eqb b 0x22 quote, ne_eqb b 0x5c backslash, le-leb 0x20 b printable, le-ltb b 0x7f h, escaped) refl

-- what stands behind the first quote
abbrev pub closed : List ℕ → List ℕ
closed bytes = concat (map escaped bytes) ++ 0x22 ∷ []

pub next_closed : (text : List ℕ) (i : ℕ) → i < length text → closed (drop i text) ≡ escaped (get_or text i 0) ++ closed (drop (i + 1) text)
unfolding concat
next_closed text i inside =
    ap closed (next_of text i inside)
    ∙ append_assoc (escaped (get_or text i 0)) (concat (map escaped (drop (i + 1) text))) (0x22 ∷ [])

pub end_closed : (text : List ℕ) (i : ℕ) → length text ≤ i → 0x22 ∷ [] ≡ closed (drop i text)
unfolding concat
end_closed text i past = ap closed (sym (end_of text i past))

-- the same of a part of a text
pub closed_next :
    (text : List ℕ) (from size i : ℕ) → from + size ≤ length text → i < size
    → closed (drop i (take size (drop from text))) ≡ escaped (get_or text (from + i) 0) ++ closed (drop (i + 1) (take size (drop from text)))
unfolding concat
closed_next text from size i h k =
    let bytes = take size (drop from text) in
    let long : size ≤ length (drop from text) = omega (arith, length-drop from text) in
    let inside : i < length bytes = omega (arith, length-take-le size (drop from text) long) in
    let byte : get_or bytes i 0 ≡ get_or text (from + i) 0 = get_or-take size (drop from text) i 0 k ∙ get_or-drop from text i 0 in
    ap closed (next_of bytes i inside)
    ∙ ap (λ b. closed (b ∷ drop (i + 1) bytes)) byte
    ∙ append_assoc (escaped (get_or text (from + i) 0)) (concat (map escaped (drop (i + 1) bytes))) (0x22 ∷ [])

pub closed_end : (text : List ℕ) (from size i : ℕ) → from + size ≤ length text → size ≤ i → 0x22 ∷ [] ≡ closed (drop i (take size (drop from text)))
unfolding concat
closed_end text from size i h k =
    let long : size ≤ length (drop from text) = omega (arith, length-drop from text) in
    ap closed (sym (end_of (take size (drop from text)) i (omega (arith, length-take-le size (drop from text) long))))
