-- The digits that `io::decimal` gives are the definition's decimal. Assumes nothing.
use mathlib.Core.List.{[], ◌∷◌, ◌++◌}
use mathlib.Core.Logic.{◌⊎◌, inl, inr}
use mathlib.Core.Path.{◌≡◌, refl, sym, ap, subst, ◌∙◌}
use Prim.Native.Nat.{ℕ, zero, suc, ◌+◌, ◌*◌, ◌-◌, ◌/◌, ◌%◌, ◌^◌, ◌<◌, ◌≤◌}
use native.Mathlib.Nat.{pow-suc}
use native.Mathlib.Omega.{arith}
use lib.Pow.{pow-add}
use borrow.Author.Tests.{lt-ltb, le-ltb}
use Rattle.io.specs.Digits.{hex_digit_ascii, last_digits as ioDigits, IsDigitCount}
use lib.ListN.{get_or}
use Rattle.definition.specs.Ascii.{ascii, digits, decimal, hex_digit}
use Rattle.facts.proofs.Lists.{order}

-- a number below 10 is one digit, whatever the fuel
digits-one : (f n : ℕ) → n < 10 → digits (suc f) n ≡ (48 + n) ∷ []
unfolding digits
digits-one f n h = rw (lt-ltb n 10 h, digits) refl

digits_more : (f n : ℕ) → 10 ≤ n → digits (suc f) n ≡ digits f (n / 10) ++ ((48 + n % 10) ∷ [])
unfolding digits
digits_more f n h = rw (le-ltb n 10 h, digits) refl

-- fuel above the number is enough
fuelled : (f g n : ℕ) → n < f → n < g → digits f n ≡ digits g n
fuelled zero g n h k = absurd (omega arith)
fuelled (suc f) zero n h k = absurd (omega arith)
fuelled (suc f) (suc g) n h k = ways (order n 10) (λ low₁ low₂. fuelled f g (n / 10) low₁ low₂)
  where
    ways : (n < 10) ⊎ (10 ≤ n) → (n / 10 < f → n / 10 < g → digits f (n / 10) ≡ digits g (n / 10)) → digits (suc f) n ≡ digits (suc g) n
    ways (inl low) again = digits-one f n low ∙ sym (digits-one g n low)
    ways (inr high) again =
        digits_more f n high
        ∙ ap (λ l. l ++ ((48 + n % 10) ∷ [])) (again (omega arith) (omega arith))
        ∙ sym (digits_more g n high)

decimal-more : (n : ℕ) → 10 ≤ n → decimal n ≡ decimal (n / 10) ++ ((48 + n % 10) ∷ [])
unfolding decimal
decimal-more n h =
    digits_more n n h ∙ ap (λ l. l ++ ((48 + n % 10) ∷ [])) (fuelled n (suc (n / 10)) (n / 10) (omega arith) (omega arith))

decimal-one : (n : ℕ) → n < 10 → decimal n ≡ (48 + n) ∷ []
unfolding decimal
decimal-one n h = digits-one n n h

glyph_low : (n : ℕ) → n < 10 → hex_digit_ascii n ≡ 48 + n
glyph_low n h = rw (lt-ltb n 10 h) refl

power-low : (k : ℕ) → 1 ≤ 10 ^ k
power-low zero = omega arith
power-low (suc k) = omega (arith, power-low k, pow-suc 10 k)

-- the fewest digits in base 10 are the decimal
pub decimal-is : (k n : ℕ) → IsDigitCount 10 1 n k → ioDigits 10 k n ≡ decimal n
decimal-is zero n (low, below, above) = absurd (omega arith)
decimal-is (suc zero) n (low, below, above) =
    let small : n < 10 = below in
    let same : n % 10 ≡ n = omega arith in
    ap (λ d. d ∷ []) (glyph_low (n % 10) (omega arith) ∙ ap (λ d. 48 + d) same) ∙ sym (decimal-one n small)
decimal-is (suc (suc k)) n (low, below, above) =
    let down : suc (suc k) - 1 ≡ suc k = omega arith in
    let down₂ : suc k - 1 ≡ k = omega arith in
    let p : 10 ^ suc k ≤ n = subst (λ j. 10 ^ j ≤ n) down (above (omega arith)) in
    let one : 1 ≤ 10 ^ k = power-low k in
    let up : 10 ^ suc k ≡ 10 ^ k * 10 = pow-suc 10 k in
    let up₂ : 10 ^ suc (suc k) ≡ 10 ^ suc k * 10 = pow-suc 10 (suc k) in
    let high : 10 ≤ n = omega (arith, p, one, up) in
    let rest = decimal-is (suc k) (n / 10) (omega arith, omega (arith, below, up₂), λ _. subst (λ j. 10 ^ j ≤ n / 10) (sym down₂) (omega (arith, p, up))) in
    (λ i. rest i ++ (glyph_low (n % 10) (omega arith) i ∷ [])) ∙ sym (decimal-more n high)

-- a number of 64 bits has at most 20 digits
pub few : (k n : ℕ) → n < 18446744073709551616 → IsDigitCount 10 1 n k → k ≤ 20
few k n small (low, below, above) = ways (order 20 k)
  where
    ways : (20 < k) ⊎ (k ≤ 20) → k ≤ 20
    ways (inr h) = h
    ways (inl h) =
        let j = k - 21 in
        let place : k - 1 ≡ 20 + j = omega arith in
        let much : 10 ^ (20 + j) ≤ n = subst (λ i. 10 ^ i ≤ n) place (above (omega arith)) in
        let split : 10 ^ (20 + j) ≡ 100000000000000000000 * 10 ^ j = pow-add 10 20 j in
        absurd (omega (arith, much, split, power-low j, small))

-- a hex digit of the code is the definition's
pub hex-low : (n : ℕ) → n < 10 → 48 + n ≡ hex_digit n
unfolding hex_digit
hex-low n h = rw (lt-ltb n 10 h, hex_digit) refl

pub hex-high : (n : ℕ) → 10 ≤ n → 87 + n ≡ hex_digit n
unfolding hex_digit
hex-high n h = rw (le-ltb n 10 h, hex_digit) refl

-- the hex digits as a text has each at its place
pub hex_digits : (n : ℕ) → n < 16 → get_or (ascii "0123456789abcdef") n 0 ≡ hex_digit n
unfolding ascii hex_digit
hex_digits zero h = refl
hex_digits (suc zero) h = refl
hex_digits (suc (suc zero)) h = refl
hex_digits (suc (suc (suc zero))) h = refl
hex_digits (suc (suc (suc (suc zero)))) h = refl
hex_digits (suc (suc (suc (suc (suc zero))))) h = refl
hex_digits (suc (suc (suc (suc (suc (suc zero)))))) h = refl
hex_digits (suc (suc (suc (suc (suc (suc (suc zero))))))) h = refl
hex_digits (suc (suc (suc (suc (suc (suc (suc (suc zero)))))))) h = refl
hex_digits (suc (suc (suc (suc (suc (suc (suc (suc (suc zero))))))))) h = refl
hex_digits (suc (suc (suc (suc (suc (suc (suc (suc (suc (suc zero)))))))))) h = refl
hex_digits (suc (suc (suc (suc (suc (suc (suc (suc (suc (suc (suc zero))))))))))) h = refl
hex_digits (suc (suc (suc (suc (suc (suc (suc (suc (suc (suc (suc (suc zero)))))))))))) h = refl
hex_digits (suc (suc (suc (suc (suc (suc (suc (suc (suc (suc (suc (suc (suc zero))))))))))))) h = refl
hex_digits (suc (suc (suc (suc (suc (suc (suc (suc (suc (suc (suc (suc (suc (suc zero)))))))))))))) h = refl
hex_digits (suc (suc (suc (suc (suc (suc (suc (suc (suc (suc (suc (suc (suc (suc (suc zero))))))))))))))) h = refl
hex_digits (suc (suc (suc (suc (suc (suc (suc (suc (suc (suc (suc (suc (suc (suc (suc (suc n)))))))))))))))) h = absurd (omega arith)
