-- The number that is read at a place has the bytes that stand there. Assumes nothing.
use mathlib.Core.Path.{◌≡◌, sym, ap, ◌∙◌}
use mathlib.Core.List.{List, [], ◌∷◌, ◌++◌}
use Prim.Native.Nat.{ℕ, ◌+◌, ◌*◌, ◌/◌, ◌%◌, ◌<◌, ◌≤◌}
use native.Mathlib.Numerals.{add-one}
use native.Mathlib.Omega.{arith}
use lib.ListN.{length, get_or, take, drop}
use lib.Seq.{drop-drop, drop-cons, take-add}
use Rattle.definition.specs.Bytes.{be2, be4, be8}
use Rattle.writer.specs.Numbers.{number2, number4, number8}

-- four bytes of a number are two of its upper half and two of its lower half
pub be4-halves : (x : ℕ) → be2 (x / 65536) ++ be2 (x % 65536) ≡ be4 x
unfolding be2 be4
be4-halves x =
    let first : x / 65536 / 256 % 256 ≡ x / 16777216 % 256 = omega arith in
    let third : x % 65536 / 256 % 256 ≡ x / 256 % 256 = omega arith in
    let fourth : x % 65536 % 256 ≡ x % 256 = omega arith in
    λ i. first i ∷ x / 65536 % 256 ∷ third i ∷ fourth i ∷ []

-- the number that is read at a place has the bytes that stand there
module _ (s : List ℕ) (bytes : (i : ℕ) → get_or s i 0 < 256) where
  pub be2-number : (at : ℕ) → at + 2 ≤ length s → take 2 (drop at s) ≡ be2 (number2 s at)
  unfolding be2
  be2-number at inside =
      let a = get_or s at 0 in
      let b = get_or s (at + 1) 0 in
      let small : a < 256 = bytes at in
      let small' : b < 256 = bytes (at + 1) in
      let high : a ≡ (256 * a + b) / 256 % 256 = omega arith in
      let low : b ≡ (256 * a + b) % 256 = omega arith in
      ap (take 2) (drop-cons s at 0 (omega arith))
      ∙ ap (λ l. a ∷ take 1 l) (ap (λ j. drop j s) (sym (add-one at)) ∙ drop-cons s (at + 1) 0 (omega arith))
      ∙ (λ i. high i ∷ low i ∷ [])

  pub be1-number : (at : ℕ) → at + 1 ≤ length s → take 1 (drop at s) ≡ get_or s at 0 ∷ []
  be1-number at inside = ap (take 1) (drop-cons s at 0 (omega arith))

  pub be4-number : (at : ℕ) → at + 4 ≤ length s → take 4 (drop at s) ≡ be4 (number4 s at)
  be4-number at inside =
      let n = number4 s at in
      let b₀ : get_or s at 0 < 256 = bytes at in
      let b₁ : get_or s (at + 1) 0 < 256 = bytes (at + 1) in
      let b₂ : get_or s (at + 2) 0 < 256 = bytes (at + 2) in
      let b₃ : get_or s (at + 2 + 1) 0 < 256 = bytes (at + 2 + 1) in
      let high : number2 s at ≡ n / 65536 = omega arith in
      let low : number2 s (at + 2) ≡ n % 65536 = omega arith in
      take-add 2 2 (drop at s)
      ∙ ap (λ l. take 2 (drop at s) ++ take 2 l) (drop-drop 2 at s)
      ∙ ap (λ l. l ++ take 2 (drop (at + 2) s)) (be2-number at (omega arith))
      ∙ ap (λ l. be2 (number2 s at) ++ l) (be2-number (at + 2) (omega arith))
      ∙ (λ i. be2 (high i) ++ be2 (low i))
      ∙ be4-halves n

  -- four bytes hold less than 2 to 32
  number4-small : (at : ℕ) → number4 s at < 4294967296
  number4-small at =
      let b₀ : get_or s at 0 < 256 = bytes at in
      let b₁ : get_or s (at + 1) 0 < 256 = bytes (at + 1) in
      let b₂ : get_or s (at + 2) 0 < 256 = bytes (at + 2) in
      let b₃ : get_or s (at + 2 + 1) 0 < 256 = bytes (at + 2 + 1) in
      omega arith

  pub be8-number : (at : ℕ) → at + 8 ≤ length s → take 8 (drop at s) ≡ be8 (number8 s at)
  unfolding be8
  be8-number at inside =
      let n = number8 s at in
      let small : number4 s (at + 4) < 4294967296 = number4-small (at + 4) in
      let high : number4 s at ≡ n / 4294967296 = omega arith in
      let low : number4 s (at + 4) ≡ n % 4294967296 = omega arith in
      take-add 4 4 (drop at s)
      ∙ ap (λ l. take 4 (drop at s) ++ take 4 l) (drop-drop 4 at s)
      ∙ ap (λ l. l ++ take 4 (drop (at + 4) s)) (be4-number at (omega arith))
      ∙ ap (λ l. be4 (number4 s at) ++ l) (be4-number (at + 4) (omega arith))
      ∙ (λ i. be4 (high i) ++ be4 (low i))
