-- The loop that sums (position + 1) x byte, and its bound: no sum of up to 508 bytes leaves 32 bits. Assumes nothing.
use mathlib.Core.Path.{◌≡◌, sym, ◌∙◌}
use mathlib.Core.List.{List}
use Prim.Native.Nat.{ℕ, ◌+◌, ◌*◌, ◌<◌, ◌≤◌}
use native.Mathlib.Nat.{mul-le-mul, add-zero}
use native.Mathlib.Numerals.{add-one}
use native.Mathlib.Omega.{arith}
use lib.ListN.{length, get_or, drop, drop_of_length-le}
use lib.Seq.{drop-cons}
use Rattle.definition.specs.Blocks.{weighted}

-- what is left of the sum from a position on: one product, and what is left behind it
weighted-cons : (s : List ℕ) (i : ℕ) → i < length s → weighted i (drop i s) ≡ (i + 1) * get_or s i 0 + weighted (i + 1) (drop (i + 1) s)
unfolding weighted
weighted-cons s i inside = rw (drop-cons s i 0 inside, add-one i)

pub sum_more :
    (s : List ℕ) (i sum : ℕ) → i < length s → weighted 0 s ≡ sum + weighted i (drop i s) →
    weighted 0 s ≡ sum + (i + 1) * get_or s i 0 + weighted (i + 1) (drop (i + 1) s)
sum_more s i sum inside rest = omega (arith, weighted-cons s i inside)

pub sum-all : (s : List ℕ) (i sum : ℕ) → length s ≤ i → weighted 0 s ≡ sum + weighted i (drop i s) → sum ≡ weighted 0 s
unfolding weighted
sum-all s i sum past rest = sym (rest ∙ rw (drop_of_length-le s past) (add-zero sum))

pub product_small : (i b : ℕ) → i < 508 → b < 256 → (i + 1) * b ≤ 129540
product_small i b ih bh =
    let weight : i + 1 ≤ 508 = omega arith in
    let byte : b ≤ 255 = omega arith in
    mul-le-mul weight byte
