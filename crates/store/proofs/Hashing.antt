-- Hashes stay words, and a key's head is one of the heads. Assumes nothing.
use mathlib.Core.Logic.{⊎_elim}
use mathlib.Core.Path.{◌≡◌}
use Prim.Native.Nat.{ℕ, ◌+◌, ◌-◌, ◌*◌, ◌/◌, ◌%◌, ◌≤◌, ◌<◌}
use native.Mathlib.Nat.{mod-lt, div-lt_iff_lt-mul, mul_comm, mul-lt-mul_of_pos_right, mul-le-mul_right, le_of_lt}
use native.Mathlib.Omega.{arith}
use borrow.Author.Tests.{lt-ltb, le-ltb}
use Rattle.store.specs.Store.{IsWord}
use Rattle.store.specs.Chains.{head_of}
use Rattle.facts.proofs.Lists.{order}

pub head_small : (heads key : ℕ) → key < heads → head_of heads key ≡ key
unfolding head_of
head_small heads key h = rw (lt-ltb key heads h, head_of)

pub head_large : (heads key : ℕ) → heads ≤ key → head_of heads key ≡ key * 0x9e3779b1 % 4294967296 * (heads - 1) / 4294967296 + 1
unfolding head_of
head_large heads key h = rw (le-ltb key heads h, head_of)

-- a part of n in the ratio of a word to 2^32 is below n
pub scaled-below : (x n : ℕ) → 0 < n → x % 4294967296 * n / 4294967296 < n
scaled-below x n h =
    let pos : 0 < 4294967296 = omega arith in
    (div-lt_iff_lt-mul {k = 4294967296} {x = x % 4294967296 * n} {y = n} pos).1 (rw (mul_comm n 4294967296) (mul-lt-mul_of_pos_right (mod-lt x (omega arith)) h))

-- a word's share of a word's worth of heads is a word's worth of words
pub scaled_fits : (x n : ℕ) → IsWord n → x % 4294967296 * n < 18446744073709551616
scaled_fits x n h =
    let a : x % 4294967296 < 4294967296 = mod-lt x (omega arith) in
    omega (arith, mul-le-mul_right n (le_of_lt a))

pub head_lt : (heads key : ℕ) → 1 < heads → head_of heads key < heads
head_lt heads key h =
    ⊎_elim
    (λ (l : key < heads). rw (head_small heads key l) l)
    (λ (l : heads ≤ key). rw (head_large heads key l) (omega (arith, scaled-below (key * 0x9e3779b1) (heads - 1) (omega arith))))
    (order key heads)

-- what the code's product is at most
pub product_fits : (hash x : ℕ) → IsWord hash → IsWord x → (hash + x) * 0x5bd1e995 < 18446744073709551616
product_fits hash x h k = omega arith
