-- Bounds of the two products in a check. Assumes nothing.
use Prim.Native.Nat.{ℕ, ◌+◌, ◌*◌, ◌-◌, ◌/◌, ◌%◌, ◌≤◌}
use native.Mathlib.Nat.{mul-le-mul}
use native.Mathlib.Omega.{arith}

pub weights_low : (used : ℕ) → 20 ≤ (used + 4) * (used + 5)
weights_low used =
    let a : 4 ≤ used + 4 = omega arith in
    let b : 5 ≤ used + 5 = omega arith in
    mul-le-mul a b

pub weights_high : (used : ℕ) → used ≤ 504 → (used + 4) * (used + 5) ≤ 258572
weights_high used small =
    let a : used + 4 ≤ 508 = omega arith in
    let b : used + 5 ≤ 509 = omega arith in
    mul-le-mul a b

pub bytes_high : (k used : ℕ) → used ≤ 504 → (k % 251 + 1) * ((used + 4) * (used + 5) / 2 - 10) ≤ 32448276
bytes_high k used small =
    let a : k % 251 + 1 ≤ 251 = omega arith in
    let b : (used + 4) * (used + 5) / 2 - 10 ≤ 129276 = omega (arith, weights_high used small) in
    mul-le-mul a b
