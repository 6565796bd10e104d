-- Refusal numbers: those other than 0, and those from 1 to 13, which the form pass, the definitions and resolving have. Assumes nothing.
use mathlib.Core.Path.{◌≡◌}
use Prim.Native.Nat.{ℕ}
use native.Mathlib.Omega.{arith}
use lib.Dec.{T, ltb, ltb→lt}
use Rattle.definition.specs.Basics.{Refusal}

-- a refusal number other than 0, and a refusal with one
abbrev pub NonZero : ℕ → Type 0
NonZero code = code ≡ 0 → ⊥

pub non_zero_lem : (code : ℕ) → T (ltb 0 code) → NonZero code
non_zero_lem code t e = let h = ltb→lt 0 code t in omega arith

-- what the numbers from 1 to 13 have: those of the form pass, the definitions and resolving
abbrev pub Early : (ℕ → Type 0) → Type 0
Early Z = (code : ℕ) → T (ltb 0 code) → T (ltb code 14) → Z code

pub early_non_zero : Early NonZero
early_non_zero code t u = non_zero_lem code t

-- what the numbers above 21 have
abbrev pub Late : (ℕ → Type 0) → Type 0
Late Z = (code : ℕ) → T (ltb 21 code) → Z code

pub late_non_zero : Late NonZero
late_non_zero code t e = let h = ltb→lt 21 code t in omega arith

-- what those among them up to 26 have: those of the form pass that document 02 adds
abbrev pub Added : (ℕ → Type 0) → Type 0
Added Z = (code : ℕ) → T (ltb 21 code) → T (ltb code 27) → Z code

pub added_non_zero : Added NonZero
added_non_zero code t u = late_non_zero code t

abbrev pub Coded : Refusal → Type 0
Coded r = NonZero r.code
