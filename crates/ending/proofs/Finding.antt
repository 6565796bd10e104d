-- The slot of the text's node, as the code reads it: past the nodes there is none. Assumes nothing.
use mathlib.Core.List.{List}
use mathlib.Core.Path.{◌≡◌, refl, sym, ap, ◌∙◌}
use Prim.Native.Nat.{ℕ, ◌≤◌, ◌<◌}
use native.Mathlib.Omega.{arith}
use lib.ListN.{length, get_or, get_or-eq_default}
use Rattle.std.specs.Prelude.{true, false, Option, Some, None, IfSome, is_some}
use Rattle.ending.specs.Naming.{slot_or_0}

pub slot-past : (given : List ℕ) (k place n : ℕ) → k ≡ place → length given ≡ n → n ≤ k → 0 ≡ get_or given place 0
slot-past given k place n e long h = sym (ap (λ (x : ℕ). get_or given x 0) (sym e) ∙ get_or-eq_default given 0 {n = k} (omega arith))

pub slot_read : (given : List ℕ) (k place r : ℕ) → k ≡ place → r ≡ get_or given k 0 → r ≡ get_or given place 0
slot_read given k place r e q = q ∙ ap (λ (x : ℕ). get_or given x 0) e

-- a slot as a number: above 0, and 0 for none
pub slot-is : (r : Option ℕ) → IfSome r (λ n. 0 < n) → is_some r ≡ true → slot_or_0 r ≡ 0 → ⊥
slot-is (Some n) pos e z = omega arith
slot-is None pos e z = absurd (let never : ⊥ = cc in never)

pub slot-none : (r : Option ℕ) → is_some r ≡ false → slot_or_0 r ≡ 0
slot-none (Some n) e = absurd (let never : ⊥ = cc in never)
slot-none None e = refl
