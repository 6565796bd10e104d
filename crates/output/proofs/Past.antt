-- A number that may be missing, read as one past every slot and every index. Assumes nothing.
use mathlib.Core.Bool.{Bool, true, false}
use mathlib.Core.Path.{◌≡◌, refl, sym, ◌∙◌}
use Prim.Native.Nat.{ℕ, ◌≤◌, ◌<◌}
use native.Mathlib.Omega.{arith}
use lib.Dec.{eqb}
use borrow.Author.Tests.{eqb-true, false-eqb}
use mir.Val.{bool_byte}
use Rattle.std.specs.Prelude.{Option, Some, None, IsSome, unwrap_or}
use Rattle.std.specs.Option.{option_eq}
use Rattle.output.specs.Rows.{reached_at}
use Rattle.output.proofs.Filling.{reached_here, reached_not}

-- the code's test for the number x
pub past-same : (o : Option ℕ) (x : ℕ) → option_eq eqb o (Some x) ≡ true → unwrap_or o 65536 ≡ x
past-same (Some y) x h = eqb-true y x h
past-same None x h = cc

pub past-other : (o : Option ℕ) (x : ℕ) → x < 65536 → option_eq eqb o (Some x) ≡ false → unwrap_or o 65536 ≡ x → ⊥
past-other (Some y) x low h = false-eqb y x (sym h)
past-other None x low h = λ e. omega (arith, e)

pub past-there : (o : Option ℕ) → unwrap_or o 65536 < 65536 → IsSome o
past-there (Some y) h = refl
past-there None h = absurd (omega arith)

-- and what it counts
pub past-reached : (o : Option ℕ) (x : ℕ) → x < 65536 → (b : Bool) (a : ℕ) → b ≡ option_eq eqb o (Some x) → a ≡ bool_byte b → (a ≡ reached_at x (unwrap_or o 65536)) × (a ≤ 1)
past-reached o x low true a t e = (e ∙ reached_here x (unwrap_or o 65536) (sym (past-same o x (sym t))), omega (arith, e))
past-reached o x low false a t e = (e ∙ reached_not x (unwrap_or o 65536) (λ q. past-other o x low (sym t) (sym q)), omega (arith, e))
