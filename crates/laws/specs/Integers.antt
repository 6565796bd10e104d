-- The integers that two's complement bits stand for, and what wrapping makes of an integer, over m, the number of numbers of a width.
-- Assumes nothing.
use Rattle.std.specs.Prelude.{true, false, ℕ, suc, ◌-◌, ◌%◌, ℤ, pos, negsuc, ◌+ℤ◌, ◌-ℤ◌, ◌*ℤ◌}
use Rattle.std.specs.Int.Signed.{quot_z}
use Rattle.definition.specs.Expression.{Sign, plus, minus, times, over}
use Rattle.definition.specs.Value.{negative}

unfoldable pub number : ℕ → ℕ → ℤ
number m a = elim (negative m a) [ true ↦ negsuc (m - suc a) | false ↦ pos a ]

-- the bits of an integer as far as the width goes
unfoldable pub wrapped : ℕ → ℤ → ℕ
wrapped m (pos n) = n % m
wrapped m (negsuc n) = m - suc (n % m)

-- a quotient is cut toward zero
unfoldable pub exact : Sign → ℤ → ℤ → ℤ
exact plus x y = x +ℤ y
exact minus x y = x -ℤ y
exact times x y = x *ℤ y
exact over x y = quot_z x y
