-- What is promised of constants worked out in the job (document 02, No. 3), as statements about the definition. Assumes nothing. How to
-- read them: Statements.antt
use Rattle.std.specs.Prelude.{Bool, true, false, not, ◌&&◌, ◌≡◌, ℕ, zero, suc, ◌*◌, ◌%◌, ◌<◌, Float, ℤ, pos, negsuc, neg_ℤ, ◌+ℤ◌, ◌-ℤ◌, ◌*ℤ◌}
use Rattle.std.proofs.Math.Option.{some}
use Rattle.std.specs.Float.{Format, binary32, binary64, fin}
use Rattle.std.specs.Float.Ieee.{unlike, up, down, round, nan_bits}
use Rattle.definition.specs.Basics.{good}
use Rattle.definition.specs.Expression.{Number, float, double, Sign, plus, minus, times, over, Expression, leaf, apply}
use Rattle.definition.specs.Value.{integer, operation, folded}
use Rattle.laws.specs.Integers.{number, wrapped, exact}

-- WRAPS: of any even number m of numbers, as 2 ^ 32 and 2 ^ 64, a sign makes of two's complement bits the bits of what it makes of the
-- integers themselves, wrapped; a quotient's divisor isn't 0
abbrev pub Wraps : Type 0
Wraps =
    (m a b : ℕ) → m % 2 ≡ 0 → a < m → b < m →
    (s : Sign) → (s ≡ over → b ≡ 0 → ⊥) → integer m s a b ≡ good (wrapped m (exact s (number m a) (number m b)))

-- ±n
unfoldable pub signed : Bool → ℕ → ℤ
signed false n = pos n
signed true n = neg_ℤ (pos n)

-- the fraction z / c, rounded to nearest with ties to even; a zero's sign is given
unfoldable pub rounded_once : Format → Bool → ℤ → ℕ → Float
rounded_once f sign (pos zero) c = round f sign zero c
rounded_once f sign (pos (suc n)) c = round f false (suc n) c
rounded_once f sign (negsuc n) c = round f true (suc n) c

-- ONE ROUNDING: what the signs make of ±m * 2 ^ e and ±n * 2 ^ d, where 2 ^ e is up e / down e, is worked out exactly, as an integer over
-- a natural number, and rounded once; a quotient's divisor isn't 0
abbrev pub OneRounding : Type 0
OneRounding =
    (f : Format) (s t : Bool) (m n : ℕ) (e d : ℤ) →
    let x = fin s m e in
    let y = fin t n d in
    let a = m * up e * down d in
    let b = n * up d * down e in
    (operation plus f x y ≡ rounded_once f (s && t) (signed s a +ℤ signed t b) (down e * down d))
    × (operation minus f x y ≡ rounded_once f (s && not t) (signed s a -ℤ signed t b) (down e * down d))
    × (operation times f x y ≡ rounded_once f (unlike s t) (signed s (m * up e) *ℤ signed t (n * up d)) (down e * down d))
    × ((n ≡ 0 → ⊥) → operation over f x y ≡ rounded_once f (unlike s t) (signed (unlike s t) a) b)

-- ONE NAN: a NaN that is computed has one pattern
abbrev pub OneNan : Type 0
OneNan =
    (s : Sign) (a b : Expression) (n : ℕ) →
    (folded (some (apply s a b)) ≡ good (float, n) → nan_bits binary32 n ≡ true → n ≡ 0x7FC00000)
    × (folded (some (apply s a b)) ≡ good (double, n) → nan_bits binary64 n ≡ true → n ≡ 0x7FF8000000000000)

-- LONE LEAF: a lone leaf keeps its bits
abbrev pub LoneLeaf : Type 0
LoneLeaf = (kind : Number) (b : ℕ) → folded (some (leaf kind b)) ≡ good (kind, b)
