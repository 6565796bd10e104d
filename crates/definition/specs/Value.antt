-- Constants worked out in the job (document 02, No. 3): an expression's value, and a record 46 once it is read. Assumes nothing.
use Rattle.std.specs.Prelude.{Bool, true, false, cond, List, ℕ, ◌+◌, ◌-◌, ◌*◌, ◌/◌, ◌%◌, ◌^◌, eqb, leb, Float}
use Rattle.std.proofs.Math.Option.{Option, none, some}
use Rattle.std.specs.Float.{Format, binary32, binary64}
use Rattle.std.specs.Float.Ieee.{unlike, add, sub, mul, div, of_bits, to_bits}
use Rattle.definition.specs.Basics.{Result, good, bad, ◌>>=◌}
use Rattle.definition.specs.Bytes.{be4, be8}
use Rattle.definition.specs.Expression.{Number, int, float, long, double, Sign, plus, minus, times, over, Expression, leaf, apply, kind_within}

-- Int and Long: the bits are two's complement, and m is how many numbers a width has. A number is negative from m / 2 on.
unfoldable pub negative : ℕ → ℕ → Bool
negative m a = leb (m / 2) a

unfoldable pub negated : ℕ → ℕ → ℕ
negated m a = (m - a) % m

unfoldable pub magnitude : ℕ → ℕ → ℕ
magnitude m a = cond (negative m a) (m - a) a

-- cut toward zero
unfoldable pub quotient : ℕ → ℕ → ℕ → ℕ
quotient m a b = let q = magnitude m a / magnitude m b in cond (unlike (negative m a) (negative m b)) (negated m q) q

-- 23: divided by zero
unfoldable pub integer : ℕ → Sign → ℕ → ℕ → Result ℕ ℕ
integer m plus a b = good ((a + b) % m)
integer m minus a b = good ((a + (m - b)) % m)
integer m times a b = good ((a * b) % m)
integer m over a b = elim (eqb b 0) [ true ↦ bad 23 | false ↦ good (quotient m a b) ]

-- Float and Double: IEEE 754, rounded once; `to_bits` writes 7FC00000 or 7FF8000000000000 for a NaN
unfoldable pub operation : Sign → Format → Float → Float → Float
operation plus = add
operation minus = sub
operation times = mul
operation over = div

unfoldable pub rounded : Format → Sign → ℕ → ℕ → ℕ
rounded f s a b = to_bits f (operation s f (of_bits f a) (of_bits f b))

unfoldable pub computed : Number → Sign → ℕ → ℕ → Result ℕ ℕ
computed int s a b = integer (2 ^ 32) s a b
computed float s a b = good (rounded binary32 s a b)
computed long s a b = integer (2 ^ 64) s a b
computed double s a b = good (rounded binary64 s a b)

-- the bits of its value
unfoldable pub value : Number → Expression → Result ℕ ℕ
value kind (leaf k b) = good b
value kind (apply s a b) = do
  x ← value kind a
  y ← value kind b
  computed kind s x y

-- ---- a record 46 once it is read: 22, then 23; else the constant's kind and bits

unfoldable pub one_kind : Option Number → Result ℕ Number
one_kind none = bad 22
one_kind (some kind) = good kind

unfoldable pub folded : Option Expression → Result ℕ (Number × ℕ)
folded none = bad 22
folded (some e) = do
  kind ← one_kind (kind_within 32 e)
  b ← value kind e
  good (kind, b)

-- the bytes of a constant's bits
unfoldable pub bits_bytes : Number → ℕ → List ℕ
bits_bytes int b = be4 b
bits_bytes float b = be4 b
bits_bytes long b = be8 b
bits_bytes double b = be8 b

-- what the record's bytes come to; 3: they are cut
unfoldable pub constant_in : Option (Option Expression × List ℕ) → Result ℕ (Number × ℕ)
constant_in none = bad 3
constant_in (some r) = folded r.0
