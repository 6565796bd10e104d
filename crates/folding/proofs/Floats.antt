-- Floats and their bits: the NaN apart, which has many patterns and no bits of its own. Assumes nothing.
use mathlib.Core.Path.{◌≡◌, refl, sym, ap, ◌∙◌, subst}
use mathlib.Core.Bool.{true, false, not, true≢false}
use Prim.Native.Nat.{ℕ, ◌*◌, ◌%◌, ◌<◌, ◌≤◌}
use lib.Dec.{T}
use lib.Ieee.{Format, binary32, binary64, Float, nan, inf, fin, top, ones, hid, ne, div, is_nan, nan_bits, of_bits, to_bits}
use lib.Ieee.Bits.{nan_bits_is, nan_bits_above, of_bits-to_bits}
use lib.Ieee.Compare.{differs_from_itself, nan_differs}
use borrow.Author.Tests.{lt-ltb, le-ltb}
use Rattle.definition.specs.Expression.{Sign}
use Rattle.definition.specs.Value.{operation, rounded}
use Rattle.laws.proofs.Values.Rounding.{operation-fits, nan-by_test}

pub is_nan_lem : (x : Float) → ne x x ≡ true → x ≡ nan
is_nan_lem x e = differs_from_itself x (subst T (sym e) tt)

pub no_nan : (x : Float) → ne x x ≡ false → T (not (is_nan x))
unfolding is_nan
no_nan nan e = absurd (true≢false (sym nan_differs ∙ e))
no_nan (inf s) e = tt
no_nan (fin s m k) e = tt

pub bits_of-nan-32 : (x : Float) → ne x x ≡ true → 2143289344 ≡ to_bits binary32 x
unfolding to_bits
bits_of-nan-32 x e = sym (ap (to_bits binary32) (is_nan_lem x e))

pub bits_of-nan-64 : (x : Float) → ne x x ≡ true → 9221120237041090560 ≡ to_bits binary64 x
unfolding to_bits
bits_of-nan-64 x e = sym (ap (to_bits binary64) (is_nan_lem x e))

-- a pattern above the infinity's is a NaN's, and no other is
pub patterns_nan : (f : Format) (n : ℕ) → ones f * hid f < n % top f → of_bits f n ≡ nan
patterns_nan f n h = nan-by_test (of_bits f n) (sym (nan_bits_is f n) ∙ nan_bits_above f n ∙ lt-ltb (ones f * hid f) (n % top f) h)

pub patterns_number : (f : Format) (n : ℕ) → n % top f ≤ ones f * hid f → T (not (nan_bits f n))
patterns_number f n h = subst (λ t. T (not t)) (sym (nan_bits_above f n ∙ le-ltb (ones f * hid f) (n % top f) h)) tt

pub zero_by_zero : (f : Format) → div f (of_bits f 0) (of_bits f 0) ≡ nan
unfolding div of_bits
zero_by_zero binary32 = refl
zero_by_zero binary64 = refl

-- what an operation gives is the float of its bits
pub rounded-float : (f : Format) (s : Sign) (a b : ℕ) → operation s f (of_bits f a) (of_bits f b) ≡ of_bits f (rounded f s a b)
unfolding rounded
rounded-float f s a b =
    let y = operation s f (of_bits f a) (of_bits f b) in
    sym (of_bits-to_bits f y (operation-fits s f (of_bits f a) (of_bits f b)))

pub rounded-bits : (f : Format) (s : Sign) (a b : ℕ) → to_bits f (of_bits f (rounded f s a b)) ≡ rounded f s a b
unfolding rounded
rounded-bits f s a b =
    let y = operation s f (of_bits f a) (of_bits f b) in
    ap (to_bits f) (of_bits-to_bits f y (operation-fits s f (of_bits f a) (of_bits f b)))
