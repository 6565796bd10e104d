-- Each operation on floats is exact and rounded once, a NaN that is computed has one pattern, and a lone leaf keeps its bits. Assumes nothing.
use mathlib.Core.Bool.{Bool, true, false, not, ◌&&◌, cond}
use mathlib.Core.Option.{some}
use mathlib.Core.Path.{◌≡◌, refl, sym, ap, ◌∙◌, subst}
use Prim.Native.Nat.{ℕ, zero, suc, ◌+◌, ◌-◌, ◌*◌}
use native.Mathlib.Omega.{arith}
use lib.Dec.{T, eqb, ltb}
use lib.Ieee.{Format, binary32, binary64, Float, nan, inf, fin, unlike, up, down, round, sum, add, sub, mul, div, neg, fits, is_nan, nan_bits, of_bits, to_bits}
use lib.Ieee.Bits.{of_bits-to_bits, nan_bits_is}
use lib.Ieee.Fits.{add-fits, sub-fits, mul-fits, div-fits}
use lib.IntN.{pos, negsuc, neg_ℤ, sub_ℕ, ◌+ℤ◌, ◌*ℤ◌, neg_ℤ-neg_ℤ}
use borrow.Author.Tests.{ltb-true, ltb-false, lt-ltb, le-ltb, ne_eqb}
use Rattle.definition.specs.Basics.{good}
use Rattle.definition.specs.Expression.{Number, float, double, Sign, plus, minus, times, over, Expression, apply, kind_within}
use Rattle.definition.specs.Value.{operation, rounded, computed, value, one_kind, folded}
use Rattle.facts.proofs.Lists.{clash}
use Rattle.facts.proofs.Results.{good_then, good_inj}
use Rattle.laws.specs.FoldingStatements.{signed, rounded_once, OneRounding, OneNan, LoneLeaf}

-- ONE ROUNDING

less : (a b : ℕ) → pos a +ℤ neg_ℤ (pos b) ≡ sub_ℕ a b
less a zero =
    let n : a + 0 ≡ a - 0 = omega arith in
    ap pos n ∙ ap (λ t. cond t (negsuc (0 - suc a)) (pos (a - 0))) (sym (le-ltb a 0 (omega arith)))
less a (suc b) = refl

more : (a b : ℕ) → neg_ℤ (pos a) +ℤ pos b ≡ sub_ℕ b a
more zero b =
    let n : 0 + b ≡ b - 0 = omega arith in
    ap pos n ∙ ap (λ t. cond t (negsuc (0 - suc b)) (pos (b - 0))) (sym (le-ltb b 0 (omega arith)))
more (suc a) b = refl

both : (a b : ℕ) → neg_ℤ (pos a) +ℤ neg_ℤ (pos b) ≡ neg_ℤ (pos (a + b))
both zero zero = refl
both zero (suc b) =
    let n : suc b - 1 ≡ b = omega arith in
    let k : 0 + suc b ≡ suc b = omega arith in
    ap (λ t. cond t (negsuc (suc b - 1)) (pos (0 - suc b))) (lt-ltb 0 (suc b) (omega arith)) ∙ ap negsuc n ∙ ap (λ n. neg_ℤ (pos n)) (sym k)
both (suc a) zero =
    let n : suc a - 1 ≡ a = omega arith in
    let k : suc a + 0 ≡ suc a = omega arith in
    ap (λ t. cond t (negsuc (suc a - 1)) (pos (0 - suc a))) (lt-ltb 0 (suc a) (omega arith)) ∙ ap negsuc n ∙ ap (λ n. neg_ℤ (pos n)) (sym k)
both (suc a) (suc b) =
    let k : suc a + suc b ≡ suc (suc (a + b)) = omega arith in
    ap (λ n. neg_ℤ (pos n)) (sym k)

module _ (f : Format) (c : ℕ) where
  -- a size with its sign
  of_size : (s : Bool) (n : ℕ) → rounded_once f s (signed s n) c ≡ round f s n c
  unfolding rounded_once signed
  of_size false zero = refl
  of_size false (suc n) = refl
  of_size true zero = refl
  of_size true (suc n) = refl

  -- a - b
  difference : (a b : ℕ) → cond (ltb a b) (round f true (b - a) c) (round f false (a - b) c) ≡ rounded_once f false (sub_ℕ a b) c
  unfolding rounded_once signed
  difference a b = ways (ltb a b) refl
    where
      ways :
          (t : Bool) → ltb a b ≡ t →
          cond t (round f true (b - a) c) (round f false (a - b) c) ≡ rounded_once f false (cond t (negsuc (b - suc a)) (pos (a - b))) c
      ways true e =
          let l = ltb-true a b e in
          let n : b - a ≡ suc (b - suc a) = omega arith in
          ap (λ n. round f true n c) n
      ways false e = sym (of_size false (a - b))

  -- -a + b, where a zero's sign tells which was larger
  turned : (a b : ℕ) → cond (ltb a b) (round f false (b - a) c) (round f (ltb b a) (a - b) c) ≡ cond (ltb b a) (round f true (a - b) c) (round f false (b - a) c)
  turned a b = ways (ltb a b) (ltb b a) refl refl
    where
      ways :
          (t u : Bool) → ltb a b ≡ t → ltb b a ≡ u →
          cond t (round f false (b - a) c) (round f u (a - b) c) ≡ cond u (round f true (a - b) c) (round f false (b - a) c)
      ways true true p q = absurd (omega (arith, ltb-true a b p, ltb-true b a q))
      ways true false p q = refl
      ways false true p q = refl
      ways false false p q =
          let n : a - b ≡ b - a = omega (arith, ltb-false a b p, ltb-false b a q) in
          ap (λ n. round f false n c) n

  sum-once : (s t : Bool) (a b : ℕ) → sum f s a t b c ≡ rounded_once f (s && t) (signed s a +ℤ signed t b) c
  unfolding sum signed
  sum-once false false a b = sym (of_size false (a + b))
  sum-once true true a b = sym (of_size true (a + b)) ∙ ap (λ z. rounded_once f true z c) (sym (both a b))
  sum-once false true a b = difference a b ∙ ap (λ z. rounded_once f false z c) (sym (less a b))
  sum-once true false a b = turned a b ∙ difference b a ∙ ap (λ z. rounded_once f false z c) (sym (more a b))

-- a zero has no sign
no_sign : (n : ℕ) → n ≡ 0 → pos n ≡ neg_ℤ (pos n)
no_sign n e = subst (λ n. pos n ≡ neg_ℤ (pos n)) (sym e) refl

-- a product's sign
signed_product : (s t : Bool) (a b : ℕ) → signed s a *ℤ signed t b ≡ signed (unlike s t) (a * b)
unfolding signed
signed_product false false a b = refl
signed_product false true a zero = no_sign (a * 0) (omega arith)
signed_product false true a (suc b) = refl
signed_product true false zero b = no_sign (0 * b) (omega arith)
signed_product true false (suc a) b = refl
signed_product true true zero zero = refl
signed_product true true zero (suc b) = sym (no_sign (0 * suc b) (omega arith))
signed_product true true (suc a) zero = sym (no_sign (suc a * 0) (omega arith))
signed_product true true (suc a) (suc b) = refl

minus-signed : (t : Bool) (b : ℕ) → neg_ℤ (signed t b) ≡ signed (not t) b
unfolding signed
minus-signed false b = refl
minus-signed true b = neg_ℤ-neg_ℤ (pos b)

pub one_rounding : OneRounding
unfolding operation add sub neg mul div
one_rounding f s t m n e d =
    let a = m * up e * down d in
    let b = n * up d * down e in
    let c = down e * down d in (
      sum-once f c s t a b,
      sum-once f c s (not t) a b ∙ ap (λ z. rounded_once f (s && not t) (signed s a +ℤ z) c) (sym (minus-signed t b)),
      sym (of_size f c (unlike s t) (m * up e * (n * up d))) ∙ ap (λ z. rounded_once f (unlike s t) z c) (sym (signed_product s t (m * up e) (n * up d))),
      λ h. ap (λ u. cond u (cond (eqb m 0) nan (inf (unlike s t))) (round f (unlike s t) a b)) (ne_eqb n 0 h) ∙ sym (of_size f b (unlike s t) a),
    )

-- ONE NAN

pub operation-fits : (s : Sign) (f : Format) (x y : Float) → T (fits f (operation s f x y))
unfolding operation
operation-fits plus f x y = add-fits f x y
operation-fits minus f x y = sub-fits f x y
operation-fits times f x y = mul-fits f x y
operation-fits over f x y = div-fits f x y

pub nan-by_test : (x : Float) → is_nan x ≡ true → x ≡ nan
unfolding is_nan
nan-by_test nan e = refl
nan-by_test (inf s) e = clash (cc)
nan-by_test (fin s m k) e = clash (cc)

-- a pattern of a NaN that an operation gave is the one that is written for nan
one-pattern : (f : Format) (s : Sign) (a b : ℕ) → nan_bits f (rounded f s a b) ≡ true → rounded f s a b ≡ to_bits f nan
unfolding rounded
one-pattern f s a b h =
    let y = operation s f (of_bits f a) (of_bits f b) in
    let back = of_bits-to_bits f y (operation-fits s f (of_bits f a) (of_bits f b)) in
    ap (to_bits f) (nan-by_test y (sym (ap is_nan back) ∙ sym (nan_bits_is f (to_bits f y)) ∙ h))

-- what two parts come to was computed, and is of their kind
computed-last : (s : Sign) (a b : Expression) (kind : Number) (n : ℕ) → folded (some (apply s a b)) ≡ good (kind, n) → (x y : ℕ) × (computed kind s x y ≡ good n)
unfolding folded value
computed-last s a b kind n h =
    good_then (one_kind (kind_within 32 (apply s a b))) _ (kind, n) h λ k _ h.
    good_then (value k (apply s a b)) _ (kind, n) h λ m v h.
    good_then (value k a) _ m v λ x _ v.
    good_then (value k b) _ m v λ y _ v.
    let pair : ◌≡◌ {A = Number × ℕ} (k, m) (kind, n) = good_inj h in
    (x, y, subst (λ (r : Number × ℕ). computed r.0 s x y ≡ good r.1) pair v)

pub one_nan : OneNan
unfolding computed to_bits
one_nan s a b n = (
  λ h p.
      let k = computed-last s a b float n h in
      let e : rounded binary32 s k.0 k.1 ≡ n = good_inj k.2 in
      sym e ∙ one-pattern binary32 s k.0 k.1 (ap (nan_bits binary32) e ∙ p),
  λ h p.
      let k = computed-last s a b double n h in
      let e : rounded binary64 s k.0 k.1 ≡ n = good_inj k.2 in
      sym e ∙ one-pattern binary64 s k.0 k.1 (ap (nan_bits binary64) e ∙ p),
)

-- LONE LEAF

pub lone_leaf : LoneLeaf
unfolding folded one_kind kind_within value
lone_leaf kind b = refl
