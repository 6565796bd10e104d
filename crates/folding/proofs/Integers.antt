-- The integers' laws, over m, the number of numbers of a width; its bits go up to `last`. Assumes nothing.
use mathlib.Core.Path.{◌≡◌, refl, sym, ap, ◌∙◌}
use mathlib.Core.Bool.{Bool, true, false, cond}
use Prim.Native.Nat.{ℕ, zero, suc, ◌+◌, ◌-◌, ◌*◌, ◌/◌, ◌%◌, ◌<◌, ◌≤◌}
use native.Mathlib.Nat.{mod-eq_of_lt, mod-eq-sub-mod, mod_self, mod-lt, add-mod, mul-add-mod_self_right, div-add-mod', add-mul, mul-add, mul_assoc, mul_comm, mul_left_comm, add_assoc, add_comm, add_left_comm, le_trans, le_of_lt, lt_of_le_of_lt, mul-le-mul_right, mul-le-mul_left, mul-lt-mul_of_pos_right, div-lt_iff_lt-mul, div-le_self}
use native.Mathlib.Omega.{arith}
use borrow.Author.Tests.{le-leb, lt-leb, ltb-true, ltb-false, leb-true, eq-eqb, ne_eqb}
use lib.Ieee.{unlike}
use lib.Dec.{leb, ltb}
use Rattle.definition.specs.Expression.{over}
use Rattle.definition.specs.Value.{negative, negated, magnitude, quotient, integer}
use Rattle.folding.specs.Folding.{as_whole}
use Rattle.std.specs.Prelude.{Some, None}

once : (n m : ℕ) → m ≤ n → n < m + m → n % m ≡ n - m
once n m h l = mod-eq-sub-mod h ∙ mod-eq_of_lt (omega arith)

module _ (last a b : ℕ) (A : a ≤ last) (B : b ≤ last) where
  pub sum_fits : a ≤ last - b → a + b ≡ (a + b) % (last + 1)
  sum_fits h = sym (mod-eq_of_lt (omega arith))

  pub sum_wraps : last - b < a → a - (last - b) - 1 ≡ (a + b) % (last + 1)
  sum_wraps h =
      let e : a + b - (last + 1) ≡ a - (last - b) - 1 = omega arith in
      sym (once (a + b) (last + 1) (omega arith) (omega arith) ∙ e)

  pub difference_fits : b ≤ a → a - b ≡ (a + (last + 1 - b)) % (last + 1)
  difference_fits h =
      let e : a + (last + 1 - b) - (last + 1) ≡ a - b = omega arith in
      sym (once (a + (last + 1 - b)) (last + 1) (omega arith) (omega arith) ∙ e)

  pub difference_wraps : a < b → a + (last - b) + 1 ≡ (a + (last + 1 - b)) % (last + 1)
  difference_wraps h =
      let e : a + (last + 1 - b) ≡ a + (last - b) + 1 = omega arith in
      sym (mod-eq_of_lt {n = a + (last + 1 - b)} {m = last + 1} (omega arith) ∙ e)

pub negated-none : (last a : ℕ) → a ≡ 0 → 0 ≡ negated (last + 1) a
unfolding negated
negated-none last a e =
    let n : last + 1 - a ≡ last + 1 = omega arith in
    sym (ap (λ n. n % (last + 1)) n ∙ mod_self (last + 1))

pub negated-some : (last a : ℕ) → a ≤ last → (a ≡ 0 → ⊥) → last - a + 1 ≡ negated (last + 1) a
unfolding negated
negated-some last a h n =
    let e : last + 1 - a ≡ last - a + 1 = omega arith in
    sym (mod-eq_of_lt {n = last + 1 - a} {m = last + 1} (omega arith) ∙ e)

pub negative-is : (last a : ℕ) → (last + 1) % 2 ≡ 0 → ltb (last / 2) a ≡ negative (last + 1) a
unfolding negative
negative-is last a even = ways (ltb (last / 2) a) refl
  where
    ways : (t : Bool) → ltb (last / 2) a ≡ t → ltb (last / 2) a ≡ leb ((last + 1) / 2) a
    ways true e = e ∙ sym (le-leb ((last + 1) / 2) a (omega (arith, ltb-true (last / 2) a e)))
    ways false e = e ∙ sym (lt-leb ((last + 1) / 2) a (omega (arith, ltb-false (last / 2) a e)))

pub magnitude-negative : (last a : ℕ) (t : Bool) → a ≤ last → t ≡ negative (last + 1) a → t ≡ true → last - a + 1 ≡ magnitude (last + 1) a
unfolding magnitude
magnitude-negative last a t h e is =
    let n : last - a + 1 ≡ last + 1 - a = omega arith in
    n ∙ ap (λ t. cond t (last + 1 - a) a) (sym is ∙ e)

pub magnitude-positive : (last a : ℕ) (t : Bool) → t ≡ negative (last + 1) a → t ≡ false → a ≡ magnitude (last + 1) a
unfolding magnitude
magnitude-positive last a t e is = ap (λ t. cond t (last + 1 - a) a) (sym is ∙ e)

-- ---- the product by halves

rearranged : (p q u v r : ℕ) → (p * r + q) * (u * r + v) ≡ p * u * (r * r) + ((p * v + q * u) * r + q * v)
rearranged p q u v r = simp (add-mul, mul-add, mul_assoc, mul_comm, mul_left_comm, add_assoc, add_comm, add_left_comm)

gathered : (s x y r t : ℕ) → s * (r * r) + ((x * r + y) * r + t) ≡ (s + x) * (r * r) + (t + y * r)
gathered s x y r t = simp (add-mul, mul_assoc, add_assoc, add_comm, add_left_comm)

pub by_halves :
    (r m a b : ℕ) → r * r ≡ m →
    (a % r * (b % r) + (a / r * (b % r) % r + a % r * (b / r) % r) % r * r) % m ≡ (a * b) % m
by_halves r m a b e =
    let p = a / r in
    let q = a % r in
    let u = b / r in
    let v = b % r in
    let x = p * v + q * u in
    sym
    (ap (λ n. n * b % m) (sym (div-add-mod' a r))
    ∙ ap (λ n. (p * r + q) * n % m) (sym (div-add-mod' b r))
    ∙ ap (λ n. n % m) (rearranged p q u v r)
    ∙ ap (λ n. (p * u * (r * r) + (n * r + q * v)) % m) (sym (div-add-mod' x r))
    ∙ ap (λ n. n % m) (gathered (p * u) (x / r) (x % r) r (q * v))
    ∙ ap (λ n. ((p * u + x / r) * n + (q * v + x % r * r)) % m) e
    ∙ mul-add-mod_self_right (p * u + x / r) m (q * v + x % r * r)
    ∙ ap (λ n. (q * v + n * r) % m) (add-mod (p * v) (q * u) r))

-- what the halves' products keep within
pub root_positive : (r last : ℕ) → r * r ≡ last + 1 → 0 < r
root_positive zero last e = absurd (none e)
  where
    none : 0 ≡ last + 1 → ⊥
    none e = omega arith
root_positive (suc r) last e = omega arith

pub rest_below : (r last a : ℕ) → r * r ≡ last + 1 → a % r < r
rest_below r last a e = mod-lt a (root_positive r last e)

pub top_below : (r last a : ℕ) → a ≤ last → r * r ≡ last + 1 → a / r < r
top_below r last a h e = (div-lt_iff_lt-mul (root_positive r last e)).1 (rw e (omega arith))

pub both_below : (r last p q : ℕ) → r * r ≡ last + 1 → p < r → q < r → p * q ≤ last
both_below r last p q e P Q =
    let h : p * q < r * r = lt_of_le_of_lt (mul-le-mul_left p (le_of_lt Q)) (mul-lt-mul_of_pos_right P (root_positive r last e)) in
    omega arith

pub shifted_below : (r last p : ℕ) → r * r ≡ last + 1 → p < r → p * r ≤ last
shifted_below r last p e P =
    let h : p * r < r * r = mul-lt-mul_of_pos_right P (root_positive r last e) in
    omega arith

pub rests-below : (r last p q : ℕ) → r * r ≡ last + 1 → p < r → q < r → p + q ≤ last
rests-below zero last p q e P Q = omega arith
rests-below (suc zero) last p q e P Q = omega arith
rests-below (suc (suc r)) last p q e P Q =
    let h : 2 * suc (suc r) ≤ suc (suc r) * suc (suc r) = mul-le-mul_right (suc (suc r)) (omega arith) in
    omega arith

-- ---- the quotient

pub negative-some : (last a : ℕ) → (last + 1) % 2 ≡ 0 → true ≡ negative (last + 1) a → 0 < a
unfolding negative
negative-some last a even e = omega (arith, leb-true ((last + 1) / 2) a (sym e))

pub magnitude-some : (last a : ℕ) → a ≤ last → 0 < a → 0 < magnitude (last + 1) a
unfolding magnitude
magnitude-some last a h some = ways (negative (last + 1) a)
  where
    ways : (t : Bool) → 0 < cond t (last + 1 - a) a
    ways true = omega arith
    ways false = omega arith

pub magnitude-within : (last a : ℕ) → (last + 1) % 2 ≡ 0 → a ≤ last → magnitude (last + 1) a ≤ last
unfolding magnitude
magnitude-within last a even h = ways (negative (last + 1) a) refl
  where
    ways : (t : Bool) → negative (last + 1) a ≡ t → cond t (last + 1 - a) a ≤ last
    ways true e = omega (arith, negative-some last a even (sym e))
    ways false e = omega arith

pub quotient-within : (last p q : ℕ) → p ≤ last → p / q ≤ last
quotient-within last p q h = le_trans (div-le_self p q) h

module _
    (last a b p q : ℕ) (s t : Bool)
    (P : p ≡ magnitude (last + 1) a)
    (Q : q ≡ magnitude (last + 1) b)
    (S : s ≡ negative (last + 1) a)
    (U : t ≡ negative (last + 1) b)
  where
    pub quotient-unlike : (n : ℕ) → unlike s t ≡ true → n ≡ negated (last + 1) (p / q) → n ≡ quotient (last + 1) a b
    unfolding quotient
    quotient-unlike n e h = h ∙ ap (λ u. cond u (negated (last + 1) (p / q)) (p / q)) (sym e) ∙ named
      where
        named : cond (unlike s t) (negated (last + 1) (p / q)) (p / q) ≡ quotient (last + 1) a b
        named = λ i. cond (unlike (S i) (U i)) (negated (last + 1) (P i / Q i)) (P i / Q i)

    pub quotient-like : unlike s t ≡ false → p / q ≡ quotient (last + 1) a b
    unfolding quotient
    quotient-like e = ap (λ u. cond u (negated (last + 1) (p / q)) (p / q)) (sym e) ∙ named
      where
        named : cond (unlike s t) (negated (last + 1) (p / q)) (p / q) ≡ quotient (last + 1) a b
        named = λ i. cond (unlike (S i) (U i)) (negated (last + 1) (P i / Q i)) (P i / Q i)

-- ---- all four signs

pub over_none : (m a b : ℕ) → b ≡ 0 → None ≡ as_whole (integer m over a b)
unfolding integer as_whole
over_none m a b e = rw (eq-eqb b 0 e, integer)

pub over-some : (m a b n : ℕ) → (b ≡ 0 → ⊥) → n ≡ quotient m a b → Some n ≡ as_whole (integer m over a b)
unfolding integer as_whole
over-some m a b n e h = rw (ne_eqb b 0 e, integer) (ap Some h)
