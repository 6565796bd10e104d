-- The integer law, over the width: what the signs make of bits are the bits of what they make of the integers. Assumes nothing.
use mathlib.Core.Path.{◌≡◌, refl, sym, ap, ◌∙◌}
use mathlib.Core.Bool.{Bool, true, false, cond}
use Prim.Native.Nat.{ℕ, zero, suc, ◌+◌, ◌-◌, ◌*◌, ◌/◌, ◌%◌, ◌<◌, ◌≤◌}
use native.Mathlib.Nat.{mod-eq_of_lt, mod-eq-sub-mod, mod_self, mod-lt, add-mod, suc-mod, add-mod_right, mul-add, add-mul, mul-mod_left, mul_comm, div-le_self}
use native.Mathlib.Omega.{arith}
use lib.Dec.{ltb}
use lib.IntN.{pos, negsuc, neg_ℤ, sub_ℕ, ◌+ℤ◌, ◌-ℤ◌, ◌*ℤ◌}
use lib.Signed.{quot_z}
use lib.Ieee.{unlike}
use borrow.Author.Tests.{leb-true, leb-false, ltb-true, ltb-false, ne_eqb}
use Rattle.definition.specs.Basics.{good, bad}
use Rattle.definition.specs.Expression.{Sign, plus, minus, times, over}
use Rattle.definition.specs.Value.{negative, negated, magnitude, quotient, integer}
use Rattle.laws.specs.Integers.{number, wrapped, exact}
use Rattle.laws.specs.FoldingStatements.{Wraps}

once : (n m : ℕ) → m ≤ n → n < m + m → n % m ≡ n - m
once n m h l = mod-eq-sub-mod h ∙ mod-eq_of_lt (omega arith)

-- ---- opposites

wrapped-opposite : (m y : ℕ) → 0 < m → wrapped m (neg_ℤ (pos y)) ≡ (m - y % m) % m
unfolding wrapped
wrapped-opposite m zero h =
    let e : 0 % m ≡ 0 = mod-eq_of_lt h in
    let f : m - 0 % m ≡ m = omega arith in
    e ∙ sym (ap (λ n. n % m) f ∙ mod_self m)
wrapped-opposite m (suc n) h = ways (ltb (suc (n % m)) m) refl
  where
    small : n % m < m
    small = mod-lt n h

    ways : (t : Bool) → ltb (suc (n % m)) m ≡ t → m - suc (n % m) ≡ (m - suc n % m) % m
    ways true e =
        let l = ltb-true (suc (n % m)) m e in
        let f : suc n % m ≡ suc (n % m) = suc-mod n m ∙ mod-eq_of_lt l in
        sym (ap (λ k. (m - k) % m) f ∙ mod-eq_of_lt {n = m - suc (n % m)} {m = m} (omega arith))
    ways false e =
        let l = ltb-false (suc (n % m)) m e in
        let s = small in
        let k : suc (n % m) ≡ m = omega arith in
        let f : suc n % m ≡ 0 = suc-mod n m ∙ ap (λ k. k % m) k ∙ mod_self m in
        let g : m - suc (n % m) ≡ 0 = omega arith in
        let o : m - suc n % m ≡ m = omega arith in
        g ∙ sym (ap (λ k. k % m) o ∙ mod_self m)

opposite : (m x y : ℕ) → 0 < m → (x + y) % m ≡ 0 → wrapped m (neg_ℤ (pos y)) ≡ x % m
opposite m x y h e = wrapped-opposite m y h ∙ ways (ltb (x % m + y % m) m) refl
  where
    X : x % m < m
    X = mod-lt x h

    Y : y % m < m
    Y = mod-lt y h

    E : (x % m + y % m) % m ≡ 0
    E = sym (add-mod x y m) ∙ e

    ways : (t : Bool) → ltb (x % m + y % m) m ≡ t → (m - y % m) % m ≡ x % m
    ways true t =
        let l = ltb-true (x % m + y % m) m t in
        let z : x % m + y % m ≡ 0 = sym (mod-eq_of_lt l) ∙ E in
        let f : m - y % m ≡ m = omega arith in
        let g : x % m ≡ 0 = omega arith in
        ap (λ k. k % m) f ∙ mod_self m ∙ sym g
    ways false t =
        let l = ltb-false (x % m + y % m) m t in
        let a = X in
        let b = Y in
        let z : x % m + y % m - m ≡ 0 = sym (once (x % m + y % m) m l (omega arith)) ∙ E in
        let f : m - y % m ≡ x % m = omega arith in
        ap (λ k. k % m) f ∙ mod-eq_of_lt a

-- ---- the four signs

module _ (m a b : ℕ) (even : m % 2 ≡ 0) (A : a < m) (B : b < m) where
  any : 0 < m
  any = omega arith

  less : (x y : ℕ) → x < m → y ≤ x → wrapped m (sub_ℕ x y) ≡ x - y
  unfolding wrapped
  less x y h l = ways (ltb x y) refl
    where
      ways : (t : Bool) → ltb x y ≡ t → wrapped m (cond t (negsuc (y - suc x)) (pos (x - y))) ≡ x - y
      ways true e = absurd (omega (arith, ltb-true x y e))
      ways false e = mod-eq_of_lt (omega arith)

  more : (x y : ℕ) → x < y → y ≤ m → wrapped m (sub_ℕ x y) ≡ m - (y - x)
  unfolding wrapped
  more x y h l = ways (ltb x y) refl
    where
      ways : (t : Bool) → ltb x y ≡ t → wrapped m (cond t (negsuc (y - suc x)) (pos (x - y))) ≡ m - (y - x)
      ways true e =
          let f : (y - suc x) % m ≡ y - suc x = mod-eq_of_lt (omega arith) in
          omega arith
      ways false e = absurd (omega (arith, ltb-false x y e))

  sum-law : (s t : Bool) → negative m a ≡ s → negative m b ≡ t → (a + b) % m ≡ wrapped m (elim s [ true ↦ negsuc (m - suc a) | false ↦ pos a ] +ℤ elim t [ true ↦ negsuc (m - suc b) | false ↦ pos b ])
  unfolding negative wrapped
  sum-law false false p q = refl
  sum-law false true p q = ways (ltb a (m - b)) refl
    where
      c : suc (m - suc b) ≡ m - b
      c = omega arith

      ways : (u : Bool) → ltb a (m - b) ≡ u → (a + b) % m ≡ wrapped m (sub_ℕ a (suc (m - suc b)))
      ways true e =
          let l = ltb-true a (m - b) e in
          let f : m - (m - b - a) ≡ a + b = omega arith in
          mod-eq_of_lt {n = a + b} {m = m} (omega arith) ∙ sym (ap (λ k. wrapped m (sub_ℕ a k)) c ∙ more a (m - b) l (omega arith) ∙ f)
      ways false e =
          let l = ltb-false a (m - b) e in
          let f : a - (m - b) ≡ a + b - m = omega arith in
          once (a + b) m (omega arith) (omega arith) ∙ sym (ap (λ k. wrapped m (sub_ℕ a k)) c ∙ less a (m - b) A l ∙ f)
  sum-law true false p q = ways (ltb b (m - a)) refl
    where
      c : suc (m - suc a) ≡ m - a
      c = omega arith

      ways : (u : Bool) → ltb b (m - a) ≡ u → (a + b) % m ≡ wrapped m (sub_ℕ b (suc (m - suc a)))
      ways true e =
          let l = ltb-true b (m - a) e in
          let f : m - (m - a - b) ≡ a + b = omega arith in
          mod-eq_of_lt {n = a + b} {m = m} (omega arith) ∙ sym (ap (λ k. wrapped m (sub_ℕ b k)) c ∙ more b (m - a) l (omega arith) ∙ f)
      ways false e =
          let l = ltb-false b (m - a) e in
          let f : b - (m - a) ≡ a + b - m = omega arith in
          once (a + b) m (omega arith) (omega arith) ∙ sym (ap (λ k. wrapped m (sub_ℕ b k)) c ∙ less b (m - a) B l ∙ f)
  sum-law true true p q =
      let x = leb-true (m / 2) a p in
      let y = leb-true (m / 2) b q in
      let f : suc (m - suc a + (m - suc b)) % m ≡ suc (m - suc a + (m - suc b)) = mod-eq_of_lt (omega arith) in
      let g : m - suc (suc (m - suc a + (m - suc b)) % m) ≡ a + b - m = omega arith in
      once (a + b) m (omega arith) (omega arith) ∙ sym g

  product_law : (s t : Bool) → negative m a ≡ s → negative m b ≡ t → a * b % m ≡ wrapped m (elim s [ true ↦ negsuc (m - suc a) | false ↦ pos a ] *ℤ elim t [ true ↦ negsuc (m - suc b) | false ↦ pos b ])
  unfolding wrapped
  product_law false false p q = refl
  product_law false true p q = sym (opposite m (a * b) (a * suc (m - suc b)) any up)
    where
      c : b + suc (m - suc b) ≡ m
      c = omega arith

      up : (a * b + a * suc (m - suc b)) % m ≡ 0
      up = ap (λ n. n % m) (sym (mul-add a b (suc (m - suc b))) ∙ ap (λ n. a * n) c) ∙ mul-mod_left a m
  product_law true false p q = sym (opposite m (a * b) (suc (m - suc a) * b) any up)
    where
      c : a + suc (m - suc a) ≡ m
      c = omega arith

      up : (a * b + suc (m - suc a) * b) % m ≡ 0
      up = ap (λ n. n % m) (sym (add-mul a (suc (m - suc a)) b) ∙ ap (λ n. n * b) c ∙ mul_comm m b) ∙ mul-mod_left b m
  product_law true true p q = sym (opposite m (a * b) (a * k) any up) ∙ opposite m (j * k) (a * k) any over-up
    where
      j : ℕ
      j = suc (m - suc a)

      k : ℕ
      k = suc (m - suc b)

      c : b + k ≡ m
      c = omega arith

      d : j + a ≡ m
      d = omega arith

      up : (a * b + a * k) % m ≡ 0
      up = ap (λ n. n % m) (sym (mul-add a b k) ∙ ap (λ n. a * n) c) ∙ mul-mod_left a m

      over-up : (j * k + a * k) % m ≡ 0
      over-up = ap (λ n. n % m) (sym (add-mul j a k) ∙ ap (λ n. n * k) d ∙ mul_comm m k) ∙ mul-mod_left k m

  cb : suc (m - suc b) ≡ m - b
  cb = omega arith

  ca : suc (m - suc a) ≡ m - a
  ca = omega arith

  positive_less : (y : ℕ) → y < m → (a + (m - y)) % m ≡ wrapped m (pos a +ℤ neg_ℤ (pos y))
  unfolding wrapped
  positive_less zero h =
      let e : a + (m - 0) ≡ a + m = omega arith in
      let f : a + 0 ≡ a = omega arith in
      ap (λ n. n % m) e ∙ add-mod_right a m ∙ sym (ap (λ n. n % m) f)
  positive_less (suc y) h = ways (ltb a (suc y)) refl
    where
      ways : (u : Bool) → ltb a (suc y) ≡ u → (a + (m - suc y)) % m ≡ wrapped m (sub_ℕ a (suc y))
      ways true e =
          let l = ltb-true a (suc y) e in
          let f : m - (suc y - a) ≡ a + (m - suc y) = omega arith in
          mod-eq_of_lt {n = a + (m - suc y)} {m = m} (omega arith) ∙ sym (more a (suc y) l (omega arith) ∙ f)
      ways false e =
          let l = ltb-false a (suc y) e in
          let f : a - suc y ≡ a + (m - suc y) - m = omega arith in
          once (a + (m - suc y)) m (omega arith) (omega arith) ∙ sym (less a (suc y) A l ∙ f)

  negative-less : (y : ℕ) → m / 2 ≤ a → y < m / 2 → (a + (m - y)) % m ≡ wrapped m (negsuc (m - suc a) +ℤ neg_ℤ (pos y))
  unfolding wrapped
  negative-less zero h l =
      let e : a + (m - 0) ≡ a + m = omega arith in
      let f : m - (m - a - 0) ≡ a = omega arith in
      ap (λ n. n % m) e ∙ add-mod_right a m ∙ mod-eq_of_lt A ∙ sym (ap (λ k. wrapped m (sub_ℕ 0 k)) ca ∙ more 0 (m - a) (omega arith) (omega arith) ∙ f)
  negative-less (suc y) h l =
      let f : suc (m - suc a + y) % m ≡ suc (m - suc a + y) = mod-eq_of_lt (omega arith) in
      let g : m - suc (suc (m - suc a + y) % m) ≡ a + (m - suc y) - m = omega arith in
      once (a + (m - suc y)) m (omega arith) (omega arith) ∙ sym g

  difference_law : (s t : Bool) → negative m a ≡ s → negative m b ≡ t → (a + (m - b)) % m ≡ wrapped m (elim s [ true ↦ negsuc (m - suc a) | false ↦ pos a ] -ℤ elim t [ true ↦ negsuc (m - suc b) | false ↦ pos b ])
  unfolding negative wrapped
  difference_law false false p q = positive_less b B
  difference_law false true p q = ap (λ n. (a + n) % m) (sym cb)
  difference_law true false p q = negative-less b (leb-true (m / 2) a p) (leb-false (m / 2) b q)
  difference_law true true p q = ways (ltb (m - b) (m - a)) refl ∙ sym (ap (λ k. wrapped m (sub_ℕ k (suc (m - suc a)))) cb ∙ ap (λ k. wrapped m (sub_ℕ (m - b) k)) ca)
    where
      ways : (u : Bool) → ltb (m - b) (m - a) ≡ u → (a + (m - b)) % m ≡ wrapped m (sub_ℕ (m - b) (m - a))
      ways true e =
          let l = ltb-true (m - b) (m - a) e in
          let f : m - (m - a - (m - b)) ≡ a + (m - b) = omega arith in
          mod-eq_of_lt {n = a + (m - b)} {m = m} (omega arith) ∙ sym (more (m - b) (m - a) l (omega arith) ∙ f)
      ways false e =
          let l = ltb-false (m - b) (m - a) e in
          let y = leb-true (m / 2) b q in
          let f : m - b - (m - a) ≡ a + (m - b) - m = omega arith in
          once (a + (m - b)) m (omega arith) (omega arith) ∙ sym (less (m - b) (m - a) (omega arith) l ∙ f)

  -- a quotient of numbers below m is below m
  cut : (x y : ℕ) → x < m → x / y % m ≡ x / y
  cut x y h = mod-eq_of_lt (omega (arith, div-le_self x y))

  turned : (x y : ℕ) → x < m → (m - x / y) % m ≡ wrapped m (neg_ℤ (pos (x / y)))
  turned x y h = sym (wrapped-opposite m (x / y) any ∙ ap (λ k. (m - k) % m) (cut x y h))

  quotient-law :
      (s t : Bool) → negative m a ≡ s → negative m b ≡ t →
      cond (unlike s t) ((m - cond s (m - a) a / cond t (m - b) b) % m) (cond s (m - a) a / cond t (m - b) b)
      ≡ wrapped m (quot_z (elim s [ true ↦ negsuc (m - suc a) | false ↦ pos a ]) (elim t [ true ↦ negsuc (m - suc b) | false ↦ pos b ]))
  unfolding negative wrapped
  quotient-law false false p q = sym (cut a b A)
  quotient-law false true p q = turned a (m - b) A ∙ ap (λ k. wrapped m (neg_ℤ (pos (a / k)))) (sym cb)
  quotient-law true false p q = let x = leb-true (m / 2) a p in turned (m - a) b (omega arith) ∙ ap (λ k. wrapped m (neg_ℤ (pos (k / b)))) (sym ca)
  quotient-law true true p q =
      let x = leb-true (m / 2) a p in
      sym (cut (m - a) (m - b) (omega arith)) ∙ ap (λ k. k / (m - b) % m) (sym ca) ∙ ap (λ k. suc (m - suc a) / k % m) (sym cb)

  -- ---- the integer law

  integer-law : (s : Sign) → (s ≡ over → b ≡ 0 → ⊥) → integer m s a b ≡ good (wrapped m (exact s (number m a) (number m b)))
  unfolding integer exact number quotient magnitude negated
  integer-law plus d = ap good (sum-law (negative m a) (negative m b) refl refl)
  integer-law minus d = ap good (difference_law (negative m a) (negative m b) refl refl)
  integer-law times d = ap good (product_law (negative m a) (negative m b) refl refl)
  integer-law over d = ap (λ t. elim t [ true ↦ bad 23 | false ↦ good (quotient m a b) ]) (ne_eqb b 0 (d refl)) ∙ ap good (quotient-law (negative m a) (negative m b) refl refl)

pub wraps : Wraps
wraps m a b even A B s d = integer-law m a b even A B s d
