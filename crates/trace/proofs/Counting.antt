-- Numbers that pass a test: whether there are any, which is the last, and how many. Assumes nothing.
use mathlib.Core.Bool.{Bool, true, false, ◌||◌, or-true}
use mathlib.Core.Logic.{◌⊎◌, inl, inr}
use mathlib.Core.Path.{◌≡◌, refl, sym, ◌∙◌}
use Prim.Native.Nat.{ℕ, zero, suc, ◌+◌, ◌≤◌, ◌<◌}
use native.Mathlib.Omega.{arith}
use lib.Dec.{leb}
use borrow.Author.Tests.{le-leb, lt-leb}
use Rattle.facts.proofs.Lists.{true≢false, order}
use Rattle.trace.specs.Trace.{some-from, behind-last, how_many}
use Rattle.trace.specs.Step.{one}

module _ (p : ℕ → Bool) where
  none_from : (m n : ℕ) → n ≤ m → some-from p m n ≡ false
  unfolding some-from
  none_from m zero h = refl
  none_from m (suc n) h = let out : leb m n ≡ false = lt-leb m n (omega arith) in rw (some-from, out) (none_from m n (omega arith))

  pub from_more : (m n : ℕ) → m ≤ n → some-from p m (suc n) ≡ p n || some-from p m n
  unfolding some-from
  from_more m n h = rw (some-from, le-leb m n h)

  pub none-behind : (n : ℕ) → some-from p n n ≡ false
  none-behind n = none_from n n (omega arith)

  pub from_found : (m i n : ℕ) → m ≤ i → i < n → p i ≡ true → some-from p m n ≡ true
  unfolding some-from
  from_found m i zero h l e = absurd (omega arith)
  from_found m i (suc n) h l e = from_more m n (omega arith) ∙ ways (order i n) (λ k. from_found m i n h k e)
    where
      ways : (i < n) ⊎ (n ≤ i) → (i < n → some-from p m n ≡ true) → (p n || some-from p m n) ≡ true
      ways (inl k) again = rw (again k) (or-true (p n))
      ways (inr k) again = let f : n ≡ i = omega arith in rw (f, e)

  pub behind-le : (n : ℕ) → behind-last p n ≤ n
  unfolding behind-last
  behind-le zero = omega arith
  behind-le (suc n) = ways (p n) (behind-le n)
    where
      ways : (b : Bool) → behind-last p n ≤ n → elim b [ true ↦ suc n | false ↦ behind-last p n ] ≤ suc n
      ways true h = omega arith
      ways false h = omega arith

  pub behind-here : (n : ℕ) → p n ≡ true → behind-last p (suc n) ≡ suc n
  unfolding behind-last
  behind-here n e = rw (behind-last, e)

  pub behind-before : (n : ℕ) → p n ≡ false → behind-last p (suc n) ≡ behind-last p n
  unfolding behind-last
  behind-before n e = rw (behind-last, e)

  pub many_more : (n : ℕ) → how_many p (suc n) ≡ how_many p n + one (p n)
  unfolding how_many one
  many_more n = ways (p n)
    where
      ways : (b : Bool) → elim b [ true ↦ suc (how_many p n) | false ↦ how_many p n ] ≡ how_many p n + one b
      ways true = omega arith
      ways false = omega arith

pub one-le : (b : Bool) → one b ≤ 1
unfolding one
one-le true = omega arith
one-le false = omega arith

pub many-le : (p : ℕ → Bool) (n : ℕ) → how_many p n ≤ n
unfolding how_many
many-le p zero = omega arith
many-le p (suc n) = let h = many-le p n in omega (arith, many_more p n, one-le (p n))

pub many-none : (p : ℕ → Bool) → ((i : ℕ) → p i ≡ false) → (n : ℕ) → how_many p n ≡ 0
unfolding how_many one
many-none p h zero = refl
many-none p h (suc n) = many_more p n ∙ rw (h n, many-none p h n)

module _ (p q : ℕ → Bool) where
  pub many-mono : ((i : ℕ) → one (p i) ≤ one (q i)) → (n : ℕ) → how_many p n ≤ how_many q n
  unfolding how_many
  many-mono h zero = omega arith
  many-mono h (suc n) = omega (arith, many_more p n, many_more q n, h n, many-mono h n)

  pub many-both : (r : ℕ → Bool) → ((i : ℕ) → one (p i) + one (q i) ≡ one (r i)) → (n : ℕ) → how_many p n + how_many q n ≡ how_many r n
  unfolding how_many
  many-both r h zero = refl
  many-both r h (suc n) = omega (arith, many_more p n, many_more q n, many_more r n, h n, many-both r h n)

pub none_then : (p : ℕ → Bool) (n : ℕ) → some-from p 0 n ≡ false → behind-last p n ≡ 0
unfolding some-from behind-last
none_then p zero h = refl
none_then p (suc n) h = ways (p n) refl (sym (from_more p 0 n (omega arith)) ∙ h) (none_then p n)
  where
    ways : (b : Bool) → p n ≡ b → (p n || some-from p 0 n) ≡ false → (some-from p 0 n ≡ false → behind-last p n ≡ 0) → behind-last p (suc n) ≡ 0
    ways true e h' again = true≢false (rw e at h')
    ways false e h' again = behind-before p n e ∙ again (rw e at h')
