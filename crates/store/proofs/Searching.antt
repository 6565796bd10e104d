-- A walk along a chain finds what is sought: the end of any walk, and the walk for a number. Assumes nothing.
use mathlib.Core.List.{List}
use mathlib.Core.Path.{◌≡◌, refl, ap, subst}
use Prim.Native.Nat.{ℕ, ◌+◌, ◌-◌, ◌≤◌, ◌<◌}
use native.Mathlib.Omega.{arith}
use lib.ListN.{length, get_or}
use Rattle.store.specs.Store.{Store, size}
use Rattle.std.specs.Prelude.{Some, None}
use Rattle.store.specs.Chains.{head_of, link_of, Sought, NumbersIn}
use Rattle.store.proofs.Hashing.{head_lt}
use Rattle.store.proofs.Walking.{Down, walk_start, walk_on}

pub sought_hit : (is : ℕ → Type 0) (n e : ℕ) → e ≤ n → 0 < e → is (e - 1) → Sought is n e
sought_hit is n e l h t = record { low = l; hit = λ _. t; miss = λ z. absurd (omega arith) }

pub sought_miss : (hash : ℕ → ℕ) (is : ℕ → Type 0) (k n e : ℕ) → e ≤ 0 → Down hash is k n e → Sought is n 0
sought_miss hash is k n e z d =
    record { low = omega arith; hit = λ l. absurd (omega arith); miss = λ _ i l. d.past i (omega arith) l }

-- what a search that found an item, or none, tells
pub sought_item : (is : ℕ → Type 0) (n i : ℕ) → Sought is n (link_of (Some i)) → is i × (i < n)
sought_item is n i s = let e : i + 1 - 1 ≡ i = omega arith in (subst is e (s.hit (omega arith)), omega (arith, s.low))

pub sought_none : (is : ℕ → Type 0) (n : ℕ) → Sought is n (link_of None) → (i : ℕ) → i < n → is i → ⊥
sought_none is n s = s.miss refl

-- the walk for item numbers n, at e
abbrev pub ForNumber : List ℕ → Store → ℕ → ℕ → ℕ → ℕ → Type 0
ForNumber p s heads keys n e =
    (count : ℕ) → NumbersIn p s heads keys count →
    Down (λ i. head_of (size p heads) (get_or (s keys) i 0)) (λ i. get_or (s keys) i 0 ≡ n) (head_of (size p heads) n) count e

module _ (p : List ℕ) (s : Store) (heads keys n : ℕ) where
  keyed : (i : ℕ) → get_or (s keys) i 0 ≡ n → head_of (size p heads) (get_or (s keys) i 0) ≡ head_of (size p heads) n
  keyed i e = ap (head_of (size p heads)) e

  pub number-start : length (s heads) ≡ size p heads → 1 < size p heads → ForNumber p s heads keys n (get_or (s heads) (head_of (size p heads) n) 0)
  number-start long two count g =
      walk_start
      (λ i. head_of (size p heads) (get_or (s keys) i 0))
      (s heads)
      (s (heads + 5))
      count
      (head_of (size p heads) n)
      (λ i. get_or (s keys) i 0 ≡ n)
      g.0
      keyed
      (omega (arith, head_lt (size p heads) n two))

  module _ (e : ℕ) (h : 0 < e) (d : ForNumber p s heads keys n e) (t : get_or (s keys) (e - 1) 0 ≡ n → ⊥) (count : ℕ) (g : NumbersIn p s heads keys count) where
    next : Down (λ i. head_of (size p heads) (get_or (s keys) i 0)) (λ i. get_or (s keys) i 0 ≡ n) (head_of (size p heads) n) count (get_or (s (heads + 5)) (e - 1) 0) × (get_or (s (heads + 5)) (e - 1) 0 < e)
    next =
        walk_on
        (λ i. head_of (size p heads) (get_or (s keys) i 0))
        (s heads)
        (s (heads + 5))
        count
        (head_of (size p heads) n)
        (λ i. get_or (s keys) i 0 ≡ n)
        g.0
        keyed
        e
        h
        (d count g)
        t

    pub number-on : Down (λ i. head_of (size p heads) (get_or (s keys) i 0)) (λ i. get_or (s keys) i 0 ≡ n) (head_of (size p heads) n) count (get_or (s (heads + 5)) (e - 1) 0)
    number-on = next.0

    pub number-falls : get_or (s (heads + 5)) (e - 1) 0 < e
    number-falls = next.1
