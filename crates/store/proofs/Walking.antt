-- Hash chains over any hash: what a walk keeps, and one item more. Nothing here knows which regions hold them. Assumes nothing.
use mathlib.Core.Bool.{Bool, true, false, cond}
use mathlib.Core.List.{List}
use mathlib.Core.Logic.{⊎_elim}
use mathlib.Core.Path.{◌≡◌, refl, sym, ap, subst, ◌∙◌}
use Prim.Native.Nat.{ℕ, zero, suc, ◌+◌, ◌-◌, ◌≤◌, ◌<◌}
use native.Mathlib.Numerals.{add-one}
use native.Mathlib.Omega.{arith}
use lib.Dec.{eqb}
use lib.ListN.{length, get_or, set, length-set}
use lib.Seq.{get_or-set_same, get_or-set_other}
use borrow.Author.Tests.{eqb-true, eq-eqb, ne_eqb}
use Rattle.store.specs.Chains.{last, Chains}
use Rattle.facts.proofs.Lists.{equal, order}

pub both : {b : Bool} → b ≡ true → b ≡ false → ⊥
both e f = let z : ◌≡◌ {A = ℕ} 0 1 = cc in omega arith

module _ (q : ℕ → Bool) where
  pub last-le : (m : ℕ) → last q m ≤ m
  last-le zero = omega arith
  last-le (suc i) = ways (q i) (last-le i)
    where
      ways : (b : Bool) → last q i ≤ i → cond b (suc i) (last q i) ≤ suc i
      ways true h = omega arith
      ways false h = omega arith

  pub last-skip : (m j : ℕ) → last q m ≤ j → j < m → q j ≡ true → ⊥
  last-skip zero j a b t = omega arith
  last-skip (suc i) j a b t = ways (q i) refl a (λ h l. last-skip i j h l t)
    where
      ways : (x : Bool) → q i ≡ x → cond x (suc i) (last q i) ≤ j → (last q i ≤ j → j < i → ⊥) → ⊥
      ways true e h f = omega arith
      ways false e h f = ⊎_elim (λ k. both t (ap q k ∙ e)) (λ k. f h (omega arith)) (equal j i)

  pub last-again : (m : ℕ) → last q (last q m) ≡ last q m
  last-again zero = refl
  last-again (suc i) = ways (q i) refl (last-again i)
    where
      ways : (x : Bool) → q i ≡ x → last q (last q i) ≡ last q i → last q (cond x (suc i) (last q i)) ≡ cond x (suc i) (last q i)
      ways true e f = rw e
      ways false e f = f

  pub last-hit : (i : ℕ) → last q (suc i) ≡ suc i → q i ≡ true
  last-hit i = ways (q i)
    where
      ways : (x : Bool) → cond x (suc i) (last q i) ≡ suc i → x ≡ true
      ways true e = refl
      ways false e = absurd (omega (arith, last-le i))

pub last-ext : (q r : ℕ → Bool) (m : ℕ) → ((j : ℕ) → j < m → q j ≡ r j) → last q m ≡ last r m
last-ext q r zero f = refl
last-ext q r (suc i) f = rw (f i (omega arith), last-ext q r i (λ j l. f j (omega arith)))

pub last-yes : (q : ℕ → Bool) (i : ℕ) → q i ≡ true → last q (suc i) ≡ suc i
last-yes q i e = rw e

pub last-no : (q : ℕ → Bool) (i : ℕ) → q i ≡ false → last q (suc i) ≡ last q i
last-no q i e = rw e

-- THE WALK for items of hash k that pass `is`: e is one more than the item to look at, and none from e on passes
pub record Down (hash : ℕ → ℕ) (is : ℕ → Type 0) (k n e : ℕ) : Type 0 where
  pub below : e ≤ n
  pub here : last (λ i. eqb (hash i) k) e ≡ e
  pub past : (j : ℕ) → e ≤ j → j < n → is j → ⊥

module _ (hash : ℕ → ℕ) (hs xs : List ℕ) (n k : ℕ) (is : ℕ → Type 0) (c : Chains hash hs xs n) (keyed : (i : ℕ) → is i → hash i ≡ k) where
  down : (m e : ℕ) → m ≤ n → ((j : ℕ) → m ≤ j → j < n → is j → ⊥) → e ≡ last (λ i. eqb (hash i) k) m → Down hash is k n e
  down m e h f q =
      record {
        below = omega (arith, last-le (λ i. eqb (hash i) k) m);
        here = rw q (last-again (λ i. eqb (hash i) k) m);
        past =
            λ j a b t.
            ⊎_elim
            (λ (l : j < m). last-skip (λ i. eqb (hash i) k) m j (omega arith) l (eq-eqb (hash j) k (keyed j t)))
            (λ (l : m ≤ j). f j l b t)
            (order j m);
      }

  pub walk_start : k < length hs → Down hash is k n (get_or hs k 0)
  walk_start h = down n (get_or hs k 0) (omega arith) (λ j a b t. omega arith) (c.first k h)

  pub walk_on : (e : ℕ) → 0 < e → Down hash is k n e → (is (e - 1) → ⊥) → Down hash is k n (get_or xs (e - 1) 0) × (get_or xs (e - 1) 0 < e)
  walk_on e h d t = (down (e - 1) (get_or xs (e - 1) 0) (omega (arith, d.below)) past q, omega (arith, q, last-le (λ i. eqb (hash i) k) (e - 1)))
    where
      s : suc (e - 1) ≡ e
      s = omega arith

      g : hash (e - 1) ≡ k
      g = eqb-true (hash (e - 1)) k (last-hit (λ i. eqb (hash i) k) (e - 1) (subst (λ (x : ℕ). last (λ i. eqb (hash i) k) x ≡ x) (sym s) d.here))

      q : get_or xs (e - 1) 0 ≡ last (λ i. eqb (hash i) k) (e - 1)
      q = subst (λ (x : ℕ). get_or xs (e - 1) 0 ≡ last (λ i. eqb (hash i) x) (e - 1)) g (c.next (e - 1) (omega (arith, d.below)))

      past : (j : ℕ) → e - 1 ≤ j → j < n → is j → ⊥
      past j a b u = ⊎_elim (λ (z : j ≡ e - 1). t (subst is z u)) (λ (z : j ≡ e - 1 → ⊥). d.past j (omega arith) b u) (equal j (e - 1))

-- ONE ITEM MORE, of hash k, at place n: hash' is the hash with it
module _ (hash hash' : ℕ → ℕ) (hs xs : List ℕ) (n k : ℕ) (c : Chains hash hs xs n) (new : hash' n ≡ k) (old : (i : ℕ) → i < n → hash' i ≡ hash i) (inside : k < length hs) (room : n < length xs) where
  same : (x m : ℕ) → m ≤ n → last (λ i. eqb (hash' i) x) m ≡ last (λ i. eqb (hash i) x) m
  same x m h = last-ext _ _ m (λ j l. ap (λ (y : ℕ). eqb y x) (old j (omega arith)))

  pub chains_more : Chains hash' (set hs k (n + 1)) (set xs n (get_or hs k 0)) (n + 1)
  chains_more =
      record {
        first =
            λ x h.
            rw add-one
            (⊎_elim
            (λ (e : x ≡ k).
            subst
            (λ (y : ℕ). get_or (set hs k (suc n)) y 0 ≡ last (λ i. eqb (hash' i) y) (suc n))
            (sym e)
            (get_or-set_same hs k (suc n) 0 inside ∙ sym (last-yes (λ i. eqb (hash' i) k) n (eq-eqb (hash' n) k new))))
            (λ (e : x ≡ k → ⊥).
            get_or-set_other hs k x (suc n) 0 e
            ∙ c.first x (subst (λ (y : ℕ). x < y) (length-set hs k (n + 1)) h)
            ∙ sym (same x n (omega arith))
            ∙ sym (last-no (λ i. eqb (hash' i) x) n (ne_eqb (hash' n) x (λ z. e (sym z ∙ new)))))
            (equal x k));
        next =
            λ i h.
            ⊎_elim
            (λ (e : i ≡ n).
            rw (e, new)
            (get_or-set_same xs n (get_or hs k 0) 0 room ∙ c.first k inside ∙ sym (same k n (omega arith))))
            (λ (e : i ≡ n → ⊥).
            rw (old i (omega arith))
            (get_or-set_other xs n i (get_or hs k 0) 0 e ∙ c.next i (omega arith) ∙ sym (same (hash i) i (omega arith))))
            (equal i n);
      }
