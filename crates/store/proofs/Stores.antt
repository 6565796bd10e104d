-- Laws of the store: two regions have no word in common. Assumes nothing.
use mathlib.Core.Bool.{Bool, true, false}
use mathlib.Core.List.{List, [], ◌∷◌}
use mathlib.Core.Logic.{⊎_elim}
use mathlib.Core.Path.{◌≡◌, refl, sym, subst, ◌∙◌}
use Prim.Native.Nat.{ℕ, zero, suc, ◌+◌, ◌-◌, ◌≤◌, ◌<◌}
use native.Mathlib.Numerals.{add-one}
use native.Mathlib.Omega.{arith}
use lib.Dec.{eqb}
use lib.ListN.{length, get_or, set, length-set}
use lib.Seq.{get_or-set_same, get_or-set_other, ext_get_or}
use borrow.Author.Tests.{eqb-true, eqb-false}
use Rattle.facts.proofs.Lists.{order, equal}
use Rattle.facts.proofs.Chunks.{length_from, from-same, from-get}
use Rattle.store.specs.Store.{size, store, put, Laid, On}

laid_long : (p : List ℕ) → Laid p → length p ≡ 33
unfolding Laid
laid_long p laid = laid.0

laid_rises : (p : List ℕ) → Laid p → (k : ℕ) → k < 32 → get_or p k 0 ≤ get_or p (suc k) 0
unfolding Laid
laid_rises p laid = laid.1

module _ (p : List ℕ) (laid : Laid p) where
  -- the end of a region is at or before the start of a later one
  before : (j d : ℕ) → j + d < 33 → get_or p j 0 ≤ get_or p (j + d) 0
  before j zero h = let e : j + 0 ≡ j = omega arith in rw e (omega arith)
  before j (suc d) h =
      let e : j + suc d ≡ suc (j + d) = omega arith in
      rw e (omega (arith, before j d (omega arith), laid_rises p laid (j + d) (omega arith)))

  pub rising : (j k : ℕ) → j ≤ k → k < 33 → get_or p j 0 ≤ get_or p k 0
  rising j k h l = let e : j + (k - j) ≡ k = omega arith in subst (λ (x : ℕ). get_or p j 0 ≤ get_or p x 0) e (before j (k - j) (omega arith))

  -- places past the last are 0
  past : (l : List ℕ) (k : ℕ) → length l ≤ k → get_or l k 0 ≡ 0
  past [] k h = refl
  past (x ∷ l) zero h = absurd (omega arith)
  past (x ∷ l) (suc k) h = past l k (omega arith)

  -- a region with a word is one of the first 32
  pub real : (k i : ℕ) → i < size p k → k < 32
  unfolding size
  real k i h = ⊎_elim (λ (l : k < 32). l) (λ (l : 32 ≤ k). absurd (omega (arith, past p (suc k) (omega (arith, laid_long p laid))))) (order k 32)

  -- two regions have no word in common
  pub apart : (j k i a : ℕ) → (j ≡ k → ⊥) → i < size p j → a < size p k → get_or p j 0 + i ≡ get_or p k 0 + a → ⊥
  unfolding size
  apart j k i a n h l e =
      ⊎_elim
      (λ (q : j < k). omega (arith, rising (suc j) k (omega arith) (omega (arith, real k a l))))
      (λ (q : k ≤ j). omega (arith, rising (suc k) j (omega arith) (omega (arith, real j i h))))
      (order j k)

  -- a region's words lie before the end
  pub inside : (k i : ℕ) → i < size p k → get_or p k 0 + i < get_or p 32 0
  unfolding size
  inside k i h = omega (arith, rising (suc k) 32 (omega (arith, real k i h)) (omega arith))

-- THE LAWS

pub length-store : (p w : List ℕ) (k : ℕ) → length (store p w k) ≡ size p k
unfolding store
length-store p w k = length_from _ 0 (size p k)

pub at_store : (p w : List ℕ) (k i : ℕ) → i < size p k → get_or (store p w k) i 0 ≡ get_or w (get_or p k 0 + i) 0
unfolding store
at_store p w k i h = from-get (λ j. get_or w (get_or p k 0 + j) 0) 0 (size p k) i 0 h ∙ (let e : 0 + i ≡ i = omega arith in rw e)

-- a word stored at place i of region k
module _ (p w : List ℕ) (k i x : ℕ) (on : On p (length w)) (h : i < size p k) where
  here : (j : ℕ) → j ≡ k → store p (set w (get_or p k 0 + i) x) j ≡ set (store p w k) i x
  here j e =
      rw e
      (ext_get_or
      0
      (store p (set w (get_or p k 0 + i) x) k)
      (set (store p w k) i x)
      (length-store p (set w (get_or p k 0 + i) x) k ∙ sym (length-set (store p w k) i x ∙ length-store p w k))
      (λ a l. word a (subst (λ (n : ℕ). a < n) (length-store p (set w (get_or p k 0 + i) x) k) l)))
    where
      word : (a : ℕ) → a < size p k → get_or (store p (set w (get_or p k 0 + i) x) k) a 0 ≡ get_or (set (store p w k) i x) a 0
      word a l =
          at_store p (set w (get_or p k 0 + i) x) k a l
          ∙ ⊎_elim
          (λ (e : a ≡ i).
          rw e
          (get_or-set_same w (get_or p k 0 + i) x 0 (omega (arith, inside p on.0 k i h))
          ∙ sym (get_or-set_same (store p w k) i x 0 (omega (arith, length-store p w k)))))
          (λ (e : a ≡ i → ⊥).
          get_or-set_other w (get_or p k 0 + i) (get_or p k 0 + a) x 0 (λ q. e (omega arith))
          ∙ sym (at_store p w k a l)
          ∙ sym (get_or-set_other (store p w k) i a x 0 e))
          (equal a i)

  there : (j : ℕ) → (j ≡ k → ⊥) → store p (set w (get_or p k 0 + i) x) j ≡ store p w j
  unfolding store
  there j e =
      from-same
      _
      _
      0
      (size p j)
      (λ a low high. get_or-set_other w (get_or p k 0 + i) (get_or p j 0 + a) x 0 (λ q. apart p on.0 j k a i e (omega arith) h q))

  each : (j : ℕ) → store p (set w (get_or p k 0 + i) x) j ≡ put (store p w) k i x j
  each j = ways (eqb j k) refl
    where
      ways : (b : Bool) → eqb j k ≡ b → store p (set w (get_or p k 0 + i) x) j ≡ elim b [ true ↦ set (store p w k) i x | false ↦ store p w j ]
      ways true e = here j (eqb-true j k e)
      ways false e = there j (eqb-false j k e)

  pub put-store : store p (set w (get_or p k 0 + i) x) ≡ put (store p w) k i x
  put-store = λ t j. each j t

-- what the code's indexes need
pub in_words : (p : List ℕ) (words k i : ℕ) → On p words → i < size p k → (k < length p) × (get_or p k 0 + i < words)
in_words p words k i on h = (omega (arith, real p on.0 k i h, laid_long p on.0), omega (arith, inside p on.0 k i h, on.1))

pub in_places : (p : List ℕ) (k : ℕ) → Laid p → k < 32 → (k + 1 < length p) × (get_or p k 0 ≤ get_or p (k + 1) 0)
in_places p k laid h = (omega (arith, laid_long p laid), rw add-one (laid_rises p laid k h))

pub size_is : (p : List ℕ) (k : ℕ) → size p k ≡ get_or p (k + 1) 0 - get_or p k 0
unfolding size
size_is p k = rw add-one
