-- Runs of children: a hash and a comparison of them, from a place on. Assumes nothing.
use mathlib.Core.Bool.{Bool, true, false}
use mathlib.Core.List.{List, [], ◌∷◌, ◌++◌}
use mathlib.Core.Path.{◌≡◌, refl, sym, ap, ◌∙◌}
use Prim.Native.Nat.{ℕ, ◌+◌, ◌≤◌, ◌<◌}
use native.Mathlib.Omega.{arith}
use lib.ListN.{length, get_or}
use borrow.Author.Count.{below_more}
use Rattle.definition.specs.Basics.{same, from}
use Rattle.facts.proofs.Chunks.{length_from, from-same, from-get, from-snoc}
use Rattle.facts.proofs.Lists.{same_true, same_refl}
use Rattle.store.specs.Store.{IsWord}
use Rattle.store.specs.Chains.{mixed}
use Rattle.store.specs.Words.{cut}
use Rattle.interner.specs.Nodes.{hash_words}

pub cut-length : (l : List ℕ) (at n : ℕ) → length (cut l at n) ≡ n
cut-length l at n = length_from (λ i. get_or l (at + i) 0) 0 n

cut-get : (l : List ℕ) (at n i : ℕ) → i < n → get_or (cut l at n) i 0 ≡ get_or l (at + i) 0
cut-get l at n i h = let e : 0 + i ≡ i = omega arith in rw e at (from-get (λ i. get_or l (at + i) 0) 0 n i 0 h)

-- HASHES

words_more : (hash : ℕ) (l : List ℕ) (x : ℕ) → hash_words hash (l ++ x ∷ []) ≡ mixed (hash_words hash l) x
unfolding hash_words
words_more hash [] x = refl
words_more hash (y ∷ l) x = words_more (mixed hash y) l x

-- what the loop keeps: the hash of those behind
pub record Folding (l : List ℕ) (first n seed hash i : ℕ) : Type 0 where
  pub low : i ≤ n
  pub small : IsWord hash
  pub is : hash ≡ hash_words seed (cut l first i)

module _ (l : List ℕ) (first n seed : ℕ) where
  pub folding_begin : IsWord seed → Folding l first n seed seed 0
  unfolding hash_words from
  folding_begin small = record { low = omega arith; small = small; is = refl }

  pub folding_next :
      (hash i : ℕ) → Folding l first n seed hash i → i < n → (new x : ℕ) → x ≡ get_or l (first + i) 0 → new ≡ mixed hash x → IsWord new →
      Folding l first n seed new (i + 1)
  folding_next hash i h less new x e f small =
      record { low = omega arith; small = small; is = rw (f, e, h.is) (sym (ap (hash_words seed) more ∙ words_more seed (cut l first i) (get_or l (first + i) 0))) }
    where
      more : cut l first (i + 1) ≡ cut l first i ++ get_or l (first + i) 0 ∷ []
      more = let e : 0 + i ≡ i = omega arith in rw e at (from-snoc (λ i. get_or l (first + i) 0) 0 i)

  pub folding_end : (hash i : ℕ) → Folding l first n seed hash i → n ≤ i → (hash ≡ hash_words seed (cut l first n)) × IsWord hash
  folding_end hash i h less = let e : i ≡ n = omega (arith, h.low) in (rw e at h.is, h.small)

-- COMPARISONS

-- what the loop keeps: those behind are the same
pub record Matching (l : List ℕ) (a b n i : ℕ) : Type 0 where
  pub low : i ≤ n
  pub each : (k : ℕ) → k < i → get_or l (a + k) 0 ≡ get_or l (b + k) 0

module _ (l : List ℕ) (a b n : ℕ) where
  pub matching_begin : Matching l a b n 0
  matching_begin = record { low = omega arith; each = λ k h. absurd (omega arith) }

  -- x and y are what the loop reads
  pub matching_next : (i : ℕ) → Matching l a b n i → i < n → (x y : ℕ) → x ≡ get_or l (a + i) 0 → y ≡ get_or l (b + i) 0 → x ≡ y → Matching l a b n (i + 1)
  matching_next i h less x y is other e = record { low = omega arith; each = below_more _ _ h.each (sym is ∙ e ∙ other) }

  pub matching_not : (i : ℕ) → i < n → (x y : ℕ) → x ≡ get_or l (a + i) 0 → y ≡ get_or l (b + i) 0 → (x ≡ y → ⊥) → false ≡ same (cut l a n) (cut l b n)
  matching_not i less x y is other e = ways (same (cut l a n) (cut l b n)) refl
    where
      ways : (t : Bool) → same (cut l a n) (cut l b n) ≡ t → false ≡ t
      ways true h =
          absurd (e (is ∙ sym (cut-get l a n i less) ∙ ap (λ (m : List ℕ). get_or m i 0) (same_true (cut l a n) (cut l b n) h) ∙ cut-get l b n i less ∙ sym other))
      ways false h = refl

  pub matching_end : (i : ℕ) → Matching l a b n i → n ≤ i → true ≡ same (cut l a n) (cut l b n)
  matching_end i h less =
      let e : cut l a n ≡ cut l b n = from-same (λ i. get_or l (a + i) 0) (λ i. get_or l (b + i) 0) 0 n (λ k low high. h.each k (omega (arith, h.low))) in
      rw e (sym (same_refl (cut l b n)))
