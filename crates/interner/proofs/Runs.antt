-- Runs of bytes: a hash and a comparison of them, from a place on. Assumes nothing.
use mathlib.Core.Bool.{Bool, true, false, ◌&&◌}
use mathlib.Core.List.{List, [], ◌∷◌}
use mathlib.Core.Path.{◌≡◌, refl, sym, ap, ◌∙◌}
use Prim.Native.Nat.{ℕ, zero, suc, ◌+◌, ◌*◌, ◌-◌, ◌≤◌, ◌<◌}
use native.Mathlib.Numerals.{add-one}
use native.Mathlib.Omega.{arith}
use lib.Dec.{eqb}
use lib.ListN.{length, take, drop, get_or, length-drop}
use lib.Seq.{drop-cons, length-take-le, take-length}
use Rattle.std.proofs.lemmas.List.{drop_all}
use Rattle.std.specs.Cmp.Lexicographic.{pointwise}
use borrow.Author.Tests.{eq-eqb, ne_eqb}
use Rattle.definition.specs.Basics.{same}
use Rattle.facts.proofs.Lists.{same_true}
use Rattle.job.specs.declared.Stretch.{Stretch}
use Rattle.job.specs.Stored.{Spans}
use Rattle.store.specs.Store.{IsWord}
use Rattle.writer.specs.Numbers.{number4}
use Rattle.store.specs.Chains.{mixed}
use Rattle.interner.specs.Nodes.{hash_rest, hash_bytes}

-- n bytes from a place on
abbrev pub run : List ℕ → ℕ → ℕ → List ℕ
run s at n = take n (drop at s)

pub run_length : (s : List ℕ) (at n : ℕ) → at + n ≤ length s → length (run s at n) ≡ n
run_length s at n h = length-take-le n (drop at s) (omega (arith, length-drop at s))

pub run-cons : (s : List ℕ) (at n : ℕ) → at + n ≤ length s → 0 < n → run s at n ≡ get_or s at 0 ∷ run s (at + 1) (n - 1)
run-cons s at zero h l = absurd (omega arith)
run-cons s at (suc n) h l =
    let q : at < length s = omega arith in
    let e : suc n - 1 ≡ n = omega arith in
    rw (e, add-one, drop-cons s at 0 q)

pub run-one :
    (s : List ℕ) (at n next less : ℕ) → next ≡ at + 1 → less ≡ n - 1 → at + n ≤ length s → 0 < n → run s at n ≡ get_or s at 0 ∷ run s next less
run-one s at n next less e f h l = rw (e, f) (run-cons s at n h l)

run-four :
    (s : List ℕ) (at n next less : ℕ) → next ≡ at + 4 → less ≡ n - 4 → at + n ≤ length s → 4 ≤ n →
    run s at n ≡ get_or s at 0 ∷ get_or s (at + 1) 0 ∷ get_or s (at + 2) 0 ∷ get_or s (at + 2 + 1) 0 ∷ run s next less
run-four s at n next less e f h l =
    rw (
      run-one s at n (at + 1) (n - 1) (omega arith) (omega arith) (omega arith) (omega arith),
      run-one s (at + 1) (n - 1) (at + 2) (n - 2) (omega arith) (omega arith) (omega arith) (omega arith),
      run-one s (at + 2) (n - 2) (at + 2 + 1) (n - 3) (omega arith) (omega arith) (omega arith) (omega arith),
      run-one s (at + 2 + 1) (n - 3) next less (omega arith) (omega arith) (omega arith) (omega arith),
    )

-- HASHES

rest_one : (hash a : ℕ) (l : List ℕ) → length l < 3 → hash_rest hash (a ∷ l) ≡ hash_rest (mixed hash a) l
unfolding hash_rest
rest_one hash a [] h = refl
rest_one hash a (b ∷ []) h = refl
rest_one hash a (b ∷ c ∷ []) h = refl
rest_one hash a (b ∷ c ∷ d ∷ l) h = absurd (omega arith)

rest_four : (hash a b c d : ℕ) (l : List ℕ) → hash_rest hash (a ∷ b ∷ c ∷ d ∷ l) ≡ hash_rest (mixed hash (65536 * (256 * a + b) + (256 * c + d))) l
unfolding hash_rest
rest_four hash a b c d l = refl

-- four bytes at once, and then those behind them
pub hash_four :
    (hash number : ℕ) (l : List ℕ) → 4 ≤ length l →
    number ≡ get_or l 0 0 * 16777216 + get_or l 1 0 * 65536 + get_or l 2 0 * 256 + get_or l 3 0 →
    hash_rest (mixed hash number) (take (length l - 4) (drop 4 l)) ≡ hash_rest hash l
unfolding hash_rest
hash_four hash number [] h e = absurd (omega arith)
hash_four hash number (a ∷ []) h e = absurd (omega arith)
hash_four hash number (a ∷ b ∷ []) h e = absurd (omega arith)
hash_four hash number (a ∷ b ∷ c ∷ []) h e = absurd (omega arith)
hash_four hash number (a ∷ b ∷ c ∷ d ∷ l) h e =
    let q : number ≡ 65536 * (256 * a + b) + (256 * c + d) = omega arith in
    let n : suc (suc (suc (suc (length l)))) - 4 ≡ length l = omega arith in
    rw (q, n, take-length l)

-- one of the last bytes
pub hash_one :
    (hash i : ℕ) (l : List ℕ) → length l < 4 → i < length l → hash_rest (mixed hash (get_or l i 0)) (drop (i + 1) l) ≡ hash_rest hash (drop i l)
hash_one hash i l few h =
    rw (add-one, drop-cons l i 0 h) (sym (rest_one hash (get_or l i 0) (drop (suc i) l) (omega (arith, length-drop (suc i) l))))

-- none is left
pub hash_end : (hash i : ℕ) (l : List ℕ) → length l ≤ i → hash_rest hash (drop i l) ≡ hash
unfolding hash_rest
hash_end hash i l h = rw (drop_all i l h)

-- of a run: the bytes that are left make the hash into that of all
pub record Hashing (s : List ℕ) (start n seed hash i : ℕ) : Type 0 where
  pub low : i ≤ n
  pub small : IsWord hash
  pub rest : hash_rest hash (run s (start + i) (n - i)) ≡ hash_bytes seed (run s start n)

module _ (s : List ℕ) (start n seed : ℕ) (fits : start + n ≤ length s) where
  pub hashing_begin : (hash : ℕ) → hash ≡ mixed seed n → IsWord hash → Hashing s start n seed hash 0
  unfolding hash_bytes
  hashing_begin hash e small =
      let a : start + 0 ≡ start = omega arith in
      let b : n - 0 ≡ n = omega arith in
      record { low = omega arith; small = small; rest = rw (a, b, e, run_length s start n fits) }

  pub hashing_one :
      (hash i : ℕ) → Hashing s start n seed hash i → i < n → n - i < 4 → (new : ℕ) → new ≡ mixed hash (get_or s (start + i) 0) → IsWord new →
      Hashing s start n seed new (i + 1)
  hashing_one hash i h l few new e small =
      record { low = omega arith; small = small; rest = rw (e, ← one) (sym (ap (hash_rest hash) cons) ∙ h.rest) }
    where
      cons : run s (start + i) (n - i) ≡ get_or s (start + i) 0 ∷ run s (start + (i + 1)) (n - (i + 1))
      cons = run-one s (start + i) (n - i) (start + (i + 1)) (n - (i + 1)) (omega arith) (omega arith) (omega arith) (omega arith)

      one : hash_rest hash (get_or s (start + i) 0 ∷ run s (start + (i + 1)) (n - (i + 1))) ≡ hash_rest (mixed hash (get_or s (start + i) 0)) (run s (start + (i + 1)) (n - (i + 1)))
      one = rest_one hash (get_or s (start + i) 0) (run s (start + (i + 1)) (n - (i + 1))) (omega (arith, run_length s (start + (i + 1)) (n - (i + 1)) (omega arith)))

  pub hashing_four :
      (hash i : ℕ) → Hashing s start n seed hash i → i < n → 4 ≤ n - i → (new : ℕ) → new ≡ mixed hash (number4 s (start + i)) → IsWord new →
      Hashing s start n seed new (i + 4)
  hashing_four hash i h l many new e small =
      let at = start + i in
      let rest = run s (start + (i + 4)) (n - (i + 4)) in
      let four : hash_rest hash (run s at (n - i)) ≡ hash_rest (mixed hash (number4 s at)) rest =
      ap (hash_rest hash) (run-four s at (n - i) (start + (i + 4)) (n - (i + 4)) (omega arith) (omega arith) (omega arith) (omega arith))
      ∙ rest_four hash (get_or s at 0) (get_or s (at + 1) 0) (get_or s (at + 2) 0) (get_or s (at + 2 + 1) 0) rest
      in
      record { low = omega arith; small = small; rest = rw e (sym four ∙ h.rest) }

  pub hashing_end : (hash i : ℕ) → Hashing s start n seed hash i → n ≤ i → (hash ≡ hash_bytes seed (run s start n)) × IsWord hash
  unfolding hash_rest
  hashing_end hash i h l = let e : n - i ≡ 0 = omega arith in (rw e at h.rest, h.small)

-- COMPARISONS

-- what `==` says of two slices
pub same_slices : (x y : List ℕ) → pointwise eqb x y ≡ same x y
unfolding same
same_slices [] [] = refl
same_slices [] (b ∷ y) = refl
same_slices (a ∷ x) [] = refl
same_slices (a ∷ x) (b ∷ y) = ap (λ (t : Bool). eqb a b && t) (same_slices x y)

-- of two runs: the bytes that are left are the same just where all are
pub record Comparing (s t : List ℕ) (a b n i : ℕ) : Type 0 where
  pub low : i ≤ n
  pub rest : same (run s (a + i) (n - i)) (run t (b + i) (n - i)) ≡ same (run s a n) (run t b n)

module _ (s t : List ℕ) (a b n : ℕ) where
  pub comparing_begin : Comparing s t a b n 0
  comparing_begin =
      let e : a + 0 ≡ a = omega arith in
      let f : b + 0 ≡ b = omega arith in
      let g : n - 0 ≡ n = omega arith in
      record { low = omega arith; rest = rw (e, f, g) }

  module _ (fits : a + n ≤ length s) (fit : b + n ≤ length t) (i : ℕ) (l : i < n) where
    one : same (run s (a + i) (n - i)) (run t (b + i) (n - i)) ≡ (eqb (get_or s (a + i) 0) (get_or t (b + i) 0) && same (run s (a + (i + 1)) (n - (i + 1))) (run t (b + (i + 1)) (n - (i + 1))))
    unfolding same
    one =
        rw (
          run-one s (a + i) (n - i) (a + (i + 1)) (n - (i + 1)) (omega arith) (omega arith) (omega arith) (omega arith),
          run-one t (b + i) (n - i) (b + (i + 1)) (n - (i + 1)) (omega arith) (omega arith) (omega arith) (omega arith),
        )

    pub comparing_next : Comparing s t a b n i → get_or s (a + i) 0 ≡ get_or t (b + i) 0 → Comparing s t a b n (i + 1)
    comparing_next h e = record { low = omega arith; rest = sym (rw (eq-eqb (get_or s (a + i) 0) (get_or t (b + i) 0) e) at one) ∙ h.rest }

    pub comparing_not : Comparing s t a b n i → (get_or s (a + i) 0 ≡ get_or t (b + i) 0 → ⊥) → false ≡ same (run s a n) (run t b n)
    comparing_not h e = sym (rw (ne_eqb (get_or s (a + i) 0) (get_or t (b + i) 0) e) at one) ∙ h.rest

  pub comparing_end : (i : ℕ) → Comparing s t a b n i → n ≤ i → true ≡ same (run s a n) (run t b n)
  unfolding same
  comparing_end i h l = let e : n - i ≡ 0 = omega arith in rw e at h.rest

-- LITERALS at stretches of the job

pub spans_long : (s : List ℕ) (t : Stretch) (l : List ℕ) → Spans s t l → length l ≡ t.end - t.start
spans_long s t l h = sym (ap length h.are) ∙ run_length s t.start (t.end - t.start) (omega (arith, h.rising, h.within))

module _ (s : List ℕ) (a b : Stretch) (x y : List ℕ) (there : Spans s a x) (other : Spans s b y) where
  pub spans_fit : (b.end - b.start ≡ a.end - a.start) → (a.start + (a.end - a.start) ≤ length s) × (b.start + (a.end - a.start) ≤ length s)
  spans_fit e = (omega (arith, there.rising, there.within), omega (arith, other.rising, other.within))

  pub spans_differ : (b.end - b.start ≡ a.end - a.start → ⊥) → false ≡ same x y
  spans_differ e = ways (same x y) refl
    where
      ways : (t : Bool) → same x y ≡ t → false ≡ t
      ways true h = absurd (e (sym (spans_long s b y other) ∙ sym (ap length (same_true x y h)) ∙ spans_long s a x there))
      ways false h = refl

  pub spans_same :
      (b.end - b.start ≡ a.end - a.start) →
      same (run s a.start (a.end - a.start)) (run s b.start (a.end - a.start)) ≡ same x y
  spans_same e = rw (there.are, ← e, other.are)
