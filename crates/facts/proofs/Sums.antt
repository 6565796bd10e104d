-- Sums over a list, runs of numbers, and how often a number stands in a list. Assumes nothing.
use mathlib.Core.Bool.{Bool, true, false}
use mathlib.Core.List.{List, [], ◌∷◌, ◌++◌, map, reverse_aux}
use mathlib.Core.Logic.{◌⊎◌, inl, inr}
use mathlib.Core.Option.{Option, some}
use mathlib.Core.Path.{◌≡◌, refl, sym, ap, ◌∙◌}
use Prim.Native.Nat.{ℕ, zero, suc, ◌+◌, ◌-◌, ◌≤◌, ◌<◌}
use native.Mathlib.Nat.{zero-add, add-zero, add-suc, suc-add}
use native.Mathlib.Omega.{arith}
use lib.Dec.{eqb}
use lib.ListN.{length}
use borrow.Author.Tests.{eq-eqb, ne_eqb}
use Rattle.definition.specs.Basics.{only, from}
use Rattle.facts.specs.Lists.{Among}
use Rattle.facts.proofs.Lists.{clash, equal, map_at}
use Rattle.facts.proofs.Tables.{some_key, some-row}
use Rattle.facts.proofs.Chunks.{from_at, from_place}

-- a weight's sum
unfoldable pub total : (ℕ → ℕ) → List ℕ → ℕ
total f [] = 0
total f (x ∷ xs) = f x + total f xs

pub total_append : (f : ℕ → ℕ) (xs ys : List ℕ) → total f (xs ++ ys) ≡ total f xs + total f ys
unfolding total
total_append f [] ys = omega arith
total_append f (x ∷ xs) ys = let r = total_append f xs ys in omega arith

-- the numbers from a on, n of them
abbrev pub run : ℕ → ℕ → List ℕ
run a n = from (λ s. s) a n

-- a run in two parts
pub run-split : (a n m : ℕ) → run a (n + m) ≡ run a n ++ run (a + n) m
unfolding from
run-split a zero m = rw (zero-add m, add-zero a)
run-split a (suc n) m =
    rw (suc-add n m, add-suc a n, ← suc-add a n)
    (ap {B = List ℕ} (λ l. a ∷ l) (run-split (suc a) n m))

-- a number stands in a run just if it lies there
pub run-has : (a n s : ℕ) → a ≤ s → s < a + n → Among s (run a n)
run-has a n s h k = (s - a, from_place (λ s. s) a n (s - a) (omega arith) ∙ ap {B = Option ℕ} some (omega arith))

pub run-low : (a n s : ℕ) → Among s (run a n) → a ≤ s
run-low a n s (i, e) = let q = (from_at (λ s. s) a n i s e).1 in omega arith

pub run-high : (a n s : ℕ) → Among s (run a n) → s < a + n
run-high a n s (i, e) = let q = from_at (λ s. s) a n i s e in omega arith

-- lengths and counts are sums
pub total_one : (xs : List ℕ) → total (λ x. 1) xs ≡ length xs
unfolding total
total_one [] = refl
total_one (x ∷ xs) = let r = total_one xs in omega arith

-- 1 where two numbers are equal, else 0
unfoldable pub once : ℕ → ℕ → ℕ
once n m = elim (eqb n m) [ true ↦ 1 | false ↦ 0 ]

pub once_here : (n x : ℕ) → x ≡ n → once n x ≡ 1
unfolding once
once_here n x e = rw (eq-eqb n x (sym e), once)

-- how often a number stands in a list
unfoldable pub times : ℕ → List ℕ → ℕ
times n [] = 0
times n (x ∷ xs) = elim (eqb n x) [ true ↦ suc (times n xs) | false ↦ times n xs ]

-- so many are left if only its equals are
pub times_only : (n : ℕ) (l : List ℕ) → times n l ≡ length (only (eqb n) l)
unfolding times only
times_only n [] = refl
times_only n (x ∷ l) = go (eqb n x) refl (times_only n l)
  where
    go : (b : Bool) → eqb n x ≡ b → times n l ≡ length (only (eqb n) l) → times n (x ∷ l) ≡ length (only (eqb n) (x ∷ l))
    go true e h = rw (e, times, only) (ap suc h)
    go false e h = rw (e, times, only) h

-- by its head and the rest
pub times_cons : (n x : ℕ) (l : List ℕ) → times n (x ∷ l) ≡ once n x + times n l
unfolding times once
times_cons n x l = go (eqb n x) refl
  where
    go : (b : Bool) → eqb n x ≡ b → times n (x ∷ l) ≡ once n x + times n l
    go true e = rw (e, times, once) (omega arith)
    go false e = rw (e, times, once) (omega arith)

pub total_times : (s : ℕ) (xs : List ℕ) → total (once s) xs ≡ times s xs
unfolding total times
total_times s [] = refl
total_times s (x ∷ xs) = let r = total_times s xs in omega (arith, times_cons s x xs)

pub times_append : (n : ℕ) (l m : List ℕ) → times n (l ++ m) ≡ times n l + times n m
times_append n l m = sym (total_times n (l ++ m)) ∙ total_append (once n) l m ∙ (let p = total_times n l in let q = total_times n m in omega arith)

-- what stands in a list is counted
pub among-times : (n : ℕ) (l : List ℕ) → Among n l → 1 ≤ times n l
unfolding times
among-times n [] (i, h) = clash (cc)
among-times n (x ∷ l) (zero, h) =
    let same : n ≡ x = cc in
    rw (eq-eqb n x same, times) (omega arith)
among-times n (x ∷ l) (suc i, h) =
    let rest = among-times n l (i, h) in
    let here = times_cons n x l in
    omega arith

-- a run has nothing before its first number, nothing behind its last, and each of its numbers once
pub times_low : (s a n : ℕ) → s < a → times s (run a n) ≡ 0
unfolding from times
times_low s a zero h = refl
times_low s a (suc n) h = rw (ne_eqb s a (λ e. omega arith), times) (times_low s (suc a) n (omega arith))

pub times_high : (s a n : ℕ) → a + n ≤ s → times s (run a n) ≡ 0
unfolding from times
times_high s a zero h = refl
times_high s a (suc n) h = rw (ne_eqb s a (λ e. omega arith), times) (times_high s (suc a) n (omega arith))

pub times_run : (s a n : ℕ) → a ≤ s → s < a + n → times s (run a n) ≡ 1
unfolding from times
times_run s a zero h k = absurd (omega arith)
times_run s a (suc n) h k = ways (equal s a) (times_run s (suc a) n)
  where
    ways : (s ≡ a) ⊎ (s ≡ a → ⊥) → (suc a ≤ s → s < suc a + n → times s (run (suc a) n) ≡ 1) → times s (run a (suc n)) ≡ 1
    ways (inl e) rest = rw (eq-eqb s a e, times) (ap suc (times_low s (suc a) n (omega arith)))
    ways (inr e) rest = rw (ne_eqb s a e, times) (rest (omega arith) (omega arith))

-- the order of rows doesn't matter to how often a key stands there
pub times_reverse : (t : ℕ) (l acc : List (ℕ × ℕ)) → times t (map (λ r. r.0) (reverse_aux l acc)) ≡ times t (map (λ r. r.0) l) + times t (map (λ r. r.0) acc)
unfolding times
times_reverse t [] acc = omega arith
times_reverse t (x ∷ l) acc =
    omega (
      arith,
      times_reverse t l (x ∷ acc),
      times_cons t x.0 (map (λ r. r.0) acc),
      times_cons t x.0 (map (λ r. r.0) l),
    )

-- a key that stands in a list of rows is counted among their keys
counted-row : (l : List (ℕ × ℕ)) (n k : ℕ) → Among (n, k) l → 1 ≤ times n (map (λ r. r.0) l)
counted-row l n k a = among-times n (map (λ r. r.0) l) (a.0, map_at (λ (r : ℕ × ℕ). r.0) l a.0 (n, k) a.1)

-- so a key that stands there once has one value
pub once_same : (l : List (ℕ × ℕ)) (n k k' : ℕ) → times n (map (λ r. r.0) l) ≤ 1 → Among (n, k) l → Among (n, k') l → k ≡ k'
once_same [] n k k' few (i, h) b = clash (cc)
once_same (r ∷ l) n k k' few (zero, h) (zero, h') = sym (some-row r (n, k) h) ∙ some-row r (n, k') h'
once_same (r ∷ l) n k k' few (zero, h) (suc j, h') =
    absurd (omega (arith, few, times_cons n r.0 (map (λ r. r.0) l), once_here n r.0 (some_key r (n, k) h), counted-row l n k' (j, h')))
once_same (r ∷ l) n k k' few (suc i, h) (zero, h') =
    absurd (omega (arith, few, times_cons n r.0 (map (λ r. r.0) l), once_here n r.0 (some_key r (n, k') h'), counted-row l n k (i, h)))
once_same (r ∷ l) n k k' few (suc i, h) (suc j, h') = once_same l n k k' (omega (arith, few, times_cons n r.0 (map (λ r. r.0) l))) (i, h) (j, h')
