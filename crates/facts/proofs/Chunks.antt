-- General facts about lists made of parts: `from` and `concat`, and a list cut into parts of one length. Assumes nothing.
use mathlib.Core.List.{List, [], ◌∷◌, ◌++◌, append_assoc, append-nil}
use mathlib.Core.Option.{some}
use mathlib.Core.Path.{◌≡◌, refl, sym, ap, subst, ◌∙◌}
use Prim.Native.Nat.{ℕ, zero, suc, ◌+◌, ◌*◌, ◌≤◌, ◌<◌}
use native.Mathlib.Nat.{mul-zero, mul-suc, add-zero, zero-add}
use native.Mathlib.Omega.{arith}
use lib.ListN.{length, take, drop, get_or, get_elem?, length-append}
use lib.Seq.{take_at, drop-append-add, drop-drop, take-add}
use Rattle.definition.specs.Basics.{concat, from}
use Rattle.facts.proofs.Lists.{none≢some, inside_found}

-- ---- the list f k, f (k + 1), .. of n

module _ {A : Type 0} where
  -- it has n elements
  pub length_from : (f : ℕ → A) (k n : ℕ) → length (from f k n) ≡ n
  unfolding from
  length_from f k zero = refl
  length_from f k (suc n) = ap suc (length_from f (suc k) n)

  -- two functions that agree on its numbers give the same list
  pub from-same : (f g : ℕ → A) (k n : ℕ) → ((i : ℕ) → k ≤ i → i < k + n → f i ≡ g i) → from f k n ≡ from g k n
  unfolding from
  from-same f g k zero e = refl
  from-same f g k (suc n) e =
      λ i. e k (omega arith) (omega arith) i ∷ from-same f g (suc k) n (λ j low high. e j (omega arith) (omega arith)) i

  -- what stands at place i of it
  pub from_at : (f : ℕ → A) (k n i : ℕ) (a : A) → get_elem? (from f k n) i ≡ some a → (i < n) × (f (k + i) ≡ a)
  unfolding from
  from_at f k zero i a e = none≢some e
  from_at f k (suc n) zero a e = (omega arith, ap f (add-zero k) ∙ (cc))
  from_at f k (suc n) (suc i) a e =
      let there = from_at f (suc k) n i a e in
      let number : k + suc i ≡ suc k + i = omega arith in
      (omega arith, ap f number ∙ there.1)

  pub from_place : (f : ℕ → A) (k n i : ℕ) → i < n → get_elem? (from f k n) i ≡ some (f (k + i))
  from_place f k n i h =
      let there = inside_found (from f k n) i (subst (λ (m : ℕ). i < m) (sym (length_from f k n)) h) in
      there.1 ∙ ap some (sym (from_at f k n i there.0 there.1).1)

-- ---- lists f 0, f 1, .. joined

-- the first k of them
abbrev pub joined : {A : Type 0} → (ℕ → List A) → ℕ → List A
joined f k = concat (from f 0 k)

joined-from : {A : Type 0} (f : ℕ → List A) (i k : ℕ) → concat (from f i (suc k)) ≡ concat (from f i k) ++ f (i + k)
unfolding concat from
joined-from f i zero = rw (add-zero i) (append-nil (f i))
joined-from f i (suc k) =
    let place : suc i + k ≡ i + suc k = omega arith in
    ap (λ l. f i ++ l) (joined-from f (suc i) k)
    ∙ sym (append_assoc (f i) (concat (from f (suc i) k)) (f (suc i + k)))
    ∙ ap (λ j. f i ++ concat (from f (suc i) k) ++ f j) place

pub joined-more : {A : Type 0} (f : ℕ → List A) (k : ℕ) → joined f (suc k) ≡ joined f k ++ f k
joined-more f k = joined-from f 0 k ∙ ap (λ j. joined f k ++ f j) (zero-add k)

-- ---- parts of one length m

module _ {A : Type 0} (m : ℕ) where
  -- n of them come to m * n
  pub length-joined : (f : ℕ → List A) (k n : ℕ) → ((i : ℕ) → k ≤ i → i < k + n → length (f i) ≡ m) → length (concat (from f k n)) ≡ m * n
  unfolding from concat
  length-joined f k zero e = sym (mul-zero m)
  length-joined f k (suc n) e =
      let here : length (f k) ≡ m = e k (omega arith) (omega arith) in
      let rest = length-joined f (suc k) n (λ i low high. e i (omega arith) (omega arith)) in
      length-append (f k) (concat (from f (suc k) n)) ∙ omega (arith, mul-suc m n)

  -- the part cut out at m * i is part i
  pub cut_out :
      (f : ℕ → List A) (k n : ℕ) →
      ((i : ℕ) → k ≤ i → i < k + n → length (f i) ≡ m) →
      (i : ℕ) →
      i < n →
      take m (drop (m * i) (concat (from f k n))) ≡ f (k + i)
  unfolding from concat
  cut_out f k zero e i h = absurd (omega arith)
  cut_out f k (suc n) e zero h =
      rw (mul-zero, add-zero) (take_at (f k) (concat (from f (suc k) n)) m (e k (omega arith) (omega arith)))
  cut_out f k (suc n) e (suc i) h =
      let here : length (f k) ≡ m = e k (omega arith) (omega arith) in
      let far : m * suc i ≡ length (f k) + m * i = omega (arith, mul-suc m i) in
      let number : k + suc i ≡ suc k + i = omega arith in
      rw (far, drop-append-add, number) (cut_out f (suc k) n (λ j low high. e j (omega arith) (omega arith)) i (omega arith))

  -- n parts cut from a list one after the other are its stretch of m * n
  pub cut-join : (l : List A) (k n : ℕ) → concat (from (λ i. take m (drop (m * i) l)) k n) ≡ take (m * n) (drop (m * k) l)
  unfolding from concat
  cut-join l k zero = rw mul-zero
  cut-join l k (suc n) =
      let long : m * suc n ≡ m + m * n = omega (arith, mul-suc m n) in
      let far : m * suc k ≡ m * k + m = omega (arith, mul-suc m k) in
      rw (cut-join l (suc k) n, far, long, take-add, drop-drop)

-- `from` by its places, and with one more at its end
module _ {A : Type 0} where
  pub from-get : (f : ℕ → A) (i n k : ℕ) (d : A) → k < n → get_or (from f i n) k d ≡ f (i + k)
  unfolding from
  from-get f i zero k d h = absurd (omega arith)
  from-get f i (suc n) zero d h = let a : i + 0 ≡ i = omega arith in rw a
  from-get f i (suc n) (suc k) d h = let a : suc i + k ≡ i + suc k = omega arith in from-get f (suc i) n k d (omega arith) ∙ ap f a

  pub from-snoc : (f : ℕ → A) (i n : ℕ) → from f i (n + 1) ≡ from f i n ++ (f (i + n) ∷ [])
  unfolding from
  from-snoc f i zero = let a : i + 0 ≡ i = omega arith in rw a
  from-snoc f i (suc n) =
      let e : suc n + 1 ≡ suc (n + 1) = omega arith in
      let a : i + suc n ≡ suc i + n = omega arith in
      rw (e, a, from-snoc f (suc i) n)
