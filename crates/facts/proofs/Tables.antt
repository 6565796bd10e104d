-- Tables with numbers for keys: what is found at a key, what an insertion adds, keys that rise, and what holds of every row. Assumes nothing.
use mathlib.Core.Bool.{Bool, true, false}
use mathlib.Core.List.{List, [], ◌∷◌, map, reverse_aux}
use mathlib.Core.Logic.{◌⊎◌, inl, inr}
use mathlib.Core.Option.{Option, none, some}
use mathlib.Core.Path.{◌≡◌, refl, sym, ap, ◌∙◌}
use Prim.Native.Nat.{ℕ, zero, suc, ◌≤◌, ◌<◌}
use native.Mathlib.Omega.{arith}
use lib.Dec.{eqb, ltb}
use lib.ListN.{length}
use borrow.Author.Tests.{eq-eqb, ne_eqb, lt-ltb, le-ltb}
use Rattle.definition.specs.Basics.{every, lookup, insert}
use Rattle.facts.specs.Lists.{Among, Rising, keys}
use Rattle.facts.proofs.Lists.{none≢some, some_inj, order, equal, among-nil, among-cons, among_later, every-at}

-- equal rows have equal keys
pub some_key : {A : Type 0} (x y : ℕ × A) → some x ≡ some y → x.0 ≡ y.0
some_key {A} x y e = ap (λ (r : ℕ × A). r.0) (some_inj e)

pub some-row : {A : Type 0} (x y : ℕ × A) → some x ≡ some y → x.1 ≡ y.1
some-row {A} x y e = ap (λ (r : ℕ × A). r.1) (some_inj e)

-- ---- what is found

-- a table with a row in front has that row's value at its key
pub lookup-hit : {A : Type 0} (k : ℕ) (r : ℕ × A) (rows : List (ℕ × A)) → k ≡ r.0 → lookup k (r ∷ rows) ≡ some r.1
unfolding lookup
lookup-hit k r rows h = rw (eq-eqb k r.0 h, lookup)

-- and what it had before at any other key
pub lookup-miss : {A : Type 0} (k : ℕ) (r : ℕ × A) (rows : List (ℕ × A)) → (k ≡ r.0 → ⊥) → lookup k (r ∷ rows) ≡ lookup k rows
unfolding lookup
lookup-miss k r rows h = rw (ne_eqb k r.0 h, lookup)

module _ {A : Type 0} where
  -- what is found at a key stands in the table, beside that key
  pub lookup-at : (k : ℕ) (a : A) (t : List (ℕ × A)) → lookup k t ≡ some a → Among (k, a) t
  unfolding lookup
  lookup-at k a [] e = none≢some e
  lookup-at k a (r ∷ t) e = go (equal k r.0) (lookup-at k a t)
    where
      go : (k ≡ r.0) ⊎ (k ≡ r.0 → ⊥) → (lookup k t ≡ some a → Among (k, a) t) → Among (k, a) (r ∷ t)
      go (inl s) rest = let q : r.1 ≡ a = some_inj (sym (lookup-hit k r t s) ∙ e) in (0, λ i. some (sym s i, q i))
      go (inr s) rest = among_later (k, a) r t (rest (sym (lookup-miss k r t s) ∙ e))

  -- a key that stands in a table is found
  pub among-lookup : (k : ℕ) (a : A) (t : List (ℕ × A)) → Among (k, a) t → (b : A) × (lookup k t ≡ some b)
  among-lookup k a [] h = among-nil (k, a) h
  among-lookup k a (r ∷ t) h = go (equal k r.0) (among-cons (k, a) r t h) (among-lookup k a t)
    where
      go : (k ≡ r.0) ⊎ (k ≡ r.0 → ⊥) → ((k, a) ≡ r) ⊎ Among (k, a) t → (Among (k, a) t → (b : A) × (lookup k t ≡ some b)) → (b : A) × (lookup k (r ∷ t) ≡ some b)
      go (inl same) c rest = (r.1, lookup-hit k r t same)
      go (inr other) (inl e) rest = absurd (other (ap (λ (y : ℕ × A). y.0) e))
      go (inr other) (inr h) rest = let b = rest h in (b.0, lookup-miss k r t other ∙ b.1)

  -- what every row of a table passes, what is found at a key passes beside that key
  pub lookup-every : (p : ℕ × A → Bool) (t : List (ℕ × A)) → every p t ≡ true → (k : ℕ) (a : A) → lookup k t ≡ some a → p (k, a) ≡ true
  lookup-every p t all k a e = let h = lookup-at k a t e in every-at p t all h.0 (k, a) h.1

-- ---- what an insertion adds

-- a key goes before the first that is higher
pub insert-front : {A : Type 0} (k : ℕ) (a : A) (r : ℕ × A) (rows : List (ℕ × A)) → k < r.0 → insert k a (r ∷ rows) ≡ (k, a) ∷ r ∷ rows
unfolding insert
insert-front k a r rows h = rw (lt-ltb k r.0 h, insert)

pub insert-behind : {A : Type 0} (k : ℕ) (a : A) (r : ℕ × A) (rows : List (ℕ × A)) → r.0 ≤ k → insert k a (r ∷ rows) ≡ r ∷ insert k a rows
unfolding insert
insert-behind k a r rows h = rw (le-ltb k r.0 h, insert)

module _ {A : Type 0} where
  -- what is inserted stands there
  pub insert-new : (k : ℕ) (a : A) (t : List (ℕ × A)) → Among (k, a) (insert k a t)
  unfolding insert
  insert-new k a [] = (0, refl)
  insert-new k a (r ∷ t) = go (order k r.0) (insert-new k a t)
    where
      go : (k < r.0) ⊎ (r.0 ≤ k) → Among (k, a) (insert k a t) → Among (k, a) (insert k a (r ∷ t))
      go (inl e) h = rw (insert-front k a r t e) (0, refl)
      go (inr e) h = rw (insert-behind k a r t e) (among_later (k, a) r (insert k a t) h)

  -- so does what stood there before
  pub insert-old : (k : ℕ) (a : A) (t : List (ℕ × A)) (x : ℕ × A) → Among x t → Among x (insert k a t)
  insert-old k a [] x h = among-nil x h
  insert-old k a (r ∷ t) x h = go (order k r.0) (among-cons x r t h) (insert-old k a t x)
    where
      go :
          (k < r.0) ⊎ (r.0 ≤ k) →
          (x ≡ r) ⊎ Among x t →
          (Among x t → Among x (insert k a t)) →
          Among x (insert k a (r ∷ t))
      go (inl e) c rest = rw (insert-front k a r t e) (among_later x (k, a) (r ∷ t) h)
      go (inr e) (inl p) rest = rw (insert-behind k a r t e) (0, ap some (sym p))
      go (inr e) (inr q) rest = rw (insert-behind k a r t e) (among_later x r (insert k a t) (rest q))

  -- and nothing else
  insert-row : (k : ℕ) (a : A) (t : List (ℕ × A)) (x : ℕ × A) → Among x (insert k a t) → (x ≡ (k, a)) ⊎ Among x t
  unfolding insert
  insert-row k a [] x h = among-cons x (k, a) [] h
  insert-row k a (r ∷ t) x h = go (order k r.0) (insert-row k a t x)
    where
      later : (x ≡ (k, a)) ⊎ Among x t → (x ≡ (k, a)) ⊎ Among x (r ∷ t)
      later (inl p) = inl p
      later (inr q) = inr (among_later x r t q)

      behind : (x ≡ r) ⊎ Among x (insert k a t) → (Among x (insert k a t) → (x ≡ (k, a)) ⊎ Among x t) → (x ≡ (k, a)) ⊎ Among x (r ∷ t)
      behind (inl p) rest = inr (0, ap some (sym p))
      behind (inr q) rest = later (rest q)

      go : (k < r.0) ⊎ (r.0 ≤ k) → (Among x (insert k a t) → (x ≡ (k, a)) ⊎ Among x t) → (x ≡ (k, a)) ⊎ Among x (r ∷ t)
      go (inl e) rest = among-cons x (k, a) (r ∷ t) (rw (insert-front k a r t e) at h)
      go (inr e) rest = behind (among-cons x r (insert k a t) (rw (insert-behind k a r t e) at h)) rest

  pub insert-among : (k : ℕ) (a : A) (t : List (ℕ × A)) (j : ℕ) (b : A) → Among (j, b) (insert k a t) → ((k ≡ j) × (a ≡ b)) ⊎ Among (j, b) t
  insert-among k a t j b h = ways (j, b) (insert-row k a t (j, b) h)
    where
      ways : (x : ℕ × A) → (x ≡ (k, a)) ⊎ Among x t → ((k ≡ x.0) × (a ≡ x.1)) ⊎ Among x t
      ways x (inl p) = inl (ap (λ (y : ℕ × A). y.0) (sym p), ap (λ (y : ℕ × A). y.1) (sym p))
      ways x (inr q) = inr q

-- a key put into a table changes nothing at another
pub lookup-insert-other :
    {A : Type 0} (k n : ℕ) (a : A) (rows : List (ℕ × A)) → (k ≡ n → ⊥) → lookup k (insert n a rows) ≡ lookup k rows
unfolding insert
lookup-insert-other k n a [] h = lookup-miss k (n, a) [] h
lookup-insert-other {A} k n a (r ∷ rows) h = ways (order n r.0) (equal k r.0) (lookup-insert-other k n a rows h)
  where
    ways :
        (n < r.0) ⊎ (r.0 ≤ n) →
        (k ≡ r.0) ⊎ (k ≡ r.0 → ⊥) →
        lookup k (insert n a rows) ≡ lookup k rows →
        lookup k (insert n a (r ∷ rows)) ≡ lookup k (r ∷ rows)
    ways (inl o) q rest = ap (lookup {A = A} k) (insert-front n a r rows o) ∙ lookup-miss k (n, a) (r ∷ rows) h
    ways (inr o) (inl q) rest = ap (lookup {A = A} k) (insert-behind n a r rows o) ∙ lookup-hit k r (insert n a rows) q ∙ sym (lookup-hit k r rows q)
    ways (inr o) (inr q) rest =
        ap (lookup {A = A} k) (insert-behind n a r rows o) ∙ lookup-miss k r (insert n a rows) q ∙ rest ∙ sym (lookup-miss k r rows q)

-- a table is one longer with a new key
pub insert-length : {A : Type 0} (k : ℕ) (a : A) (l : List (ℕ × A)) → length (insert k a l) ≡ suc (length l)
unfolding insert
insert-length k a [] = refl
insert-length k a (r ∷ l) = go (ltb k r.0) refl (insert-length k a l)
  where
    go : (b : Bool) → ltb k r.0 ≡ b → length (insert k a l) ≡ suc (length l) → length (insert k a (r ∷ l)) ≡ suc (suc (length l))
    go true e ih = rw (e, insert)
    go false e ih = rw (e, insert) (omega arith)

-- ---- keys that rise

-- maps that keep the keys
pub keys-map : {A B : Type 0} (f : ℕ × A → ℕ × B) (rows : List (ℕ × A)) → ((r : ℕ × A) → (f r).0 ≡ r.0) → keys (map f rows) ≡ keys rows
keys-map f [] h = refl
keys-map f (r ∷ rows) h = λ i. h r i ∷ keys-map f rows h i

pub keys-reverse : {A : Type 0} (xs ys : List (ℕ × A)) → keys (reverse_aux xs ys) ≡ reverse_aux (keys xs) (keys ys)
keys-reverse [] ys = refl
keys-reverse (x ∷ xs) ys = keys-reverse xs (x ∷ ys)

-- where keys rise from a number on, no lower one is a key
pub rising_none : {A : Type 0} (low top k : ℕ) (rows : List (ℕ × A)) → Rising low top (keys rows) → k < low → lookup k rows ≡ none
unfolding lookup
rising_none low top k [] r h = refl
rising_none low top k (x ∷ rows) r h =
    lookup-miss k x rows (λ q. omega arith) ∙ rising_none (suc x.0) top k rows r.2 (omega arith)

-- a new key keeps the keys rising
pub rising_insert :
    {A : Type 0} (low top k : ℕ) (a : A) (rows : List (ℕ × A)) →
    low ≤ k →
    k ≤ top →
    lookup k rows ≡ none →
    Rising low top (keys rows) →
    Rising low top (keys (insert k a rows))
unfolding insert
rising_insert low top k a [] h t new rising = (h, t, tt)
rising_insert {A} low top k a (r ∷ rows) h t new rising = ways (order k r.0) (equal k r.0) (rising_insert (suc r.0) top k a rows)
  where
    ways :
        (k < r.0) ⊎ (r.0 ≤ k) →
        (k ≡ r.0) ⊎ (k ≡ r.0 → ⊥) →
        (suc r.0 ≤ k → k ≤ top → lookup k rows ≡ none → Rising (suc r.0) top (keys rows) → Rising (suc r.0) top (keys (insert k a rows))) →
        Rising low top (keys (insert k a (r ∷ rows)))
    ways (inl o) q rest = rw (insert-front k a r rows o) (h, t, (o, rising.1, rising.2))
    ways (inr o) (inl q) rest = none≢some (sym new ∙ lookup-hit k r rows q)
    ways (inr o) (inr q) rest =
        rw (insert-behind k a r rows o)
        (rising.0, rising.1, rest (omega arith) t (sym (lookup-miss k r rows q) ∙ new) rising.2)

module _ {A : Type 0} where
  -- what stands in such a table is what is found at its key
  pub rising_from : (low top : ℕ) (rows : List (ℕ × A)) (k : ℕ) (a : A) → Rising low top (keys rows) → Among (k, a) rows → low ≤ k
  rising_from low top [] k a r h = among-nil (k, a) h
  rising_from low top (x ∷ rows) k a r (zero, e) = let q = some_key x (k, a) e in omega (arith, r.0)
  rising_from low top (x ∷ rows) k a r (suc i, e) = let h = rising_from (suc x.0) top rows k a r.2 (i, e) in omega (arith, r.0)

  pub rising_lookup : (low top : ℕ) (rows : List (ℕ × A)) (k : ℕ) (a : A) → Rising low top (keys rows) → Among (k, a) rows → lookup k rows ≡ some a
  rising_lookup low top [] k a r h = among-nil (k, a) h
  rising_lookup low top (x ∷ rows) k a r (zero, e) = lookup-hit k x rows (sym (some_key x (k, a) e)) ∙ ap some (some-row x (k, a) e)
  rising_lookup low top (x ∷ rows) k a r (suc i, e) =
      let b = rising_from (suc x.0) top rows k a r.2 (i, e) in
      lookup-miss k x rows (λ q. omega arith) ∙ rising_lookup (suc x.0) top rows k a r.2 (i, e)

-- ---- every row of a table

-- P, and k is the key of no row, in the form in which the last arm of a `match` says it
abbrev pub Passed : {A : Type 0} → ℕ → Type 0 → List (ℕ × A) → Type 0
Passed k P [] = P
Passed k P (r ∷ rows) = Passed k (P × (k ≡ r.0 → ⊥)) rows

pub passed : {A : Type 0} (k : ℕ) (P : Type 0) (rows : List (ℕ × A)) → Passed k P rows → P × (lookup k rows ≡ none)
unfolding lookup
passed k P [] h = (h, refl)
passed k P (r ∷ rows) h =
    let rest = passed k (P × (k ≡ r.0 → ⊥)) rows h in
    (rest.0.0, rw (ne_eqb k r.0 rest.0.1, lookup) rest.1)

-- what holds of each row's value and of none holds of whatever is looked up
module _ {A : Type 0} (P : Option A → Type 0) where
  abbrev pub InRows : List (ℕ × A) → Type 0
  InRows [] = P none
  InRows (r ∷ rows) = P (some r.1) × InRows rows

  pub looked_up : (k : ℕ) (rows : List (ℕ × A)) → InRows rows → P (lookup k rows)
  unfolding lookup
  looked_up k [] h = h
  looked_up k (r ∷ rows) h = ways (eqb k r.0) refl (looked_up k rows h.1)
    where
      ways : (b : Bool) → eqb k r.0 ≡ b → P (lookup k rows) → P (lookup k (r ∷ rows))
      ways true e rest = rw (e, lookup) h.0
      ways false e rest = rw (e, lookup) rest

-- a number that is no key of a table
abbrev pub NoKey : {A : Type 0} → ℕ → List (ℕ × A) → Type 0
NoKey x [] = Unit {0}
NoKey x (r ∷ t) = (x ≡ r.0 → ⊥) × NoKey x t

pub lookup-none : {A : Type 0} (x : ℕ) (t : List (ℕ × A)) → NoKey x t → lookup x t ≡ none
unfolding lookup
lookup-none x [] h = refl
lookup-none x (r ∷ t) h = rw (ne_eqb x r.0 h.0, lookup) (lookup-none x t h.1)
