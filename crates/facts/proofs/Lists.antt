-- Facts about lists: tests, what stands at a place and in a list, first places, images, those that pass a test, and what
-- holds of numbers in a row. Assumes nothing.
use mathlib.Core.Bool.{Bool, true, false, ◌&&◌, ◌||◌, and-true, and_assoc}
use mathlib.Core.List.{List, [], ◌∷◌, ◌++◌, map, reverse, reverse_aux, reverse-reverse}
use mathlib.Core.Logic.{◌⊎◌, inl, inr, ⊎_elim}
use mathlib.Core.Option.{Option, none, some}
use mathlib.Core.Path.{◌≡◌, refl, sym, ap, ap₂, subst, ◌∙◌}
use Prim.Native.Nat.{ℕ, zero, suc, ◌+◌, ◌-◌, ◌≤◌, ◌<◌}
use native.Mathlib.Nat.{zero-add, suc-add, not-suc-le-zero, le_of_suc-le-suc, sub-zero, suc-sub-suc}
use native.Mathlib.Omega.{arith}
use lib.Dec.{eqb, ltb}
use lib.ListN.{length, drop, get_or, get_elem?, set, replicate, length-append, length-replicate, length-set, length-drop}
use lib.Seq.{get_or-set_same, get_or-set_other}
use borrow.Author.Tests.{eqb-true, eqb-false, eq-eqb, ltb-true, ltb-false}
use Rattle.definition.specs.Basics.{same, position, every, only}
use Rattle.facts.specs.Lists.{Among}

-- ---- tests

-- from two constructors at once anything follows: `cc` proves the equation from hypotheses that clash
pub clash : {C : Type 0} → ◌≡◌ {A = ℕ} 0 1 → C
clash z = absurd (omega arith)

-- nothing is not something, and true is not false
pub none≢some : {A X : Type 0} {a : A} → ◌≡◌ {A = Option A} none (some a) → X
none≢some h = clash (cc)

pub true≢false : {X : Type 0} → true ≡ false → X
true≢false h = clash (cc)

pub some_inj : {A : Type 0} {a b : A} → ◌≡◌ {A = Option A} (some a) (some b) → a ≡ b
some_inj h = cc

-- two tests agree if either passes where the other does
pub tests_agree : (a b : Bool) → (a ≡ true → b ≡ true) → (b ≡ true → a ≡ true) → a ≡ b
tests_agree true b f g = sym (f refl)
tests_agree false true f g = g refl
tests_agree false false f g = refl

-- both parts of a passed test pass
pub both_true : (a b : Bool) → (a && b) ≡ true → (a ≡ true) × (b ≡ true)
both_true true b e = (refl, e)
both_true false b e = (e, cc)

pub and-false : (a : Bool) → (a && false) ≡ false
and-false true = refl
and-false false = refl

-- below, or not; the same number, or not
pub order : (m n : ℕ) → (m < n) ⊎ (n ≤ m)
order m n = ways (ltb m n) refl
  where
    ways : (b : Bool) → ltb m n ≡ b → (m < n) ⊎ (n ≤ m)
    ways true t = inl (ltb-true m n t)
    ways false t = inr (ltb-false m n t)

pub equal : (m n : ℕ) → (m ≡ n) ⊎ (m ≡ n → ⊥)
equal m n = ways (eqb m n) refl
  where
    ways : (b : Bool) → eqb m n ≡ b → (m ≡ n) ⊎ (m ≡ n → ⊥)
    ways true t = inl (eqb-true m n t)
    ways false t = inr (eqb-false m n t)

-- equal lists of numbers are those that the test passes
pub same_true : (xs ys : List ℕ) → same xs ys ≡ true → xs ≡ ys
unfolding same
same_true [] [] e = refl
same_true [] (y ∷ ys) e = cc
same_true (x ∷ xs) [] e = cc
same_true (x ∷ xs) (y ∷ ys) e =
    let b = both_true (eqb x y) (same xs ys) e in
    cc (eqb-true x y b.0, same_true xs ys b.1)

pub same_refl : (xs : List ℕ) → same xs xs ≡ true
unfolding same
same_refl [] = refl
same_refl (x ∷ xs) = rw (eq-eqb x x refl, same_refl xs)

-- two codes are the same exactly if the numbers are, where a number can be read back
module _ (code : ℕ → List ℕ) (value : List ℕ → ℕ) (a b : ℕ) (back_a : value (code a) ≡ a) (back_b : value (code b) ≡ b) where
  pub same_coded : same (code a) (code b) ≡ eqb a b
  same_coded = ways (eqb a b) refl (same (code a) (code b)) refl
    where
      ways : (t : Bool) → eqb a b ≡ t → (u : Bool) → same (code a) (code b) ≡ u → same (code a) (code b) ≡ eqb a b
      ways true e true f = f ∙ sym e
      ways true e false f = ap (λ x. same (code a) (code x)) (sym (eqb-true a b e)) ∙ same_refl (code a) ∙ sym e
      ways false e true f = absurd (eqb-false a b e (sym back_a ∙ ap value (same_true (code a) (code b) f) ∙ back_b))
      ways false e false f = f ∙ sym e

-- ---- places

module _ {A : Type 0} where
  -- what is found stands inside
  pub found_inside : (l : List A) (i : ℕ) (a : A) → get_elem? l i ≡ some a → i < length l
  found_inside [] i a h = none≢some h
  found_inside (x ∷ l) zero a h = omega arith
  found_inside (x ∷ l) (suc i) a h = let k = found_inside l i a h in omega arith

  -- nothing is found only from the length on
  pub missing_outside : (l : List A) (i : ℕ) → get_elem? l i ≡ none → length l ≤ i
  missing_outside [] i h = omega arith
  missing_outside (x ∷ l) zero h = none≢some (sym h)
  missing_outside (x ∷ l) (suc i) h = let k = missing_outside l i h in omega arith

  -- what is found is what the reader with a default reads
  pub found_read : (l : List A) (i : ℕ) (a d : A) → get_elem? l i ≡ some a → get_or l i d ≡ a
  found_read [] i a d h = cc
  found_read (x ∷ l) zero a d h = cc
  found_read (x ∷ l) (suc i) a d h = found_read l i a d h

  -- inside, what the reader with a default reads is found
  pub read_found : (l : List A) (i : ℕ) (d : A) → i < length l → get_elem? l i ≡ some (get_or l i d)
  read_found [] i d h = absurd (not-suc-le-zero h)
  read_found (x ∷ l) zero d h = refl
  read_found (x ∷ l) (suc i) d h = read_found l i d (le_of_suc-le-suc h)

  -- inside something is found
  pub inside_found : (l : List A) (i : ℕ) → i < length l → (a : A) × (get_elem? l i ≡ some a)
  inside_found [] i h = absurd (not-suc-le-zero h)
  inside_found (x ∷ l) i h = (get_or (x ∷ l) i x, read_found (x ∷ l) i x h)

  -- the place that is set has the new value
  pub found_set : (l : List A) (i : ℕ) (a : A) → i < length l → get_elem? (set l i a) i ≡ some a
  found_set [] i a h = absurd (not-suc-le-zero h)
  found_set (x ∷ l) zero a h = refl
  found_set (x ∷ l) (suc i) a h = found_set l i a (le_of_suc-le-suc h)

  -- every other place keeps its value
  pub found_elsewhere : (l : List A) (i j : ℕ) (a : A) → (j ≡ i → ⊥) → get_elem? (set l i a) j ≡ get_elem? l j
  found_elsewhere [] i j a h = refl
  found_elsewhere (x ∷ l) zero zero a h = absurd (h refl)
  found_elsewhere (x ∷ l) zero (suc j) a h = refl
  found_elsewhere (x ∷ l) (suc i) zero a h = refl
  found_elsewhere (x ∷ l) (suc i) (suc j) a h = found_elsewhere l i j a (λ e. h (ap suc e))

  -- what is found after a set is the new value at that place, or the old one elsewhere
  pub found_after_set :
      (l : List A) (i j : ℕ) (a b : A) →
      get_elem? (set l i a) j ≡ some b →
      ((j ≡ i) × (a ≡ b)) ⊎ ((j ≡ i → ⊥) × (get_elem? l j ≡ some b))
  found_after_set l i j a b h = go (equal j i)
    where
      go : (j ≡ i) ⊎ (j ≡ i → ⊥) → ((j ≡ i) × (a ≡ b)) ⊎ ((j ≡ i → ⊥) × (get_elem? l j ≡ some b))
      go (inl e) =
          let inside : j < length l = subst (λ (n : ℕ). j < n) (length-set l i a) (found_inside (set l i a) j b h) in
          let new = found_set l i a (subst (λ (n : ℕ). n < length l) e inside) in
          let old = subst (λ (n : ℕ). get_elem? (set l i a) n ≡ some b) e h in
          inl (e, cc)
      go (inr n) = inr (n, sym (found_elsewhere l i j a n) ∙ h)

  -- what is put at a place is read, or what was there
  pub set-either : (P : A → Type 0) (l : List A) (i j : ℕ) (a d : A) → P a → P (get_or l j d) → P (get_or (set l i a) j d)
  set-either P [] i j a d h k = k
  set-either P (x ∷ l) zero zero a d h k = h
  set-either P (x ∷ l) zero (suc j) a d h k = k
  set-either P (x ∷ l) (suc i) zero a d h k = k
  set-either P (x ∷ l) (suc i) (suc j) a d h k = set-either P l i j a d h k

  -- a list in front of another keeps its places
  pub place_front : (l m : List A) (i : ℕ) → i < length l → get_elem? (l ++ m) i ≡ get_elem? l i
  place_front [] m i h = absurd (not-suc-le-zero h)
  place_front (x ∷ l) m zero h = refl
  place_front (x ∷ l) m (suc i) h = place_front l m i (le_of_suc-le-suc h)

  -- the second list's places come behind
  pub place_behind : (l m : List A) (i : ℕ) → get_elem? (l ++ m) (length l + i) ≡ get_elem? m i
  place_behind [] m i = rw (zero-add i)
  place_behind (x ∷ l) m i = rw (suc-add (length l) i) (place_behind l m i)

  pub place_drop : (l : List A) (n i : ℕ) → get_elem? (drop n l) i ≡ get_elem? l (n + i)
  place_drop l zero i = rw (zero-add i)
  place_drop [] (suc n) i = refl
  place_drop (x ∷ l) (suc n) i = rw (suc-add n i) (place_drop l n i)

  -- what is found is still found when more follows
  pub found_append : (l m : List A) (i : ℕ) (a : A) → get_elem? l i ≡ some a → get_elem? (l ++ m) i ≡ some a
  found_append l m i a h = place_front l m i (found_inside l i a h) ∙ h

  -- a place of two joined lists is one of the first, or one of the second
  pub append_at :
      (l m : List A) (i : ℕ) (a : A) →
      get_elem? (l ++ m) i ≡ some a →
      (get_elem? l i ≡ some a) ⊎ ((j : ℕ) × (i ≡ length l + j) × (get_elem? m j ≡ some a))
  append_at l m i a e = ways (order i (length l))
    where
      ways : (i < length l) ⊎ (length l ≤ i) → (get_elem? l i ≡ some a) ⊎ ((j : ℕ) × (i ≡ length l + j) × (get_elem? m j ≡ some a))
      ways (inl h) = inl (sym (place_front l m i h) ∙ e)
      ways (inr h) =
          let q : i ≡ length l + (i - length l) = omega arith in
          inr (i - length l, q, sym (place_behind l m (i - length l)) ∙ ap (get_elem? (l ++ m)) (sym q) ∙ e)

  -- what is joined behind stands at the length
  pub found_seam : (l : List A) (a : A) (m : List A) → get_elem? (l ++ a ∷ m) (length l) ≡ some a
  found_seam [] a m = refl
  found_seam (x ∷ l) a m = found_seam l a m

  -- in n times a there is only a
  pub found_replicate : (n i : ℕ) (a b : A) → get_elem? (replicate n a) i ≡ some b → a ≡ b
  found_replicate zero i a b h = cc
  found_replicate (suc n) zero a b h = cc
  found_replicate (suc n) (suc i) a b h = found_replicate n i a b h

  get_replicate : (i : ℕ) (a : A) → get_elem? (replicate (suc i) a) i ≡ some a
  get_replicate zero a = refl
  get_replicate (suc i) a = get_replicate i a

  -- a list filled up with copies through place i has one there
  pub found_filled : (l : List A) (i : ℕ) (a : A) → length l ≤ i → get_elem? (l ++ replicate (suc i - length l) a) i ≡ some a
  found_filled [] i a h = rw sub-zero (get_replicate i a)
  found_filled (x ∷ l) zero a h = absurd (not-suc-le-zero h)
  found_filled (x ∷ l) (suc i) a h = rw suc-sub-suc (found_filled l i a (le_of_suc-le-suc h))

  -- and its length is one more than i
  pub length-filled : (l : List A) (i : ℕ) (a : A) → length l ≤ i → length (l ++ replicate (suc i - length l) a) ≡ suc i
  length-filled l i a h = simp (length-append, length-replicate) (omega arith)

  -- what is so of the head and of each behind it is so of each
  pub all_cons :
      (P : A → Type 0) (x : A) (l : List A) →
      P x →
      ((i : ℕ) (a : A) → get_elem? l i ≡ some a → P a) →
      (i : ℕ) (a : A) →
      get_elem? (x ∷ l) i ≡ some a →
      P a
  all_cons P x l here later zero a e = let s : x ≡ a = cc in rw s at here
  all_cons P x l here later (suc i) a e = later i a e

-- what is read of n times a is a, or the default
pub replicate-either : {A : Type 0} (P : A → Type 0) (n j : ℕ) (a d : A) → P a → P d → P (get_or (replicate n a) j d)
replicate-either P zero j a d h k = k
replicate-either P (suc n) zero a d h k = h
replicate-either P (suc n) (suc j) a d h k = replicate-either P n j a d h k

-- ---- what stands in a list

module _ {A : Type 0} where
  -- nothing stands in the empty list
  pub among-nil : {C : Type 0} (a : A) → Among a [] → C
  among-nil a h = none≢some h.1

  -- what stands in a list stands at its head or behind it
  pub among-cons : (a x : A) (l : List A) → Among a (x ∷ l) → (a ≡ x) ⊎ Among a l
  among-cons a x l (zero, e) = inl (cc)
  among-cons a x l (suc i, e) = inr (i, e)

  pub among_later : (a x : A) (l : List A) → Among a l → Among a (x ∷ l)
  among_later a x l h = (suc h.0, h.1)

  -- what stands in two joined lists stands in one of them, and the other way
  pub among-left : (a : A) (l m : List A) → Among a l → Among a (l ++ m)
  among-left a l m h = (h.0, found_append l m h.0 a h.1)

  pub among-right : (a : A) (l m : List A) → Among a m → Among a (l ++ m)
  among-right a l m h = (length l + h.0, place_behind l m h.0 ∙ h.1)

  pub among-either : (a : A) (l m : List A) → Among a (l ++ m) → Among a l ⊎ Among a m
  among-either a l m h = ways (append_at l m h.0 a h.1)
    where
      ways : (get_elem? l h.0 ≡ some a) ⊎ ((j : ℕ) × (h.0 ≡ length l + j) × (get_elem? m j ≡ some a)) → Among a l ⊎ Among a m
      ways (inl e) = inl (h.0, e)
      ways (inr (j, e, q)) = inr (j, q)

  -- a list with one more at its end
  pub among-snoc : (a x : A) (l : List A) → Among a (l ++ x ∷ []) → (x ≡ a) ⊎ Among a l
  among-snoc a x l h = ways (among-either a l (x ∷ []) h)
    where
      ways : Among a l ⊎ Among a (x ∷ []) → (x ≡ a) ⊎ Among a l
      ways (inl h) = inr h
      ways (inr (zero, e)) = inl (some_inj e)
      ways (inr (suc i, e)) = none≢some e

  -- what stands in a list stands in its reverse, and the other way
  among-aside : (a : A) (l acc : List A) → Among a l ⊎ Among a acc → Among a (reverse_aux l acc)
  among-aside a [] acc (inl h) = among-nil a h
  among-aside a [] acc (inr h) = h
  among-aside a (x ∷ l) acc (inl (zero, e)) = among-aside a l (x ∷ acc) (inr (zero, e))
  among-aside a (x ∷ l) acc (inl (suc i, e)) = among-aside a l (x ∷ acc) (inl (i, e))
  among-aside a (x ∷ l) acc (inr h) = among-aside a l (x ∷ acc) (inr (among_later a x acc h))

  pub among-forth : (a : A) (l : List A) → Among a l → Among a (reverse l)
  among-forth a l h = among-aside a l [] (inl h)

  pub among-back : (a : A) (l : List A) → Among a (reverse l) → Among a l
  among-back a l h = subst (Among a) (reverse-reverse l) (among-forth a (reverse l) h)

-- a number stands in a list, as a test
abbrev pub stands : ℕ → List ℕ → Bool
stands n [] = false
stands n (x ∷ l) = eqb n x || stands n l

pub stands_among : (n : ℕ) (l : List ℕ) → stands n l ≡ true → Among n l
stands_among n [] h = clash (cc)
stands_among n (x ∷ l) h = go (eqb n x) refl h (stands_among n l)
  where
    go : (b : Bool) → eqb n x ≡ b → (b || stands n l) ≡ true → (stands n l ≡ true → Among n l) → Among n (x ∷ l)
    go true e h rest = (0, ap some (sym (eqb-true n x e)))
    go false e h rest = among_later n x l (rest h)

-- ---- first places

module _ {A : Type 0} (p : A → Bool) where
  -- past a head that passes, and past one that doesn't
  pub position_here : (x : A) (l : List A) → p x ≡ true → position p (x ∷ l) ≡ 0
  unfolding position
  position_here x l e = rw (e, position)

  pub position_later : (x : A) (l : List A) → p x ≡ false → position p (x ∷ l) ≡ suc (position p l)
  unfolding position
  position_later x l e = rw (e, position)

  -- the first place is at most the length
  pub position-le : (l : List A) → position p l ≤ length l
  unfolding position
  position-le [] = omega arith
  position-le (x ∷ l) = go (p x) refl (position-le l)
    where
      go : (b : Bool) → p x ≡ b → position p l ≤ length l → position p (x ∷ l) ≤ suc (length l)
      go true e h = rw (position_here x l e) (omega arith)
      go false e h = rw (position_later x l e) (omega arith)

  -- nothing passes before it
  pub position-before : (l : List A) (i : ℕ) (a : A) → get_elem? l i ≡ some a → i < position p l → p a ≡ false
  position-before [] i a e h = none≢some e
  position-before (x ∷ l) i a e h = go (p x) refl i e h (position-before l)
    where
      go :
          (b : Bool) →
          p x ≡ b →
          (i : ℕ) →
          get_elem? (x ∷ l) i ≡ some a →
          i < position p (x ∷ l) →
          ((i : ℕ) (a : A) → get_elem? l i ≡ some a → i < position p l → p a ≡ false) →
          p a ≡ false
      go true t i e h rest = absurd (omega (arith, position_here x l t))
      go false t zero e h rest = ap p (sym (some_inj e)) ∙ t
      go false t (suc i) e h rest = rest i a e (omega (arith, position_later x l t))

  -- the one that stands there passes
  pub position_at : (l : List A) (a : A) → get_elem? l (position p l) ≡ some a → p a ≡ true
  position_at [] a e = none≢some e
  position_at (x ∷ l) a e = go (p x) refl (position_at l a)
    where
      go : (b : Bool) → p x ≡ b → (get_elem? l (position p l) ≡ some a → p a ≡ true) → p a ≡ true
      go true t rest = ap p (sym (some_inj (rw (position_here x l t) at e))) ∙ t
      go false t rest = rest (rw (position_later x l t) at e)

  -- inside, one stands there
  pub position-passes : (l : List A) → position p l < length l → (a : A) × (get_elem? l (position p l) ≡ some a) × (p a ≡ true)
  position-passes l h = let f = inside_found l (position p l) h in (f.0, f.1, position_at l f.0 f.1)

  -- and it is inside where some element passes
  pub position-hit : (l : List A) (i : ℕ) (a : A) → get_elem? l i ≡ some a → p a ≡ true → (b : A) × (get_elem? l (position p l) ≡ some b) × (p b ≡ true)
  position-hit l i a e t = position-passes l (ways (order i (position p l)))
    where
      ways : (i < position p l) ⊎ (position p l ≤ i) → position p l < length l
      ways (inl h) = true≢false (sym t ∙ position-before l i a e h)
      ways (inr h) = let k = found_inside l i a e in omega arith

-- two tests that agree place by place have one first place
pub position-agree :
    {A B : Type 0} (p : A → Bool) (q : B → Bool) (l : List A) (m : List B) →
    length l ≡ length m →
    ((i : ℕ) (a : A) (b : B) → get_elem? l i ≡ some a → get_elem? m i ≡ some b → p a ≡ q b) →
    position p l ≡ position q m
unfolding position
position-agree p q [] [] n agree = refl
position-agree p q [] (y ∷ m) n agree = absurd (omega arith)
position-agree p q (x ∷ l) [] n agree = absurd (omega arith)
position-agree p q (x ∷ l) (y ∷ m) n agree =
    go (q y) (agree 0 x y refl refl) refl (position-agree p q l m (omega arith) (λ i a b e f. agree (suc i) a b e f))
  where
    go : (b : Bool) → p x ≡ q y → q y ≡ b → position p l ≡ position q m → position p (x ∷ l) ≡ position q (y ∷ m)
    go true s e h = position_here p x l (s ∙ e) ∙ sym (position_here q y m e)
    go false s e h = position_later p x l (s ∙ e) ∙ ap suc h ∙ sym (position_later q y m e)

-- ---- images

module _ {A B : Type 0} (f : A → B) where
  -- what stands at a place of a mapped list
  pub map_at : (l : List A) (i : ℕ) (a : A) → get_elem? l i ≡ some a → get_elem? (map f l) i ≡ some (f a)
  map_at [] i a e = cc
  map_at (x ∷ l) zero a e = ap some (ap f (some_inj e))
  map_at (x ∷ l) (suc i) a e = map_at l i a e

  pub map-some : (l : List A) (i : ℕ) (b : B) → get_elem? (map f l) i ≡ some b → (a : A) × (get_elem? l i ≡ some a) × (f a ≡ b)
  map-some [] i b e = none≢some e
  map-some (x ∷ l) zero b e = (x, refl, some_inj e)
  map-some (x ∷ l) (suc i) b e = map-some l i b e

  -- what stands in a mapped list is an image
  pub unmap : (l : List A) (b : B) → Among b (map f l) → (a : A) × Among a l × (f a ≡ b)
  unmap l b h = let r = map-some l h.0 b h.1 in (r.0, (h.0, r.1), r.2)

  -- two lists with one image agree place by place
  pub map-agree : (l m : List A) → map f l ≡ map f m → (i : ℕ) (a b : A) → get_elem? l i ≡ some a → get_elem? m i ≡ some b → f a ≡ f b
  map-agree l m e i a b p q = some_inj (sym (map_at l i a p) ∙ ap (λ k. get_elem? k i) e ∙ map_at m i b q)

-- two maps that agree on all that stands in a list
pub map_same : {A B : Type 0} (f g : A → B) (l : List A) → ((a : A) → Among a l → f a ≡ g a) → map f l ≡ map g l
map_same f g [] h = refl
map_same f g (x ∷ l) h = ap₂ ◌∷◌ (h x (0, refl)) (map_same f g l (λ a p. h a (among_later a x l p)))

-- ---- those that pass a test

module _ {A : Type 0} (p : A → Bool) where
  -- what every one passes, each passes
  pub every-at : (l : List A) → every p l ≡ true → (i : ℕ) (a : A) → get_elem? l i ≡ some a → p a ≡ true
  unfolding every
  every-at [] t i a e = none≢some e
  every-at (x ∷ l) t zero a e = let s : x ≡ a = cc in rw s at (both_true (p x) (every p l) t).0
  every-at (x ∷ l) t (suc i) a e = every-at l (both_true (p x) (every p l) t).1 i a e

  -- a kept head, and one that isn't kept
  pub only_here : (x : A) (l : List A) → p x ≡ true → only p (x ∷ l) ≡ x ∷ only p l
  unfolding only
  only_here x l e = rw (e, only)

  pub only-later : (x : A) (l : List A) → p x ≡ false → only p (x ∷ l) ≡ only p l
  unfolding only
  only-later x l e = rw (e, only)

  -- one that is kept passes, and stands in the list
  pub only_at : (l : List A) (i : ℕ) (a : A) → get_elem? (only p l) i ≡ some a → (p a ≡ true) × ((j : ℕ) × (get_elem? l j ≡ some a))
  unfolding only
  only_at [] i a e = none≢some e
  only_at (x ∷ l) i a e = go (p x) refl i e (only_at l)
    where
      Kept : List A → Type 0
      Kept l = (p a ≡ true) × ((j : ℕ) × (get_elem? l j ≡ some a))

      later : Kept l → Kept (x ∷ l)
      later h = (h.0, (suc h.1.0, h.1.1))

      go :
          (b : Bool) →
          p x ≡ b →
          (i : ℕ) →
          get_elem? (only p (x ∷ l)) i ≡ some a →
          ((i : ℕ) (a : A) → get_elem? (only p l) i ≡ some a → (p a ≡ true) × ((j : ℕ) × (get_elem? l j ≡ some a))) →
          Kept (x ∷ l)
      go true t zero e rest = let q : x ≡ a = cc (only_here x l t) in (rw q at t, (0, ap some q))
      go true t (suc i) e rest = later (rest i a (rw (only_here x l t) at e))
      go false t i e rest = later (rest i a (rw (only-later x l t) at e))

-- those that pass of a mapped list are the images of those that pass
pub only-map :
    {A B : Type 0} (p : B → Bool) (q : A → Bool) (f : A → B) (l : List A) → ((a : A) → p (f a) ≡ q a) → only p (map f l) ≡ map f (only q l)
unfolding only
only-map p q f [] h = refl
only-map {A} {B} p q f (x ∷ l) h = go (q x) refl (only-map p q f l h)
  where
    go : (b : Bool) → q x ≡ b → only p (map f l) ≡ map f (only q l) → only p (f x ∷ map f l) ≡ map f (only q (x ∷ l))
    go true e rest = rw (only_here p (f x) (map f l) (h x ∙ e), only_here q x l e) (ap (λ (m : List B). f x ∷ m) rest)
    go false e rest = rw (only-later p (f x) (map f l) (h x ∙ e), only-later q x l e) rest

-- what stands at a place of a list, and of the list's images
pub place_map :
    {A B : Type 0} (f : A → B) (xs : List A) (i : ℕ) (d : A) →
    i < length xs →
    get_elem? (map f xs) i ≡ some (f (get_or xs i d))
place_map f [] i d h = absurd (omega arith)
place_map f (x ∷ xs) zero d h = refl
place_map f (x ∷ xs) (suc i) d h = place_map f xs i d (omega arith)

pub get_map : {A B : Type 0} (f : A → B) (xs : List A) (i : ℕ) (x : A) (d : B) → get_elem? xs i ≡ some x → get_or (map f xs) i d ≡ f x
get_map f [] i x d e = none≢some e
get_map f (y ∷ xs) zero x d e = ap f (some_inj e)
get_map f (y ∷ xs) (suc i) x d e = get_map f xs i x d e

pub map-set : {A B : Type 0} (f : A → B) (xs : List A) (i : ℕ) (x : A) → map f (set xs i x) ≡ set (map f xs) i (f x)
map-set f [] i x = refl
map-set f (y ∷ xs) zero x = refl
map-set f (y ∷ xs) (suc i) x = ap (λ l. f y ∷ l) (map-set f xs i x)

-- what a list holds from a place on
pub drop-place : {A : Type 0} (xs : List A) (i : ℕ) (x : A) → get_elem? xs i ≡ some x → drop i xs ≡ x ∷ drop (suc i) xs
drop-place [] i x e = none≢some e
drop-place (y ∷ xs) zero x e = rw (some_inj e)
drop-place (y ∷ xs) (suc i) x e = drop-place xs i x e

-- nothing stands past the end
pub place_out : {A : Type 0} (xs : List A) (i : ℕ) → length xs ≤ i → get_elem? xs i ≡ none
place_out [] i h = refl
place_out (x ∷ xs) zero h = absurd (omega arith)
place_out (x ∷ xs) (suc i) h = place_out xs i (omega arith)

-- one more in front of those that pass
pub only-more : {A : Type 0} (p : A → Bool) (x : A) (l : List A) → length (only p (x ∷ l)) ≡ length (only p (x ∷ [])) + length (only p l)
unfolding only
only-more p x l = ways (p x) refl
  where
    ways : (b : Bool) → p x ≡ b → length (only p (x ∷ l)) ≡ length (only p (x ∷ [])) + length (only p l)
    ways true e = rw (only_here p x l e, only_here p x [] e) (omega arith)
    ways false e = rw (only-later p x l e, only-later p x [] e) (omega arith)

-- one more behind those that all pass
pub every-snoc : {A : Type 0} (p : A → Bool) (l : List A) (x : A) → every p (l ++ x ∷ []) ≡ every p l && p x
unfolding every
every-snoc p [] x = and-true (p x)
every-snoc p (y ∷ l) x = rw (every-snoc p l x) (sym (and_assoc (p y) (every p l) (p x)))

-- what is left tells the place
pub same_place : (s : List ℕ) (a b : ℕ) → a ≤ length s → b ≤ length s → drop a s ≡ drop b s → a ≡ b
same_place s a b ha hb e = let sizes : length s - a ≡ length s - b = sym (length-drop a s) ∙ ap length e ∙ length-drop b s in omega arith

-- a number at a place, and what is behind it
pub front : (s : List ℕ) (at b : ℕ) (l : List ℕ) → b ∷ l ≡ drop at s → (get_elem? s at ≡ some b) × (at < length s) × (l ≡ drop (suc at) s)
front [] zero b l e = clash (cc)
front [] (suc at) b l e = clash (cc)
front (x ∷ s) zero b l e = (ap some (cc), omega arith, cc)
front (x ∷ s) (suc at) b l e = let g = front s at b l e in (g.0, omega arith, g.2)

-- what holds of k and the next n - 1 numbers holds of each of them
abbrev pub Throughout : (ℕ → Type 0) → ℕ → ℕ → Type 0
Throughout P k zero = Unit {0}
Throughout P k (suc n) = P k × Throughout P (suc k) n

pub throughout : (P : ℕ → Type 0) (n k x : ℕ) → k ≤ x → x < k + n → Throughout P k n → P x
throughout P zero k x low high h = absurd (omega arith)
throughout P (suc n) k x low high h = ways (eqb x k) refl (λ above. throughout P n (suc k) x above (omega arith) h.1)
  where
    ways : (b : Bool) → eqb x k ≡ b → (suc k ≤ x → P x) → P x
    ways true e later = rw (eqb-true x k e) h.0
    ways false e later = later (let differ = eqb-false x k e in omega arith)

-- a fact of each number of a list, after one is set
pub each_set :
    (P : ℕ → ℕ → Type 0) (l : List ℕ) (i x : ℕ) →
    i < length l →
    P i x →
    ((j : ℕ) → (j ≡ i → ⊥) → P j (get_or l j 0)) →
    (j : ℕ) →
    P j (get_or (set l i x) j 0)
each_set P l i x h a b j =
    ⊎_elim
    (λ (e : j ≡ i). rw (e, get_or-set_same l i x 0 h) a)
    (λ (e : j ≡ i → ⊥). rw (get_or-set_other l i j x 0 e) (b j e))
    (equal j i)
