-- The slots of a row's children: what the loops over them keep, for a hash and for a comparison. Assumes nothing.
use mathlib.Core.Bool.{Bool, true, false}
use mathlib.Core.List.{List, [], ◌∷◌, ◌++◌, map}
use mathlib.Core.Path.{◌≡◌, refl, sym, ap, ◌∙◌}
use Prim.Native.Nat.{ℕ, zero, suc, ◌+◌, ◌-◌, ◌≤◌, ◌<◌}
use native.Mathlib.Omega.{arith}
use lib.ListN.{length, get_or, take, drop}
use lib.Seq.{ext_get_or, get_or-take, get_or-drop}
use borrow.Author.Count.{below_more}
use borrow.Author.Tests.{lt-ltb, le-ltb}
use Rattle.definition.specs.Basics.{same, from}
use Rattle.definition.specs.Building.{Row}
use Rattle.facts.proofs.Chunks.{length_from, from-same, from-get, from-snoc}
use Rattle.facts.proofs.Lists.{same_true, same_refl}
use Rattle.interner.specs.Nodes.{hash_words}
use Rattle.raws.proofs.Sweeping.{cut-long}
use Rattle.store.specs.Store.{IsWord}
use Rattle.store.specs.Chains.{mixed}
use Rattle.store.specs.Words.{ENTRY, cut, child_slot}
use Rattle.rows.specs.Rowed.{row_at, hash_row}

pub slot-raw : (given : List ℕ) (child : ℕ) → child < ENTRY → child ≡ child_slot given child
unfolding child_slot
slot-raw given child h = rw (lt-ltb child ENTRY h, child_slot)

pub slot-node : (given : List ℕ) (child x : ℕ) → ENTRY ≤ child → x ≡ get_or given (child - ENTRY) 0 → x ≡ child_slot given child
unfolding child_slot
slot-node given child x h e = rw (le-ltb child ENTRY h, child_slot) e

pub map-from : {A B : Type 0} (g : A → B) (f : ℕ → A) (i n : ℕ) → map g (from f i n) ≡ from (λ j. g (f j)) i n
unfolding from
map-from g f i zero = refl
map-from g f i (suc n) = rw (map-from g f (suc i) n)

-- n places from a place on
pub part_is : (l : List ℕ) (at n : ℕ) → at + n ≤ length l → take n (drop at l) ≡ cut l at n
part_is l at n h =
    ext_get_or 0 (take n (drop at l)) (cut l at n) (cut-long l at n h ∙ sym (length_from _ 0 n))
    (λ i less.
    let k : i < n = omega (arith, cut-long l at n h) in
    get_or-take n (drop at l) i 0 k ∙ get_or-drop at l i 0 ∙ sym (from-get (λ i. get_or l (at + i) 0) 0 n i 0 k ∙ ap (λ (x : ℕ). get_or l (at + x) 0) (omega arith)))

module _ (given children firsts sizes : List ℕ) (e : ℕ) where
  -- slot i of an entry's row
  abbrev pub slot_at : ℕ → ℕ
  slot_at i = child_slot given (get_or children (get_or firsts e 0 + i) 0)

  pub row_from : row_at given children firsts sizes e ≡ from slot_at 0 (get_or sizes e 0)
  unfolding row_at
  row_from = map-from (child_slot given) (λ i. get_or children (get_or firsts e 0 + i) 0) 0 (get_or sizes e 0)

  pub row_length : length (row_at given children firsts sizes e) ≡ get_or sizes e 0
  row_length = ap length row_from ∙ length_from slot_at 0 (get_or sizes e 0)

-- A HASH

words_more : (hash : ℕ) (l : List ℕ) (x : ℕ) → hash_words hash (l ++ x ∷ []) ≡ mixed (hash_words hash l) x
unfolding hash_words
words_more hash [] x = refl
words_more hash (y ∷ l) x = words_more (mixed hash y) l x

-- what the loop keeps: the hash of those behind
pub record Folding (f : ℕ → ℕ) (n seed hash i : ℕ) : Type 0 where
  pub low : i ≤ n
  pub small : IsWord hash
  pub is : hash ≡ hash_words seed (from f 0 i)

module _ (f : ℕ → ℕ) (n seed : ℕ) where
  pub folding_begin : IsWord seed → Folding f n seed seed 0
  unfolding hash_words from
  folding_begin small = record { low = omega arith; small = small; is = refl }

  pub folding_next :
      (hash i : ℕ) → Folding f n seed hash i → i < n → (new x : ℕ) → x ≡ f i → new ≡ mixed hash x → IsWord new → Folding f n seed new (i + 1)
  folding_next hash i h less new x e q small =
      record { low = omega arith; small = small; is = rw (q, e, h.is) (sym (ap (hash_words seed) more ∙ words_more seed (from f 0 i) (f i))) }
    where
      more : from f 0 (i + 1) ≡ from f 0 i ++ f i ∷ []
      more = let e : 0 + i ≡ i = omega arith in rw e at (from-snoc f 0 i)

  pub folding_end : (hash i : ℕ) → Folding f n seed hash i → n ≤ i → (hash ≡ hash_words seed (from f 0 n)) × IsWord hash
  folding_end hash i h less = let e : i ≡ n = omega (arith, h.low) in (rw e at h.is, h.small)

-- so the hash is the row's
pub hashed_row :
    (given children firsts sizes : List ℕ) (e n hash : ℕ) → n ≡ get_or sizes e 0 → hash ≡ hash_words n (from (slot_at given children firsts sizes e) 0 n) →
    hash ≡ hash_row (row_at given children firsts sizes e)
unfolding hash_row
hashed_row given children firsts sizes e n hash q h =
    rw (row_length given children firsts sizes e, row_from given children firsts sizes e, ← q) h

-- A COMPARISON

-- what the loop keeps: those behind are the same
pub record Matching (f g : ℕ → ℕ) (n i : ℕ) : Type 0 where
  pub low : i ≤ n
  pub each : (k : ℕ) → k < i → f k ≡ g k

module _ (f g : ℕ → ℕ) (n : ℕ) where
  pub matching_begin : Matching f g n 0
  matching_begin = record { low = omega arith; each = λ k h. absurd (omega arith) }

  pub matching_next : (i : ℕ) → Matching f g n i → i < n → (x y : ℕ) → x ≡ f i → y ≡ g i → y ≡ x → Matching f g n (i + 1)
  matching_next i h less x y is other e = record { low = omega arith; each = below_more _ _ h.each (sym is ∙ sym e ∙ other) }

  from_place : (h : ℕ → ℕ) (i : ℕ) → i < n → get_or (from h 0 n) i 0 ≡ h i
  from_place h i l = let e : 0 + i ≡ i = omega arith in rw e at (from-get h 0 n i 0 l)

  matched_not : (i : ℕ) → i < n → (x y : ℕ) → x ≡ f i → y ≡ g i → (y ≡ x → ⊥) → false ≡ same (from f 0 n) (from g 0 n)
  matched_not i less x y is other e = ways (same (from f 0 n) (from g 0 n)) refl
    where
      ways : (t : Bool) → same (from f 0 n) (from g 0 n) ≡ t → false ≡ t
      ways true h =
          absurd (e (other ∙ sym (from_place g i less) ∙ sym (ap (λ (m : List ℕ). get_or m i 0) (same_true (from f 0 n) (from g 0 n) h)) ∙ from_place f i less ∙ sym is))
      ways false h = refl

  matched_all : (i : ℕ) → Matching f g n i → n ≤ i → true ≡ same (from f 0 n) (from g 0 n)
  matched_all i h less =
      let e : from f 0 n ≡ from g 0 n = from-same f g 0 n (λ k low high. h.each k (omega (arith, h.low))) in
      rw e (sym (same_refl (from g 0 n)))

-- the rows of two entries
module _ (given children firsts sizes : List ℕ) (d e n : ℕ) (size : n ≡ get_or sizes d 0) where
  abbrev row : ℕ → Row
  row e = row_at given children firsts sizes e

  pub rows_differ : (m : ℕ) → m ≡ get_or sizes e 0 → (m ≡ n → ⊥) → false ≡ same (row d) (row e)
  rows_differ m q h = ways (same (row d) (row e)) refl
    where
      ways : (t : Bool) → same (row d) (row e) ≡ t → false ≡ t
      ways true s =
          absurd
          (h
          (q ∙ sym (row_length given children firsts sizes e) ∙ sym (ap length (same_true (row d) (row e) s)) ∙ row_length given children firsts sizes d ∙ sym size))
      ways false s = refl

  module _ (m : ℕ) (size' : m ≡ get_or sizes e 0) (even : m ≡ n) where
    same_rows : same (row d) (row e) ≡ same (from (slot_at given children firsts sizes d) 0 n) (from (slot_at given children firsts sizes e) 0 n)
    same_rows =
        let q : get_or sizes e 0 ≡ n = sym size' ∙ even in
        rw (row_from given children firsts sizes d, row_from given children firsts sizes e, q, ← size)

    pub rows_unlike :
        (i : ℕ) → i < n → (x y : ℕ) → x ≡ slot_at given children firsts sizes d i → y ≡ slot_at given children firsts sizes e i → (y ≡ x → ⊥) →
        false ≡ same (row d) (row e)
    rows_unlike i less x y a b h =
        matched_not (slot_at given children firsts sizes d) (slot_at given children firsts sizes e) n i less x y a b h ∙ sym same_rows

    pub rows_alike :
        (i : ℕ) → Matching (slot_at given children firsts sizes d) (slot_at given children firsts sizes e) n i → n ≤ i → true ≡ same (row d) (row e)
    rows_alike i h less = matched_all (slot_at given children firsts sizes d) (slot_at given children firsts sizes e) n i h less ∙ sym same_rows
