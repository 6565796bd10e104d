-- Slots and rows written one behind the other, and answers. Assumes nothing.
use mathlib.Core.List.{List, [], ◌∷◌, ◌++◌, map, append_assoc, append-nil}
use mathlib.Core.Path.{◌≡◌, refl, sym, ap, subst, ◌∙◌}
use Prim.Native.Nat.{ℕ, zero, suc, ◌+◌, ◌-◌, ◌*◌, ◌≤◌, ◌<◌}
use native.Mathlib.Numerals.{add-one}
use native.Mathlib.Omega.{arith}
use lib.ListN.{length, get_or, set, length-append}
use lib.Seq.{paste, paste-suc}
use Rattle.definition.specs.Basics.{from, concat}
use Rattle.definition.specs.Bytes.{be2}
use Rattle.definition.specs.Shapes.{bootstrap_shape, write_fields}
use Rattle.definition.specs.Run.{row_bytes, overwrite}
use Rattle.facts.proofs.Chunks.{length_from, from-same, from-snoc}
use Rattle.raw_const.specs.Entries.{Wrote}
use Rattle.raw_const.proofs.Writes.{wrote_then, wrote_nothing, wrote_short}
use Rattle.store.specs.Store.{Store, size}
use Rattle.store.specs.Regions.{GIVEN, FIRSTS, SIZES, CHILDREN, NODES}
use Rattle.store.specs.Words.{child_slot}
use Rattle.output.specs.Contents.{child_count}
use Rattle.output.specs.Rows.{slots_from, row_in, Slotted, RowReady}
use Rattle.output.proofs.Pools.{paste-first}

-- SHORTS

abbrev pub shorts : List ℕ → List ℕ
shorts l = concat (map be2 l)

shorts_snoc : (l : List ℕ) (x : ℕ) → shorts (l ++ x ∷ []) ≡ shorts l ++ be2 x
unfolding concat
shorts_snoc [] x = append-nil (be2 x)
shorts_snoc (y ∷ l) x = ap (λ r. be2 y ++ r) (shorts_snoc l x) ∙ sym (append_assoc (be2 y) (shorts l) (be2 x))

pub shorts_length : (l : List ℕ) → length (shorts l) ≡ 2 * length l
unfolding concat be2
shorts_length [] = refl
shorts_length (x ∷ l) = omega (arith, shorts_length l)

module _ (given children : List ℕ) (first : ℕ) where
  pub slots_length : (n : ℕ) → length (shorts (slots_from given children first n)) ≡ 2 * n
  slots_length n =
      shorts_length (slots_from given children first n)
      ∙ ap (λ k. 2 * k) (length_from (λ i. child_slot given (get_or children (first + i) 0)) 0 n)

  pub slots-none : (d : List ℕ) (at : ℕ) → Wrote d at (shorts (slots_from given children first 0)) d at
  unfolding concat from
  slots-none d at = wrote_nothing d at

  -- one more
  pub slots-more :
      (i x : ℕ) {d d₁ d₂ : List ℕ} {at m : ℕ} → at + 2 * i ≤ length d → x ≡ child_slot given (get_or children (first + i) 0) →
      Wrote d at (shorts (slots_from given children first i)) d₁ m → d₂ ≡ paste d₁ m (be2 x) 2 →
      Wrote d at (shorts (slots_from given children first (i + 1))) d₂ (m + 2)
  slots-more i x {d} {d₁} {at = at} {m = m} room is before new =
      let z : 0 + i ≡ i = omega arith in
      let more : slots_from given children first (i + 1) ≡ slots_from given children first i ++ child_slot given (get_or children (first + i) 0) ∷ [] =
      rw z at (from-snoc (λ i. child_slot given (get_or children (first + i) 0)) 0 i) in
      rw (more, shorts_snoc (slots_from given children first i) (child_slot given (get_or children (first + i) 0)), ← is)
      (wrote_then before (omega (arith, slots_length i)) (wrote_short d₁ m x new))

-- A ROW

row_bytes_lem : (x : ℕ) (l : List ℕ) → row_bytes (x ∷ l) ≡ be2 x ++ be2 (length l) ++ shorts l
unfolding row_bytes bootstrap_shape write_fields be2
row_bytes_lem x l = rw append-nil

from-shift : (f : ℕ → ℕ) (a n : ℕ) → from f (suc a) n ≡ from (λ i. f (suc i)) a n
unfolding from
from-shift f a zero = refl
from-shift f a (suc n) = ap (λ l. f (suc a) ∷ l) (from-shift f (suc a) n)

first_slot : (given children : List ℕ) (first : ℕ) → shorts (slots_from given children first 1) ≡ be2 (child_slot given (get_or children (first + 0) 0))
unfolding concat from
first_slot given children first = append-nil (be2 (child_slot given (get_or children (first + 0) 0)))

slots-row :
    (given children : List ℕ) (first n : ℕ) →
    row_bytes (slots_from given children first (suc n)) ≡ (shorts (slots_from given children first 1) ++ be2 n) ++ shorts (slots_from given children (first + 1) n)
unfolding from
slots-row given children first n =
    let g : ℕ → ℕ = λ i. child_slot given (get_or children (first + i) 0) in
    let long : length (from g 1 n) ≡ n = length_from g 1 n in
    let rest : from g 1 n ≡ slots_from given children (first + 1) n =
    from-shift g 0 n
    ∙ from-same (λ i. g (suc i)) (λ i. child_slot given (get_or children (first + 1 + i) 0)) 0 n
    (λ i a b. let e : first + suc i ≡ first + 1 + i = omega arith in ap (λ k. child_slot given (get_or children k 0)) e) in
    row_bytes_lem (g 0) (from g 1 n) ∙ rw (long, rest, first_slot given children first)

module _ (p : List ℕ) (t : Store) (k : ℕ) (ready : RowReady p t k) (first n : ℕ) (first_is : first ≡ get_or (t FIRSTS) (get_or (t NODES) k 0) 0) (size_is : n ≡ child_count (t SIZES) (t NODES) k) where
  abbrev pub handle : List ℕ
  handle = shorts (slots_from (t GIVEN) (t CHILDREN) first 1)

  abbrev pub arguments : List ℕ
  arguments = shorts (slots_from (t GIVEN) (t CHILDREN) (first + 1) (n - 1))

  pub row_is : row_bytes (row_in t k) ≡ (handle ++ be2 (n - 1)) ++ arguments
  row_is =
      let e : suc (n - 1) ≡ child_count (t SIZES) (t NODES) k = omega (arith, ready.some) in
      subst (λ m. row_bytes (slots_from (t GIVEN) (t CHILDREN) (get_or (t FIRSTS) (get_or (t NODES) k 0) 0) m) ≡ (handle ++ be2 (n - 1)) ++ arguments) e
      (rw (← first_is) (slots-row (t GIVEN) (t CHILDREN) first (n - 1)))

  pub row_long : length (row_bytes (row_in t k)) ≡ 4 + 2 * (n - 1)
  unfolding be2
  row_long =
      ap length row_is
      ∙ (let a = length-append (handle ++ be2 (n - 1)) arguments in
      let b = length-append handle (be2 (n - 1)) in
      omega (arith, a, b, slots_length (t GIVEN) (t CHILDREN) first 1, slots_length (t GIVEN) (t CHILDREN) (first + 1) (n - 1)))

  pub handle_asks : (first + 1 ≤ size p CHILDREN) × ((i : ℕ) → i < 1 → Slotted p (t GIVEN) (get_or (t CHILDREN) (first + i) 0))
  handle_asks =
      (omega (arith, ready.room, ready.some), λ i h. rw first_is (ready.kids i (omega (arith, ready.some))))

  pub arguments-ask : (first + 1 + (n - 1) ≤ size p CHILDREN) × ((i : ℕ) → i < n - 1 → Slotted p (t GIVEN) (get_or (t CHILDREN) (first + 1 + i) 0))
  arguments-ask = (
    omega (arith, ready.room, ready.some),
    λ i h.
        let e : first + 1 + i ≡ get_or (t FIRSTS) (get_or (t NODES) k 0) 0 + (1 + i) = omega arith in
        rw e (ready.kids (1 + i) (omega arith)),
  )

  pub wrote_row :
      {d d₁ d₂ d₃ : List ℕ} {at b r : ℕ} → at + length (row_bytes (row_in t k)) ≤ length d →
      Wrote d at handle d₁ b → d₂ ≡ paste d₁ b (be2 (n - 1)) 2 → Wrote d₂ (b + 2) arguments d₃ r → Wrote d at (row_bytes (row_in t k)) d₃ r
  unfolding be2
  wrote_row {d} {d₁} {at = at} {b} room one two three =
      let h = slots_length (t GIVEN) (t CHILDREN) first 1 in
      let l = length-append handle (be2 (n - 1)) in
      rw row_is
      (wrote_then (wrote_then one (omega (arith, row_long, h)) (wrote_short d₁ b (n - 1) two)) (omega (arith, row_long, h, l)) three)

-- ANSWERS

pub answers_next :
    (d l : List ℕ) (i : ℕ) (now : List ℕ) (x : ℕ) → i < length d → i < length l → now ≡ paste d 0 l i → x ≡ get_or l i 0 → set now i x ≡ paste d 0 l (i + 1)
answers_next d l i now x a b is e =
    let z : 0 + i ≡ i = omega arith in
    rw (is, e, add-one i) (subst (λ k. set (paste d 0 l i) k (get_or l i 0) ≡ paste d 0 l (suc i)) z (paste-suc d 0 l i 0 (omega arith) b))

pub answers_end : (d l : List ℕ) (i : ℕ) (now : List ℕ) → i ≡ length l → now ≡ paste d 0 l i → now ≡ overwrite l d
answers_end d l i now e is = is ∙ ap (paste d 0 l) e ∙ paste-first d l
