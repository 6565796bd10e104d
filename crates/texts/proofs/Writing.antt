-- The two walks over units, which measure their text and write it, and the two ends of writing one. Assumes nothing.
use mathlib.Core.List.{List, [], ◌∷◌}
use mathlib.Core.Logic.{◌⊎◌, inl, inr}
use mathlib.Core.Path.{◌≡◌, refl, sym, ap, ◌∙◌}
use Prim.Native.Nat.{ℕ, suc, ◌+◌, ◌<◌, ◌≤◌}
use native.Mathlib.Numerals.{add-one}
use native.Mathlib.Omega.{arith}
use borrow.Author.Tests.{le-leb, lt-leb}
use lib.Dec.{leb}
use lib.ListN.{length, get_or, set, take, drop, length-append}
use lib.Seq.{paste, drop-cons, drop-length, take-length, sets-eq}
use Rattle.definition.specs.Basics.{good, bad}
use Rattle.definition.specs.Run.{overwrite}
use Rattle.definition.specs.Texts.{unit_bytes, text_of, write_text}
use Rattle.facts.proofs.Copies.{overwrite-more}
use Rattle.facts.proofs.Lists.{clash, order}
use Rattle.facts.proofs.Results.{passes, refuses, bad≢good, good_inj}
use Rattle.texts.specs.Answers.{length_of}
use Rattle.texts.specs.Forms.{in_two, in_three}
use Rattle.laws.proofs.Texts.UnitsWritten.{one_byte, two-of_zero, two_bytes, three_bytes, sized, text_cons, text_none, text_split, text_snoc}

-- A FORM BY ITS SIZE

module _ (n : ℕ) where
  pub size-zero : n ≡ 0 → 2 ≡ length (unit_bytes n)
  size-zero e = sym (ap length (two-of_zero n e))

  pub size-one : (n ≡ 0 → ⊥) → n < 0x80 → 1 ≡ length (unit_bytes n)
  size-one some l = sym (ap length (one_byte n (omega arith) l))

  pub size-two : 0x80 ≤ n → n < 0x800 → 2 ≡ length (unit_bytes n)
  size-two l h = sym (ap length (two_bytes n l h))

  pub size-three : 0x800 ≤ n → 3 ≡ length (unit_bytes n)
  size-three l = sym (ap length (three_bytes n l))

  pub of_one : length (unit_bytes n) ≡ 1 → (n < 0x80) × (unit_bytes n ≡ n ∷ [])
  of_one s =
      sized n
      (λ l h e. (h, e))
      (λ h e. let k : length (unit_bytes n) ≡ 2 = ap length e in clash (omega arith))
      (λ l e. let k : length (unit_bytes n) ≡ 3 = ap length e in clash (omega arith))

  pub of_two : length (unit_bytes n) ≡ 2 → (n < 0x800) × (unit_bytes n ≡ in_two n)
  of_two s =
      sized n
      (λ l h e. let k : length (unit_bytes n) ≡ 1 = ap length e in clash (omega arith))
      (λ h e. (h, e))
      (λ l e. let k : length (unit_bytes n) ≡ 3 = ap length e in clash (omega arith))

  pub of_three : (length (unit_bytes n) ≡ 1 → ⊥) → (length (unit_bytes n) ≡ 2 → ⊥) → (length (unit_bytes n) ≡ 3) × (unit_bytes n ≡ in_three n)
  of_three s t = sized n (λ l h e. absurd (s (ap length e))) (λ h e. absurd (t (ap length e))) (λ l e. (ap length e, e))

-- stores are a copy of as many bytes
module _ (d : List ℕ) (at : ℕ) where
  pub put_one : (a : ℕ) → at + 1 ≤ length d → set d at a ≡ paste d at (a ∷ []) 1
  put_one a room = sets-eq (a ∷ []) d at room

  pub stores_two : (a b : ℕ) → at + 2 ≤ length d → set (set d at a) (at + 1) b ≡ paste d at (a ∷ b ∷ []) 2
  stores_two a b room = ap (λ k. set (set d at a) k b) (add-one at) ∙ sets-eq (a ∷ b ∷ []) d at room

  pub stores_three : (a b c : ℕ) → at + 3 ≤ length d → set (set (set d at a) (at + 1) b) (at + 2) c ≡ paste d at (a ∷ b ∷ c ∷ []) 3
  stores_three a b c room =
      let second : at + 1 ≡ suc at = omega arith in
      let third : at + 2 ≡ suc (suc at) = omega arith in
      ap (λ k. set (set (set d at a) k b) (at + 2) c) second
      ∙ ap (λ k. set (set (set d at a) (suc at) b) k c) third
      ∙ sets-eq (a ∷ b ∷ c ∷ []) d at room

  -- the bytes copied are the unit's form
  pub form-put :
      (after form bytes : List ℕ) (n : ℕ) → after ≡ paste d at bytes n → form ≡ bytes → length form ≡ n →
      (at + n ≡ at + length form) × (after ≡ paste d at form (length form))
  form-put after form bytes n e is size = (ap (λ k. at + k) (sym size), e ∙ (λ i. paste d at (sym is i) (sym size i)))

-- MEASURING

pub measure_next :
    (l : List ℕ) (i : ℕ) → i < length l →
    length (text_of (drop i l)) ≡ length (unit_bytes (get_or l i 0)) + length (text_of (drop (i + 1) l))
measure_next l i inside =
    let u = get_or l i 0 in
    ap (λ t. length (text_of t)) (drop-cons l i 0 inside)
    ∙ ap length (text_cons u (drop (suc i) l))
    ∙ length-append (unit_bytes u) (text_of (drop (suc i) l))
    ∙ ap (λ k. length (unit_bytes u) + length (text_of (drop k l))) (sym (add-one i))

pub measure_end : (l : List ℕ) (i : ℕ) → i ≡ length l → length (text_of (drop i l)) ≡ 0
measure_end l i e = ap (λ k. length (text_of (drop k l))) e ∙ ap (λ t. length (text_of t)) (drop-length l) ∙ ap length text_none

-- WRITING

module _ (l d : List ℕ) (i : ℕ) where
  -- there is room for one form more
  pub put-room : i < length l → length (text_of l) ≤ length d → length (text_of (take i l)) + length (unit_bytes (get_or l i 0)) ≤ length d
  put-room inside room = let s = text_split l i in let m = measure_next l i inside in omega arith

  pub put-more :
      i < length l →
      paste (overwrite (text_of (take i l)) d) (length (text_of (take i l))) (unit_bytes (get_or l i 0)) (length (unit_bytes (get_or l i 0)))
      ≡ overwrite (text_of (take (i + 1) l)) d
  put-more inside =
      overwrite-more (text_of (take i l)) (unit_bytes (get_or l i 0)) d (length (text_of (take i l))) (length (unit_bytes (get_or l i 0))) refl refl
      ∙ ap (λ t. overwrite t d) (sym (text_snoc l i inside))

  pub put-size : i < length l → length (text_of (take i l)) + length (unit_bytes (get_or l i 0)) ≡ length (text_of (take (i + 1) l))
  put-size inside =
      sym (ap length (text_snoc l i inside) ∙ length-append (text_of (take i l)) (unit_bytes (get_or l i 0)))

  pub put_all : i ≡ length l → overwrite (text_of (take i l)) d ≡ overwrite (text_of l) d
  put_all e = ap (λ k. overwrite (text_of (take k l)) d) e ∙ ap (λ t. overwrite (text_of t) d) (take-length l)

pub put-none : (l d : List ℕ) → d ≡ overwrite (text_of (take 0 l)) d
unfolding overwrite
put-none l d = sym (ap (λ t. overwrite t d) text_none)

pub size_none : (l : List ℕ) → 0 ≡ length (text_of (take 0 l))
size_none l = sym (ap length text_none)

-- THE ENDS

module _ (room : ℕ) (l : List ℕ) where
  pub write_narrow : room < length (text_of l) → write_text room l ≡ bad (record { code = 18; place = 0 })
  unfolding write_text
  write_narrow narrow = refuses 0 18 (good (text_of l)) (leb (length (text_of l)) room) (lt-leb (length (text_of l)) room narrow)

  pub write_good : length (text_of l) ≤ room → write_text room l ≡ good (text_of l)
  unfolding write_text
  write_good fits = passes 0 18 (good (text_of l)) (leb (length (text_of l)) room) (le-leb (length (text_of l)) room fits)

  -- what measuring answers
  pub measure_narrow : room < length (text_of l) → bad (record { code = 18; place = 0 }) ≡ length_of (write_text room l)
  unfolding length_of
  measure_narrow narrow = sym (ap length_of (write_narrow narrow))

  pub measured : (size : ℕ) → length (text_of l) ≡ size → size ≤ room → good size ≡ length_of (write_text room l)
  unfolding length_of
  measured size e fits = ap good (sym e) ∙ sym (ap length_of (write_good (omega arith)))

  -- and what it says, once it answered
  pub measured_fits : (size : ℕ) → good size ≡ length_of (write_text room l) → (length (text_of l) ≡ size) × (size ≤ room)
  unfolding length_of
  measured_fits size e = go (order room (length (text_of l)))
    where
      go : (room < length (text_of l)) ⊎ (length (text_of l) ≤ room) → (length (text_of l) ≡ size) × (size ≤ room)
      go (inl narrow) = bad≢good (sym (e ∙ sym (measure_narrow narrow)))
      go (inr fits) =
          let same : size ≡ length (text_of l) = good_inj (e ∙ ap length_of (write_good fits)) in
          (sym same, omega arith)

  pub measured_narrow : bad (record { code = 18; place = 0 }) ≡ length_of (write_text room l) → write_text room l ≡ bad (record { code = 18; place = 0 })
  unfolding length_of
  measured_narrow e = go (order room (length (text_of l)))
    where
      go : (room < length (text_of l)) ⊎ (length (text_of l) ≤ room) → write_text room l ≡ bad (record { code = 18; place = 0 })
      go (inl narrow) = write_narrow narrow
      go (inr fits) = bad≢good (e ∙ ap length_of (write_good fits))
