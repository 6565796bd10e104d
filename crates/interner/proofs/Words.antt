-- Literals of four or eight bytes by their words: their hash, and their comparison. Assumes nothing.
use mathlib.Core.Bool.{Bool, true, false, cond}
use mathlib.Core.List.{List, [], ◌∷◌, ◌++◌}
use mathlib.Core.Logic.{⊎_elim}
use mathlib.Core.Path.{◌≡◌, refl, sym, ap, ◌∙◌}
use Prim.Native.Nat.{ℕ, zero, suc, ◌+◌, ◌*◌, ◌-◌, ◌/◌, ◌%◌, ◌≤◌, ◌<◌}
use native.Mathlib.Omega.{arith}
use lib.Dec.{eqb}
use lib.ListN.{length, take, drop, get_or}
use lib.Seq.{drop-drop, take-take}
use borrow.Author.Tests.{eqb-true, eq-eqb}
use Rattle.definition.specs.Basics.{same}
use Rattle.definition.specs.Bytes.{be4}
use Rattle.definition.specs.Shapes.{is_wide}
use Rattle.facts.proofs.Lists.{equal, tests_agree, same_true, same_refl}
use Rattle.laws.specs.Statements.{IsBytes}
use Rattle.writer.specs.Numbers.{number4}
use Rattle.writer.proofs.Laws.{be4-number}
use Rattle.job.specs.declared.Stretch.{Stretch}
use Rattle.job.specs.Stored.{Spans, EntryStands, WhatEntry, is_worked}
use Rattle.store.specs.Store.{IsWord}
use Rattle.store.specs.Chains.{mixed}
use Rattle.store.specs.Entries.{WordsAt}
use Rattle.store.specs.Words.{number_bytes}
use Rattle.job.proofs.Standing.{text_plain as text_there}
use Rattle.store.proofs.Worked.{worked-wide, worked_narrow}
use Rattle.interner.specs.Nodes.{hash_rest, hash_bytes}
use Rattle.interner.proofs.Runs.{spans_long}

-- BYTES OF WORDS

half_back : (n : ℕ) → n < 65536 → 256 * (n / 256 % 256) + n % 256 ≡ n
half_back n h = omega arith

word_back : (a : ℕ) → IsWord a → 65536 * (256 * (a / 16777216 % 256) + a / 65536 % 256) + (256 * (a / 256 % 256) + a % 256) ≡ a
word_back a h =
    let first : a / 65536 / 256 % 256 ≡ a / 16777216 % 256 = omega arith in
    let third : a % 65536 / 256 % 256 ≡ a / 256 % 256 = omega arith in
    let fourth : a % 65536 % 256 ≡ a % 256 = omega arith in
    let high = half_back (a / 65536) (omega arith) in
    let low = half_back (a % 65536) (omega arith) in
    let all : 65536 * (a / 65536) + a % 65536 ≡ a = omega arith in
    rw (first, third, fourth) at (ap (λ n. 65536 * n + (256 * (a % 65536 / 256 % 256) + a % 65536 % 256)) high ∙ ap (λ n. 65536 * (a / 65536) + n) low ∙ all)

words_equal : (a b : ℕ) → IsWord a → IsWord b → be4 a ≡ be4 b → a ≡ b
unfolding be4
words_equal a b h g e =
    sym (word_back a h)
    ∙ ap (λ l. 65536 * (256 * get_or l 0 0 + get_or l 1 0) + (256 * get_or l 2 0 + get_or l 3 0)) e
    ∙ word_back b g

hash_narrow : (seed a : ℕ) → IsWord a → hash_bytes seed (be4 a) ≡ mixed (mixed seed 4) a
unfolding hash_bytes hash_rest be4
hash_narrow seed a h = ap (mixed (mixed seed 4)) (word_back a h)

hash_wide : (seed a b : ℕ) → IsWord a → IsWord b → hash_bytes seed (be4 a ++ be4 b) ≡ mixed (mixed (mixed seed 8) a) b
unfolding hash_bytes hash_rest be4
hash_wide seed a b h g = ap (mixed (mixed (mixed seed 8) (65536 * (256 * (a / 16777216 % 256) + a / 65536 % 256) + (256 * (a / 256 % 256) + a % 256)))) (word_back b g) ∙ ap (λ n. mixed (mixed (mixed seed 8) n) b) (word_back a h)

-- four bytes of a literal, behind i times four
abbrev pub part : List ℕ → ℕ → List ℕ
part l i = take 4 (drop (4 * i) l)

whole_four : (l : List ℕ) → length l ≡ 4 → part l 0 ≡ l
whole_four (a ∷ b ∷ c ∷ d ∷ []) h = refl
whole_four [] h = absurd (omega arith)
whole_four (a ∷ []) h = absurd (omega arith)
whole_four (a ∷ b ∷ []) h = absurd (omega arith)
whole_four (a ∷ b ∷ c ∷ []) h = absurd (omega arith)
whole_four (a ∷ b ∷ c ∷ d ∷ e ∷ l) h = absurd (omega arith)

whole-eight : (l : List ℕ) → length l ≡ 8 → part l 0 ++ part l 1 ≡ l
whole-eight (a ∷ b ∷ c ∷ d ∷ l) h = ap (λ m. a ∷ b ∷ c ∷ d ∷ m) (whole_four l (omega arith))
whole-eight [] h = absurd (omega arith)
whole-eight (a ∷ []) h = absurd (omega arith)
whole-eight (a ∷ b ∷ []) h = absurd (omega arith)
whole-eight (a ∷ b ∷ c ∷ []) h = absurd (omega arith)

-- THE COMPARISON

sizes_unlike : (x y : List ℕ) → (length y ≡ length x → ⊥) → false ≡ same x y
sizes_unlike x y f = ways (same x y) refl
  where
    ways : (t : Bool) → same x y ≡ t → false ≡ t
    ways true h = absurd (f (ap length (sym (same_true x y h))))
    ways false h = refl

module _ (x y : List ℕ) (a b : ℕ) (first : part x 0 ≡ be4 a) (first' : part y 0 ≡ be4 b) (sa : IsWord a) (sb : IsWord b) where
  firsts_unlike : (a ≡ b → ⊥) → false ≡ same x y
  firsts_unlike f = ways (same x y) refl
    where
      ways : (t : Bool) → same x y ≡ t → false ≡ t
      ways true h = absurd (f (words_equal a b sa sb (sym first ∙ ap (λ l. part l 0) (same_true x y h) ∙ first')))
      ways false h = refl

  four-alike : length x ≡ 4 → length y ≡ 4 → a ≡ b → true ≡ same x y
  four-alike l m e =
      let q : x ≡ y = sym (whole_four x l) ∙ first ∙ ap be4 e ∙ sym first' ∙ whole_four y m in
      rw q (sym (same_refl y))

  eight-alike : length x ≡ 8 → length y ≡ 8 → a ≡ b → (c d : ℕ) → part x 1 ≡ be4 c → part y 1 ≡ be4 d → IsWord c → IsWord d → eqb c d ≡ same x y
  eight-alike l m e c d second second' sc sd =
      tests_agree (eqb c d) (same x y)
      (λ h.
      let q : c ≡ d = eqb-true c d h in
      let z : x ≡ y = sym (whole-eight x l) ∙ ap (λ n. n ++ part x 1) (first ∙ ap be4 e ∙ sym first') ∙ ap (λ n. part y 0 ++ n) (second ∙ ap be4 q ∙ sym second') ∙ whole-eight y m in
      rw z (same_refl y))
      (λ h. eq-eqb c d (words_equal c d sc sd (sym second ∙ ap (λ l. part l 1) (same_true x y h) ∙ second')))

pub same-sym : (x y : List ℕ) → same x y ≡ same y x
same-sym x y = tests_agree (same x y) (same y x) (λ h. rw (same_true x y h) (same_refl y)) (λ h. rw (same_true y x h) (same_refl x))

-- AT A PLACE

pub stands_inside : (s : List ℕ) (at : ℕ) → EntryStands s at → at < length s
stands_inside s at h = omega (arith, h.2.past, h.2.within)

-- a text was not worked out
pub text_plain : (s : List ℕ) (at tag : ℕ) → WhatEntry s at (λ x. tag ≡ x.tag) → EntryStands s at → tag ≡ 1 → is_worked s at ≡ false
text_plain s at tag is h text = text_there s at h.0 h.1 h.2 (sym (is h.0 h.1 h.2) ∙ text)

-- the size of a literal that was worked out, as the code asks
module _ (s : List ℕ) (at tag : ℕ) (is : WhatEntry s at (λ x. tag ≡ x.tag)) (worked : is_worked s at ≡ true) where
  pub size-wide : is_wide tag ≡ true → WhatEntry s at (λ x. 8 ≡ length x.literal)
  size-wide wide x next f = sym (worked-wide s at x next f worked (ap is_wide (sym (is x next f)) ∙ wide))

  pub size-narrow : is_wide tag ≡ false → WhatEntry s at (λ x. 4 ≡ length x.literal)
  size-narrow narrow x next f = sym (worked_narrow s at x next f worked (ap is_wide (sym (is x next f)) ∙ narrow))

  -- its hash
  module _ (values : List ℕ) (words : WordsAt s values at) (a : ℕ) (first : a ≡ get_or values (at / 3) 0) (sa : IsWord a) where
    pub hash_two :
        is_wide tag ≡ true → (b : ℕ) → b ≡ get_or values (at / 3 + 1) 0 → IsWord b → (r : ℕ) → r ≡ mixed (mixed (mixed tag 8) a) b →
        WhatEntry s at (λ x. r ≡ hash_bytes x.tag x.literal)
    unfolding number_bytes
    hash_two wide b second sb r e x next f =
        let w : is_wide x.tag ≡ true = ap is_wide (sym (is x next f)) ∙ wide in
        let l : be4 a ++ be4 b ≡ x.literal = rw (first, second) (rw (w, number_bytes) at (words worked x next f)) in
        e ∙ sym (hash_wide tag a b sa sb) ∙ ap (λ l. hash_bytes tag l) l ∙ ap (λ k. hash_bytes k x.literal) (is x next f)

    pub hash_one : is_wide tag ≡ false → (r : ℕ) → r ≡ mixed (mixed tag 4) a → WhatEntry s at (λ x. r ≡ hash_bytes x.tag x.literal)
    unfolding number_bytes
    hash_one narrow r e x next f =
        let w : is_wide x.tag ≡ false = ap is_wide (sym (is x next f)) ∙ narrow in
        let l : be4 a ≡ x.literal = rw first (rw (w, number_bytes) at (words worked x next f)) in
        e ∙ sym (hash_narrow tag a sa) ∙ ap (λ l. hash_bytes tag l) l ∙ ap (λ k. hash_bytes k x.literal) (is x next f)

-- a word of a literal: as it is kept, or as it is read
four-first : (a : ℕ) (l : List ℕ) → part (be4 a ++ l) 0 ≡ be4 a
unfolding be4
four-first a l = refl

four-only : (a : ℕ) → part (be4 a) 0 ≡ be4 a
unfolding be4
four-only a = refl

four-second : (a b : ℕ) → part (be4 a ++ be4 b) 1 ≡ be4 b
unfolding be4
four-second a b = refl

four-long : (a : ℕ) → length (be4 a) ≡ 4
unfolding be4
four-long a = refl

part_run : (m n : ℕ) (l : List ℕ) → m + 4 ≤ n → take 4 (drop m (take n l)) ≡ take 4 (drop m l)
part_run zero n l h = take-take 4 n l (omega arith)
part_run (suc m) zero l h = absurd (omega arith)
part_run (suc m) (suc n) [] h = refl
part_run (suc m) (suc n) (x ∷ l) h = part_run m n l (omega arith)

module _ (s : List ℕ) (at i : ℕ) (low : i < 2) (room : WhatEntry s at (λ x. 4 * i + 4 ≤ length x.literal)) where
  pub kept_word :
      (values : List ℕ) → WordsAt s values at → is_worked s at ≡ true → (r : ℕ) → r ≡ get_or values (at / 3 + i) 0 →
      WhatEntry s at (λ x. part x.literal i ≡ be4 r)
  unfolding number_bytes
  kept_word values words worked r e x next f = ways (is_wide x.tag) refl
    where
      first : i ≡ 0 → be4 (get_or values (at / 3) 0) ≡ be4 r
      first z = let q : at / 3 + i ≡ at / 3 = omega arith in ap be4 (ap (λ j. get_or values j 0) (sym q) ∙ sym e)

      ways : (b : Bool) → is_wide x.tag ≡ b → part x.literal i ≡ be4 r
      ways true w =
          let l = rw (w, number_bytes) at (words worked x next f) in
          ⊎_elim
          (λ (z : i ≡ 0). ap (λ j. part x.literal j) z ∙ ap (λ l. part l 0) (sym l) ∙ four-first _ _ ∙ first z)
          (λ (n : i ≡ 0 → ⊥).
          let z : i ≡ 1 = omega arith in
          ap (λ j. part x.literal j) z ∙ ap (λ l. part l 1) (sym l) ∙ four-second _ _ ∙ ap be4 (ap (λ j. get_or values (at / 3 + j) 0) (sym z) ∙ sym e))
          (equal i 0)
      ways false w =
          let l = rw (w, number_bytes) at (words worked x next f) in
          let z : i ≡ 0 = omega (arith, room x next f, ap length l, four-long (get_or values (at / 3) 0)) in
          ap (λ j. part x.literal j) z ∙ ap (λ l. part l 0) (sym l) ∙ four-only _ ∙ first z

  module _ (a : Stretch) (there : WhatEntry s at (λ x. Spans s a x.literal)) where
    pub read_room : EntryStands s at → a.start + 4 * i + 4 ≤ length s
    read_room h =
        let a = there h.0 h.1 h.2 in
        omega (arith, room h.0 h.1 h.2, spans_long s _ h.0.literal a, a.rising, a.within)

    pub read_word : IsBytes s → (r : ℕ) → r ≡ number4 s (a.start + 4 * i) → WhatEntry s at (λ x. part x.literal i ≡ be4 r)
    read_word bytes r e x next f =
        let h = there x next f in
        let n = a.end - a.start in
        let l = spans_long s a x.literal h in
        ap (λ l. part l i) (sym h.are)
        ∙ part_run (4 * i) n (drop a.start s) (omega (arith, room x next f))
        ∙ ap (take 4) (drop-drop (4 * i) a.start s)
        ∙ be4-number s bytes (a.start + 4 * i) (omega (arith, room x next f, h.rising, h.within))
        ∙ ap be4 (sym e)

-- a literal that was worked out has four bytes or eight
module _ (s : List ℕ) (at n : ℕ) (size : WhatEntry s at (λ x. n ≡ length x.literal)) (h : EntryStands s at) (worked : is_worked s at ≡ true) where
  long : (b : Bool) → is_wide h.0.tag ≡ b → n ≡ cond b 8 4
  long true w = size h.0 h.1 h.2 ∙ worked-wide s at h.0 h.1 h.2 worked w
  long false w = size h.0 h.1 h.2 ∙ worked_narrow s at h.0 h.1 h.2 worked w

  pub four-least : 4 ≤ n
  four-least = ways (is_wide h.0.tag) refl
    where
      ways : (b : Bool) → is_wide h.0.tag ≡ b → 4 ≤ n
      ways true w = omega (arith, long true w)
      ways false w = omega (arith, long false w)

  pub eight_is : (n ≡ 4 → ⊥) → n ≡ 8
  eight_is f = ways (is_wide h.0.tag) refl
    where
      ways : (b : Bool) → is_wide h.0.tag ≡ b → n ≡ 8
      ways true w = long true w
      ways false w = absurd (f (long false w))

-- two literals of which the first was worked out
module _ (s : List ℕ) (at other m n : ℕ) (size : WhatEntry s at (λ x. n ≡ length x.literal)) (size' : WhatEntry s other (λ y. m ≡ length y.literal)) where
  pub sizes_differ : (m ≡ n → ⊥) → WhatEntry s at (λ x. WhatEntry s other (λ y. false ≡ same x.literal y.literal))
  sizes_differ f x next g y next' h = sizes_unlike x.literal y.literal (λ e. f (size' y next' h ∙ e ∙ sym (size x next g)))

  module _ (a b : ℕ) (first : WhatEntry s at (λ x. part x.literal 0 ≡ be4 a)) (first' : WhatEntry s other (λ y. part y.literal 0 ≡ be4 b)) (sa : IsWord a) (sb : IsWord b) where
    pub firsts_differ : (a ≡ b → ⊥) → WhatEntry s at (λ x. WhatEntry s other (λ y. false ≡ same x.literal y.literal))
    firsts_differ f x next g y next' h = firsts_unlike x.literal y.literal a b (first x next g) (first' y next' h) sa sb f

    module _ (even : m ≡ n) (one : a ≡ b) where
      pub one_same : n ≡ 4 → WhatEntry s at (λ x. WhatEntry s other (λ y. true ≡ same x.literal y.literal))
      one_same e x next g y next' h =
          four-alike x.literal y.literal a b (first x next g) (first' y next' h) sa sb (sym (size x next g) ∙ e) (sym (size' y next' h) ∙ even ∙ e) one

      pub two-same :
          n ≡ 8 → (c d : ℕ) → WhatEntry s at (λ x. part x.literal 1 ≡ be4 c) → WhatEntry s other (λ y. part y.literal 1 ≡ be4 d) → IsWord c → IsWord d →
          WhatEntry s at (λ x. WhatEntry s other (λ y. eqb c d ≡ same x.literal y.literal))
      two-same e c d second second' sc sd x next g y next' h =
          eight-alike x.literal y.literal a b (first x next g) (first' y next' h) sa sb (sym (size x next g) ∙ e) (sym (size' y next' h) ∙ even ∙ e) one c d
          (second x next g) (second' y next' h) sc sd
