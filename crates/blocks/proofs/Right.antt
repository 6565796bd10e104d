-- The tests on a block, by the numbers that are read from it. Assumes nothing.
use mathlib.Core.Path.{◌≡◌, refl, sym, ap, ◌∙◌}
use mathlib.Core.Bool.{Bool, true, false, ◌&&◌, ◌||◌}
use mathlib.Core.List.{List}
use Prim.Native.Nat.{ℕ, suc, ◌+◌, ◌*◌, ◌-◌, ◌/◌, ◌%◌, ◌<◌, ◌≤◌}
use native.Mathlib.Numerals.{add-one}
use native.Mathlib.Omega.{arith}
use borrow.Author.Tests.{eqb-true, leb-true, eq-eqb, ne_eqb, le-leb, lt-leb}
use lib.Dec.{eqb, leb, ltb}
use lib.ListN.{length, get_or, take, drop, length-drop, drop_of_length-le}
use lib.Seq.{take-take, take-add, drop_at, drop-drop, drop-cons, get_or-take, get_or-drop, length-take-le}
use Rattle.definition.specs.Basics.{same, every}
use Rattle.definition.specs.Bytes.{be2, be4}
use Rattle.definition.specs.Blocks.{weighted, block_at, used_in, right_use, padding, all_zero, right_block}
use Rattle.facts.proofs.Lists.{same_coded, both_true}
use Rattle.writer.specs.Numbers.{number2, number4}
use Rattle.writer.proofs.Laws.{be4-halves, be2-number, be4-number}

back2 : (a : ℕ) → a < 65536 → number2 (be2 a) 0 ≡ a
unfolding be2
back2 a small = omega arith

back4 : (a : ℕ) → a < 4294967296 → number4 (be4 a) 0 ≡ a
unfolding be2
back4 a small =
    let high : number2 (be2 (a / 65536)) 0 ≡ a / 65536 = back2 (a / 65536) (omega arith) in
    let low : number2 (be2 (a % 65536)) 0 ≡ a % 65536 = back2 (a % 65536) (omega arith) in
    let whole : 65536 * (a / 65536) + a % 65536 ≡ a = omega arith in
    ap (λ l. number4 l 0) (sym (be4-halves a)) ∙ (λ i. 65536 * high i + low i) ∙ whole

-- the check and the number of a block, as numbers
module _ (file : List ℕ) (k : ℕ) (bytes : (i : ℕ) → get_or file i 0 < 256) (inside : 512 * k + 512 ≤ length file) where
  rest : List ℕ
  rest = drop (512 * k) file

  inside_rest : 512 ≤ length rest
  unfolding rest
  inside_rest = rw (length-drop (512 * k) file) (omega arith)

  -- the last four bytes of the block
  check_bytes : drop 508 (block_at file k) ≡ be4 (number4 file (512 * k + 508))
  unfolding block_at rest
  check_bytes =
      ap (drop 508) (take-add 508 4 rest)
      ∙ drop_at (take 508 rest) (take 4 (drop 508 rest)) 508 (length-take-le 508 rest (omega (arith, inside_rest)))
      ∙ ap (take 4) (drop-drop 508 (512 * k) file)
      ∙ be4-number file bytes (512 * k + 508) (omega arith)

  number_bytes_lem : take 2 (block_at file k) ≡ be2 (number2 file (512 * k))
  unfolding block_at rest
  number_bytes_lem = take-take 2 512 rest (omega arith) ∙ be2-number file bytes (512 * k) (omega arith)

  check_is :
      (check sum : ℕ) → sum < 4294967296 → check ≡ number4 file (512 * k + 508) →
      sum ≡ weighted 0 (take (512 * k + 508 - 512 * k) (drop (512 * k) file)) →
      same (drop 508 (block_at file k)) (be4 (weighted 0 (take 508 (block_at file k)))) ≡ eqb check sum
  unfolding block_at rest
  check_is check sum small ec es =
      let b₀ : get_or file (512 * k + 508) 0 < 256 = bytes (512 * k + 508) in
      let b₁ : get_or file (512 * k + 508 + 1) 0 < 256 = bytes (512 * k + 508 + 1) in
      let b₂ : get_or file (512 * k + 508 + 2) 0 < 256 = bytes (512 * k + 508 + 2) in
      let b₃ : get_or file (512 * k + 508 + 2 + 1) 0 < 256 = bytes (512 * k + 508 + 2 + 1) in
      let size : 512 * k + 508 - 512 * k ≡ 508 = omega arith in
      let summed : sum ≡ weighted 0 (take 508 (block_at file k)) =
      es ∙ ap (λ n. weighted 0 (take n rest)) size ∙ ap (weighted 0) (sym (take-take 508 512 rest (omega arith))) in
      (λ i. same (check_bytes i) (be4 (sym summed i)))
      ∙ ap (λ n. same (be4 n) (be4 sum)) (sym ec)
      ∙ same_coded be4 (λ l. number4 l 0) check sum (back4 check (omega arith)) (back4 sum small)

  number_is : (number : ℕ) → k < 2081 → number ≡ number2 file (512 * k) → same (take 2 (block_at file k)) (be2 k) ≡ eqb number k
  number_is number small en =
      let first : get_or file (512 * k) 0 < 256 = bytes (512 * k) in
      let second : get_or file (512 * k + 1) 0 < 256 = bytes (512 * k + 1) in
      ap (λ l. same l (be2 k)) number_bytes_lem
      ∙ ap (λ n. same (be2 n) (be2 k)) (sym en)
      ∙ same_coded be2 (λ l. number2 l 0) number k (back2 number (omega arith)) (back2 k (omega arith))

  -- the four ends of the tests on a block
  module _ (n check sum : ℕ) (small : k < 2081) (fits : sum < 4294967296) (ec : check ≡ number4 file (512 * k + 508))
      (es : sum ≡ weighted 0 (take (512 * k + 508 - 512 * k) (drop (512 * k) file))) where
    tests :
        (number : ℕ) → number ≡ number2 file (512 * k) →
        right_block n file k
        ≡ (eqb check sum && (eqb number k && (right_use (eqb n 1) (eqb (suc k) n) (used_in (block_at file k)) && all_zero (padding (block_at file k)))))
    unfolding right_block
    tests number en =
        let b = block_at file k in
        λ i. check_is check sum fits ec es i && (number_is number small en i && (right_use (eqb n 1) (eqb (suc k) n) (used_in b) && all_zero (padding b)))

    pub wrong_check : (check ≡ sum → ⊥) → false ≡ right_block n file k
    wrong_check wrong = rw (tests (number2 file (512 * k)) refl, ne_eqb check sum wrong)

    pub wrong_number : (number : ℕ) → number ≡ number2 file (512 * k) → check ≡ sum → (number ≡ k → ⊥) → false ≡ right_block n file k
    wrong_number number en right wrong = rw (tests number en, eq-eqb check sum right, ne_eqb number k wrong)

    -- check and number are right: use and padding decide
    module _ (number : ℕ) (en : number ≡ number2 file (512 * k)) (right : check ≡ sum) (right' : number ≡ k)
        (used : ℕ) (eu : used ≡ used_in (block_at file k)) where
      pub wrong_use : right_use (eqb n 1) (eqb (suc k) n) used ≡ false → false ≡ right_block n file k
      wrong_use wrong = rw (tests number en, eq-eqb check sum right, eq-eqb number k right', ← eu, wrong)

      pub as_padding : right_use (eqb n 1) (eqb (suc k) n) used ≡ true → all_zero (padding (block_at file k)) ≡ right_block n file k
      as_padding uses = rw (tests number en, eq-eqb check sum right, eq-eqb number k right', ← eu, uses)

-- the use that is read from a block
pub block_at_lem : (file : List ℕ) (k i : ℕ) → i < 512 → get_or (block_at file k) i 0 ≡ get_or file (512 * k + i) 0
unfolding block_at
block_at_lem file k i small = get_or-take 512 (drop (512 * k) file) i 0 small ∙ get_or-drop (512 * k) file i 0

pub used_is : (file : List ℕ) (k : ℕ) → number2 file (512 * k + 2) ≡ used_in (block_at file k)
unfolding used_in
used_is file k =
    let place : 512 * k + 2 + 1 ≡ 512 * k + 3 = omega arith in
    let high = block_at_lem file k 2 (omega arith) in
    let low = block_at_lem file k 3 (omega arith) in
    λ i. 256 * sym high i + (ap (λ j. get_or file j 0) place ∙ sym low) i

-- the use of a block that isn't the last, and of the last
module _ (n k used : ℕ) where
  pub use_full : k + 1 < n → eqb used 504 ≡ right_use (eqb n 1) (eqb (suc k) n) used
  unfolding right_use
  use_full more = rw (ne_eqb (suc k) n (λ e. omega arith))

  -- a right use is one of the block's 504 bytes
  pub use_fits : right_use (eqb n 1) (eqb (suc k) n) used ≡ true → used ≤ 504
  unfolding right_use
  use_fits right = go (eqb (suc k) n) right
    where
      go : (last : Bool) → right_use (eqb n 1) last used ≡ true → used ≤ 504
      go false e = omega (arith, eqb-true used 504 e)
      go true e = omega (arith, leb-true used 504 (both_true (leb used 504) (eqb n 1 || leb 1 used) e).0)

  use_last : k < n → n ≤ k + 1 → right_use (eqb n 1) (eqb (suc k) n) used ≡ (leb used 504 && (eqb n 1 || leb 1 used))
  unfolding right_use
  use_last inside last = rw (eq-eqb (suc k) n (omega arith))

  pub use_over : k < n → n ≤ k + 1 → 504 < used → false ≡ right_use (eqb n 1) (eqb (suc k) n) used
  use_over inside last over = rw (use_last inside last, lt-leb used 504 over)

  pub use_only : k < n → n ≤ k + 1 → used ≤ 504 → n ≡ 1 → true ≡ right_use (eqb n 1) (eqb (suc k) n) used
  use_only inside last fits only = rw (use_last inside last, le-leb used 504 fits, eq-eqb n 1 only)

  pub use_some : k < n → n ≤ k + 1 → used ≤ 504 → (n ≡ 1 → ⊥) → ltb 0 used ≡ right_use (eqb n 1) (eqb (suc k) n) used
  use_some inside last fits more = rw (use_last inside last, le-leb used 504 fits, ne_eqb n 1 more)

-- the loop over bytes: they are all zero exactly if what is left from i on is
module _ (bytes : List ℕ) where
  abbrev pub Rest : ℕ → Type 0
  Rest i = all_zero bytes ≡ all_zero (drop i bytes)

  rest_cons : (i : ℕ) → i < length bytes → all_zero (drop i bytes) ≡ (eqb (get_or bytes i 0) 0 && all_zero (drop (i + 1) bytes))
  unfolding all_zero every
  rest_cons i low = rw (drop-cons bytes i 0 low, add-one i)

  module _ (i : ℕ) (rest : Rest i) where
    pub rest_more : i < length bytes → get_or bytes i 0 ≡ 0 → Rest (i + 1)
    rest_more low zero = rest ∙ rw (rest_cons i low, eq-eqb (get_or bytes i 0) 0 zero)

    pub rest_not : i < length bytes → (get_or bytes i 0 ≡ 0 → ⊥) → false ≡ all_zero bytes
    rest_not low other = sym (rest ∙ rw (rest_cons i low, ne_eqb (get_or bytes i 0) 0 other))

    pub rest_none : length bytes ≤ i → true ≡ all_zero bytes
    unfolding all_zero every
    rest_none past = sym (rest ∙ rw (drop_of_length-le bytes past))

drop_of_take : (m n : ℕ) (l : List ℕ) → m ≤ length l → drop m (take (m + n) l) ≡ take n (drop m l)
drop_of_take m n l inside = ap (drop m) (take-add m n l) ∙ drop_at (take m l) (take n (drop m l)) m (length-take-le m l inside)

-- the bytes of a block's content from `used` on, in the file
content_is :
    (file : List ℕ) (k used : ℕ) → 512 * k + 512 ≤ length file → used ≤ 504 →
    take (512 * k + 4 + 504 - (512 * k + 4 + used)) (drop (512 * k + 4 + used) file) ≡ drop used (take 504 (drop 4 (block_at file k)))
unfolding block_at
content_is file k used inside fits =
    let rest = drop (512 * k) file in
    let long : 512 ≤ length rest = rw (length-drop (512 * k) file) (omega arith) in
    let size : 512 * k + 4 + 504 - (512 * k + 4 + used) ≡ 504 - used = omega arith in
    let place : 512 * k + 4 + used ≡ 512 * k + (4 + used) = omega arith in
    let whole : 504 ≡ used + (504 - used) = omega arith in
    let there : used ≤ length (drop 4 rest) = rw (length-drop 4 rest) (omega arith) in
    sym
    (ap (λ l. drop used (take 504 l)) (drop_of_take 4 508 rest (omega arith))
    ∙ ap (drop used) (take-take 504 508 (drop 4 rest) (omega arith))
    ∙ ap (λ n. drop used (take n (drop 4 rest))) whole
    ∙ drop_of_take used (504 - used) (drop 4 rest) there
    ∙ ap (take (504 - used)) (drop-drop used 4 rest ∙ drop-drop (4 + used) (512 * k) file)
    ∙ (λ i. take (sym size i) (drop (sym place i) file)))

-- the padding of a block, in the file
pub padding-is :
    (file : List ℕ) (k used : ℕ) → 512 * k + 512 ≤ length file → used ≡ used_in (block_at file k) → used ≤ 504 →
    take (512 * k + 4 + 504 - (512 * k + 4 + used)) (drop (512 * k + 4 + used) file) ≡ padding (block_at file k)
unfolding padding
padding-is file k used inside e fits = content_is file k used inside fits ∙ ap (λ n. drop n (take 504 (drop 4 (block_at file k)))) e
