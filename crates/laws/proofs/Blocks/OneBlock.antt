-- One block of a block file: its number, use, data and check, and bytes that are a block. Assumes nothing.
use mathlib.Core.Bool.{Bool, true, false, ◌||◌}
use mathlib.Core.List.{List, [], ◌∷◌, ◌++◌}
use mathlib.Core.Path.{◌≡◌, refl, sym, ap, ◌∙◌}
use Prim.Native.Nat.{ℕ, zero, suc, ◌+◌, ◌*◌, ◌/◌, ◌%◌, ◌≤◌, ◌<◌}
use native.Mathlib.Omega.{arith}
use lib.Dec.{eqb, leb}
use lib.ListN.{length, take, drop, get_or, replicate, length-append, take-append-drop}
use lib.Seq.{take_at, drop_at, take-append-le}
use borrow.Author.Tests.{eqb-true, leb-true}
use Rattle.definition.specs.Basics.{every}
use Rattle.definition.specs.Bytes.{be2, be4}
use Rattle.definition.specs.Blocks.{weighted, block, block_at, used_in, right_use, padding, all_zero, right_block, block_data}
use Rattle.facts.proofs.Lists.{both_true, same_refl}

-- what stands in front of a block's check
unfoldable pub front_of : ℕ → ℕ → List ℕ → List ℕ
front_of k used content = be2 k ++ be2 used ++ content

module _ (k used : ℕ) (content : List ℕ) where
  -- with 504 bytes of content the front has 508, then comes the check
  pub length_front : length content ≡ 504 → length (front_of k used content) ≡ 508
  unfolding front_of be2
  length_front l = rw l

  pub block-front : length content ≡ 504 → take 508 (block k used content) ≡ front_of k used content
  unfolding block front_of
  block-front l = take_at (front_of k used content) (be4 (weighted 0 (front_of k used content))) 508 (length_front l)

  pub block-check : length content ≡ 504 → drop 508 (block k used content) ≡ be4 (weighted 0 (front_of k used content))
  unfolding block front_of
  block-check l = drop_at (front_of k used content) (be4 (weighted 0 (front_of k used content))) 508 (length_front l)

  -- its first two bytes are its number, the next two its use
  pub block-number : take 2 (block k used content) ≡ be2 k
  unfolding block be2
  block-number = refl

  pub block-used : used ≤ 504 → used_in (block k used content) ≡ used
  unfolding block be2 used_in
  block-used l = omega arith

  -- it has 512 bytes
  pub length-block : length content ≡ 504 → length (block k used content) ≡ 512
  unfolding block front_of be4
  length-block l =
      length-append (front_of k used content) (be4 (weighted 0 (front_of k used content))) ∙ omega (arith, length_front l)

  -- its data are the used bytes of its content
  pub block_data_lem : length content ≡ 504 → used ≤ 504 → block_data (block k used content) ≡ take used content
  unfolding block block_data be2 front_of
  block_data_lem l u = rw (block-used u) (take-append-le used content (be4 (weighted 0 (front_of k used content))) (omega arith))

  -- its padding is the rest of its content
  pub block-padding : length content ≡ 504 → used ≤ 504 → padding (block k used content) ≡ drop used content
  unfolding block padding be2 front_of
  block-padding l u =
      rw (block-used u) (ap (drop used) (take_at content (be4 (weighted 0 (front_of k used content))) 504 l))

-- at most 504 bytes are used
pub used_most : (only last : Bool) (used : ℕ) → right_use only last used ≡ true → used ≤ 504
unfolding right_use
used_most only false used e = omega (arith, eqb-true used 504 e)
used_most only true used e = leb-true used 504 (both_true (leb used 504) (only || leb 1 used) e).0

-- 504 if the block isn't the last, and at least one if it is the last of several
pub used_full : (only last : Bool) (used : ℕ) → last ≡ false → right_use only last used ≡ true → used ≡ 504
unfolding right_use
used_full only last used l e = eqb-true used 504 (rw l at e)

pub used_some : (only last : Bool) (used : ℕ) → only ≡ false → last ≡ true → right_use only last used ≡ true → 1 ≤ used
unfolding right_use
used_some only last used o l e = leb-true 1 used (both_true (leb used 504) (leb 1 used) (rw (o, l) at e)).1

-- a file's block that is a block with its number, a right use and zeros behind it is right
pub block-right :
    (n : ℕ) (file : List ℕ) (k used : ℕ) (content : List ℕ) →
    block_at file k ≡ block k used content →
    length content ≡ 504 →
    right_use (eqb n 1) (eqb (suc k) n) used ≡ true →
    all_zero (drop used content) ≡ true →
    right_block n file k ≡ true
unfolding right_block
block-right n file k used content e l u z =
    let most = used_most (eqb n 1) (eqb (suc k) n) used u in
    rw (e, block-check k used content l, block-front k used content l, same_refl, block-number, same_refl, block-used k used content most, u, block-padding k used content l most) z

-- two bytes are the number that they make
pub be2-bytes : (a b : ℕ) → a < 256 → b < 256 → be2 (256 * a + b) ≡ a ∷ b ∷ []
unfolding be2
be2-bytes a b ha hb =
    let high : (256 * a + b) / 256 % 256 ≡ a = omega arith in
    let low : (256 * a + b) % 256 ≡ b = omega arith in
    rw (high, low)

-- bytes that begin with their number are the front of a block, as far as 508
pub front_is :
    (k : ℕ) (b : List ℕ) → 4 ≤ length b → get_or b 2 0 < 256 → get_or b 3 0 < 256 → take 2 b ≡ be2 k → front_of k (used_in b) (take 504 (drop 4 b)) ≡ take 508 b
unfolding front_of used_in
front_is k [] l x y e = absurd (omega arith)
front_is k (b₀ ∷ []) l x y e = absurd (omega arith)
front_is k (b₀ ∷ b₁ ∷ []) l x y e = absurd (omega arith)
front_is k (b₀ ∷ b₁ ∷ b₂ ∷ []) l x y e = absurd (omega arith)
front_is k (b₀ ∷ b₁ ∷ b₂ ∷ b₃ ∷ rest) l x y e = rw (← e, be2-bytes b₂ b₃ x y)

-- bytes with their number and their check are a block
pub block-is :
    (k : ℕ) (b : List ℕ) →
    4 ≤ length b →
    get_or b 2 0 < 256 →
    get_or b 3 0 < 256 →
    take 2 b ≡ be2 k →
    drop 508 b ≡ be4 (weighted 0 (take 508 b)) →
    block k (used_in b) (take 504 (drop 4 b)) ≡ b
unfolding block front_of
block-is k b l x y number check =
    ap (λ (f : List ℕ). f ++ be4 (weighted 0 f)) (front_is k b l x y number) ∙ ap (λ (c : List ℕ). take 508 b ++ c) (sym check) ∙ take-append-drop 508 b

-- bytes that are all zero are so many zeros, and zeros are
pub zeros-are : (l : List ℕ) → all_zero l ≡ true → l ≡ replicate (length l) 0
unfolding all_zero every
zeros-are [] e = refl
zeros-are (x ∷ l) e =
    let t = both_true (eqb x 0) (every (λ b. eqb b 0) l) e in
    λ i. eqb-true x 0 t.0 i ∷ zeros-are l t.1 i

pub are_zeros : (n : ℕ) → all_zero (replicate n 0) ≡ true
unfolding all_zero every
are_zeros zero = refl
are_zeros (suc n) = are_zeros n
