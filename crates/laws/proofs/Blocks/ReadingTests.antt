-- When reading a block file gives a job, and when it is refused: its tests, one by one. Assumes nothing.
use mathlib.Core.Bool.{Bool, true, false, ◌&&◌}
use mathlib.Core.List.{List}
use mathlib.Core.Logic.{◌⊎◌, inl, inr}
use mathlib.Core.Path.{◌≡◌, refl, sym, ap, ◌∙◌}
use Prim.Native.Nat.{ℕ, zero, suc, ◌+◌, ◌%◌, ◌≤◌, ◌<◌}
use native.Mathlib.Nat.{add-zero}
use native.Mathlib.Omega.{arith}
use lib.Dec.{eqb, leb, ltb}
use lib.ListN.{length}
use borrow.Author.Tests.{eqb-true, eq-eqb, ltb-true, lt-ltb, leb-true, le-leb}
use Rattle.definition.specs.Basics.{Result, good, bad, Refusal, concat, from, ◌>>=◌}
use Rattle.definition.specs.Run.{longest_job}
use Rattle.definition.specs.Blocks.{block_count, block_at, right_block, blocks_right, block_data, most_blocks, read_blocks}
use Rattle.facts.proofs.Lists.{clash, both_true}
use Rattle.facts.proofs.Results.{then_good, guarded, passes, refuses, passed, refused_by}

-- ---- the blocks of a file that is said to have n

module _ (n : ℕ) (file : List ℕ) where
  -- the blocks k, k + 1, .. up to, not including, k + i are right
  abbrev pub RightUpTo : ℕ → ℕ → Type 0
  RightUpTo k i = (j : ℕ) → j < i → right_block n file (k + j) ≡ true

  -- blocks that are right before k + suc i: block k, and those after it
  pub right_first : (k i : ℕ) → RightUpTo k (suc i) → right_block n file k ≡ true
  right_first k i h = rw add-zero at (h 0 (omega arith))

  pub right_rest : (k i : ℕ) → RightUpTo k (suc i) → RightUpTo (suc k) i
  right_rest k i h j low = let number : k + suc j ≡ suc k + j = omega arith in rw number at (h (suc j) (omega arith))

  pub right_more : (k i : ℕ) → right_block n file k ≡ true → RightUpTo (suc k) i → RightUpTo k (suc i)
  right_more k i here h zero low = rw add-zero here
  right_more k i here h (suc j) low = let number : k + suc j ≡ suc k + j = omega arith in rw number (h j (omega arith))

  -- blocks are accepted if all are right
  pub accepts : (left k : ℕ) → RightUpTo k left → blocks_right n file left k ≡ good tt
  unfolding blocks_right
  accepts zero k h = refl
  accepts (suc left) k h =
      passes k 19 (blocks_right n file left (suc k)) (right_block n file k) (right_first k left h) ∙ accepts left (suc k) (right_rest k left h)

  -- and only then
  pub accepted : (left k : ℕ) → blocks_right n file left k ≡ good tt → RightUpTo k left
  unfolding blocks_right
  accepted zero k e = λ j low. absurd (omega arith)
  accepted (suc left) k e =
      let t = passed k 19 (blocks_right n file left (suc k)) (right_block n file k) tt e in
      right_more k left t.0 (accepted left (suc k) t.1)

  -- they are refused with 19 at the first that isn't right
  pub first_wrong :
      (left k i : ℕ) →
      i < left →
      RightUpTo k i →
      right_block n file (k + i) ≡ false →
      blocks_right n file left k ≡ bad (record { code = 19; place = k + i })
  unfolding blocks_right
  first_wrong zero k i low h wrong = absurd (omega arith)
  first_wrong (suc left) k zero low h wrong =
      rw add-zero (refuses k 19 (blocks_right n file left (suc k)) (right_block n file k) (rw add-zero at wrong))
  first_wrong (suc left) k (suc i) low h wrong =
      let number : k + suc i ≡ suc k + i = omega arith in
      passes k 19 (blocks_right n file left (suc k)) (right_block n file k) (right_first k i h)
      ∙ rw number (first_wrong left (suc k) i (omega arith) (right_rest k i h) (rw number at wrong))

  -- a refusal is 19 at a block that isn't right, and all before it are
  abbrev pub Wrong : ℕ → ℕ → Refusal → Type 0
  Wrong left k r = (i : ℕ) × (i < left) × RightUpTo k i × (right_block n file (k + i) ≡ false) × (r ≡ record { code = 19; place = k + i })

  pub wrong_later : (left k : ℕ) (r : Refusal) → right_block n file k ≡ true → Wrong left (suc k) r → Wrong (suc left) k r
  wrong_later left k r here (i, low, h, wrong, e) =
      let number : suc k + i ≡ k + suc i = omega arith in
      (suc i, omega arith, right_more k i here h, rw number at wrong, rw number at e)

  pub is_wrong : (left k : ℕ) (r : Refusal) → blocks_right n file left k ≡ bad r → Wrong left k r
  unfolding blocks_right
  is_wrong zero k r e = clash (cc)
  is_wrong (suc left) k r e = ways (refused_by k 19 (blocks_right n file left (suc k)) (right_block n file k) r e) (is_wrong left (suc k) r)
    where
      ways :
          ((right_block n file k ≡ false) × (record { code = 19; place = k } ≡ r))
          ⊎ ((right_block n file k ≡ true) × (blocks_right n file left (suc k) ≡ bad r)) →
          (blocks_right n file left (suc k) ≡ bad r → Wrong left (suc k) r) →
          Wrong (suc left) k r
      ways (inl w) later = (0, omega arith, λ j low. absurd (omega arith), rw add-zero w.0, rw add-zero (sym w.1))
      ways (inr w) later = wrong_later left k r w.0 (later w.1)

-- ---- the whole file

-- the job that its blocks hold
unfoldable pub job_in : List ℕ → List ℕ
job_in file = concat (from (λ k. block_data (block_at file k)) 0 (block_count file))

-- the tests from behind: the job's length and room; before those the blocks; before those their number
abbrev pub room_test : ℕ → List ℕ → Result Refusal (List ℕ)
room_test room job = guarded (leb (length job) longest_job) 0 1 (guarded (leb (length job) room) 0 18 (good job))

abbrev pub blocks_test : ℕ → List ℕ → Result Refusal (List ℕ)
blocks_test room file = blocks_right (block_count file) file (block_count file) 0 >>= λ _. room_test room (job_in file)

abbrev pub count_test : ℕ → List ℕ → Result Refusal (List ℕ)
count_test room file = guarded (leb (block_count file) most_blocks) 0 1 (blocks_test room file)

-- the first test: the file is some blocks
abbrev pub whole_blocks : List ℕ → Bool
whole_blocks file = ltb 0 (length file) && eqb (length file % 512) 0

-- reading is these tests, one after the other
pub reading : (room : ℕ) (file : List ℕ) → read_blocks room file ≡ guarded (whole_blocks file) 0 20 (count_test room file)
unfolding read_blocks job_in
reading room file = refl

-- what is asked of a file that is accepted
pub record Accepted (room : ℕ) (file job : List ℕ) : Type 0 where
  pub filled : 0 < length file
  pub whole : length file % 512 ≡ 0
  pub few : block_count file ≤ most_blocks
  pub right : RightUpTo (block_count file) file 0 (block_count file)
  pub held : job_in file ≡ job
  pub short : length job ≤ longest_job
  pub fits : length job ≤ room

-- the file is then read as its job
pub is_read : (room : ℕ) (file job : List ℕ) → Accepted room file job → read_blocks room file ≡ good job
is_read room file job a =
    reading room file
    ∙ passes 0 20 (count_test room file) (whole_blocks file) (rw (lt-ltb 0 (length file) a.filled) (eq-eqb (length file % 512) 0 a.whole))
    ∙ passes 0 1 (blocks_test room file) (leb (block_count file) most_blocks) (le-leb (block_count file) most_blocks a.few)
    ∙ ap (λ r. r >>= λ _. room_test room (job_in file)) (accepts (block_count file) file (block_count file) 0 a.right)
    ∙ ap (room_test room) a.held
    ∙ passes 0 1 (guarded (leb (length job) room) 0 18 (good job)) (leb (length job) longest_job) (le-leb (length job) longest_job a.short)
    ∙ passes 0 18 (good job) (leb (length job) room) (le-leb (length job) room a.fits)

-- and only then
pub was_read_lem : (room : ℕ) (file job : List ℕ) → read_blocks room file ≡ good job → Accepted room file job
was_read_lem room file job e =
    let t₁ = passed 0 20 (count_test room file) (whole_blocks file) job (rw reading at e) in
    let t₂ = passed 0 1 (blocks_test room file) (leb (block_count file) most_blocks) job t₁.1 in
    let t₃ = then_good (room_test room (job_in file)) (blocks_right (block_count file) file (block_count file) 0) job t₂.1 in
    let t₄ = passed 0 1 (guarded (leb (length (job_in file)) room) 0 18 (good (job_in file))) (leb (length (job_in file)) longest_job) job t₃.1 in
    let t₅ = passed 0 18 (good (job_in file)) (leb (length (job_in file)) room) job t₄.1 in
    let held : job_in file ≡ job = cc in
    let t₀ = both_true (ltb 0 (length file)) (eqb (length file % 512) 0) t₁.0 in
    record {
      filled = ltb-true 0 (length file) t₀.0;
      whole = eqb-true (length file % 512) 0 t₀.1;
      few = leb-true (block_count file) most_blocks t₂.0;
      right = accepted (block_count file) file (block_count file) 0 t₃.0;
      held = held;
      short = rw held at (leb-true (length (job_in file)) longest_job t₄.0);
      fits = rw held at (leb-true (length (job_in file)) room t₅.0);
    }
