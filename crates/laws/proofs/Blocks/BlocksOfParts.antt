-- The blocks of parts as described: their file is read as their job. Assumes nothing.
use mathlib.Core.Bool.{true}
use mathlib.Core.List.{List}
use mathlib.Core.Path.{◌≡◌, ap, ◌∙◌}
use Prim.Native.Nat.{ℕ, suc, ◌+◌, ◌*◌, ◌≤◌, ◌<◌}
use native.Mathlib.Nat.{zero-add}
use native.Mathlib.Omega.{arith}
use lib.Dec.{eqb}
use lib.ListN.{length, take, drop}
use Rattle.definition.specs.Basics.{good, concat, from}
use Rattle.definition.specs.Run.{longest_job}
use Rattle.definition.specs.Blocks.{block, block_count, block_at, right_use, all_zero, right_block, block_data, most_blocks, read_blocks}
use Rattle.facts.proofs.Chunks.{from-same, length-joined, cut_out}
use Rattle.laws.proofs.Blocks.ReadingTests.{job_in, is_read}
use Rattle.laws.proofs.Blocks.OneBlock.{length-block, block_data_lem, used_most, block-right}

-- a part: how much of its 504 bytes is used, and the bytes
abbrev pub Part : Type 0
Part = ℕ × List ℕ

-- their file and their job
abbrev pub their_file : ℕ → (ℕ → Part) → List ℕ
their_file n p = concat (from (λ i. block i (p i).0 (p i).1) 0 n)

abbrev pub their_job : ℕ → (ℕ → Part) → List ℕ
their_job n p = concat (from (λ i. take (p i).0 (p i).1) 0 n)

-- they are as described
abbrev pub Described : ℕ → (ℕ → Part) → Type 0
Described n p =
    (i : ℕ) → i < n → (length (p i).1 ≡ 504) × (right_use (eqb n 1) (eqb (suc i) n) (p i).0 ≡ true) × (all_zero (drop (p i).0 (p i).1) ≡ true)

module _ (n : ℕ) (p : ℕ → Part) (d : Described n p) where
  -- each block has 512 bytes, so the file has n blocks, and block i of it is the block of part i
  each_512 : (i : ℕ) → 0 ≤ i → i < 0 + n → length (block i (p i).0 (p i).1) ≡ 512
  each_512 i low high = length-block i (p i).0 (p i).1 (d i (omega arith)).0

  pub file_length : length (their_file n p) ≡ 512 * n
  file_length = length-joined 512 (λ i. block i (p i).0 (p i).1) 0 n each_512

  file_count : block_count (their_file n p) ≡ n
  unfolding block_count
  file_count = rw file_length (omega arith)

  file_block : (i : ℕ) → i < n → block_at (their_file n p) i ≡ block i (p i).0 (p i).1
  unfolding block_at
  file_block i h =
      cut_out 512 (λ i. block i (p i).0 (p i).1) 0 n each_512 i h ∙ ap (λ j. block j (p j).0 (p j).1) (zero-add i)

  -- each block is right, and its data are the used bytes of its part
  file_right : (i : ℕ) → i < n → right_block n (their_file n p) (0 + i) ≡ true
  file_right i h =
      rw zero-add (block-right n (their_file n p) i (p i).0 (p i).1 (file_block i h) (d i h).0 (d i h).1 (d i h).2)

  file_data : (i : ℕ) → i < n → block_data (block_at (their_file n p) i) ≡ take (p i).0 (p i).1
  file_data i h =
      rw (file_block i h) (block_data_lem i (p i).0 (p i).1 (d i h).0 (used_most (eqb n 1) (eqb (suc i) n) (p i).0 (d i h).1))

  file_job : job_in (their_file n p) ≡ their_job n p
  unfolding job_in
  file_job =
      rw file_count
      (ap concat (from-same (λ i. block_data (block_at (their_file n p) i)) (λ i. take (p i).0 (p i).1) 0 n (λ i low high. file_data i (omega arith))))

  -- the file of parts as described is read as their job
  pub parts-read : (room : ℕ) → 1 ≤ n → n ≤ most_blocks → length (their_job n p) ≤ longest_job → length (their_job n p) ≤ room → read_blocks room (their_file n p) ≡ good (their_job n p)
  parts-read room low high short fits =
      is_read room (their_file n p) (their_job n p)
      (record {
        filled = omega (arith, file_length);
        whole = rw file_length (omega arith);
        few = rw file_count high;
        right = rw file_count file_right;
        held = file_job;
        short = short;
        fits = fits;
      })
