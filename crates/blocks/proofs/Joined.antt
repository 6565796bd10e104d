-- The job in a file whose blocks are right: its length, and the loop that copies it. Assumes nothing.
use mathlib.Core.Path.{◌≡◌, sym, ap, ◌∙◌}
use mathlib.Core.Bool.{true, ◌&&◌}
use mathlib.Core.List.{List}
use mathlib.Core.Logic.{⊎_elim}
use Prim.Native.Nat.{ℕ, suc, ◌+◌, ◌*◌, ◌-◌, ◌<◌, ◌≤◌}
use native.Mathlib.Nat.{eq-or-lt_of_le}
use native.Mathlib.Omega.{arith}
use borrow.Author.Tests.{ne_eqb}
use lib.Dec.{eqb}
use lib.ListN.{length, take, drop, length-append, length-drop}
use lib.Seq.{paste, take-take, take-add, drop_at, drop-drop, length-take-le}
use Rattle.definition.specs.Basics.{same}
use Rattle.definition.specs.Bytes.{be2, be4}
use Rattle.definition.specs.Run.{overwrite}
use Rattle.definition.specs.Blocks.{weighted, block_at, used_in, right_use, padding, all_zero, right_block, block_data}
use Rattle.facts.proofs.Lists.{both_true}
use Rattle.facts.proofs.Chunks.{joined, joined-more, length-joined}
use Rattle.facts.proofs.Copies.{paste-front, part_more}
use Rattle.laws.proofs.Blocks.OneBlock.{used_most, used_full}
use Rattle.blocks.specs.File.{data_of, RightBelow}

module _ (n : ℕ) (file : List ℕ) (size : 512 * n ≤ length file) (rights : RightBelow n file n) where
  right_use_lem : (j : ℕ) → j < n → right_use (eqb n 1) (eqb (suc j) n) (used_in (block_at file j)) ≡ true
  unfolding right_block
  right_use_lem j inside =
      let b = block_at file j in
      let check = same (drop 508 b) (be4 (weighted 0 (take 508 b))) in
      let number = same (take 2 b) (be2 j) in
      let uses = right_use (eqb n 1) (eqb (suc j) n) (used_in b) in
      let zeros = all_zero (padding b) in
      (both_true uses zeros (both_true number (uses && zeros) (both_true check (number && (uses && zeros)) (rights j inside)).1).1).0

  pub used_small : (j : ℕ) → j < n → used_in (block_at file j) ≤ 504
  used_small j inside = used_most (eqb n 1) (eqb (suc j) n) (used_in (block_at file j)) (right_use_lem j inside)

  used_504 : (j : ℕ) → suc j < n → used_in (block_at file j) ≡ 504
  used_504 j more =
      used_full (eqb n 1) (eqb (suc j) n) (used_in (block_at file j)) (ne_eqb (suc j) n (λ e. omega arith)) (right_use_lem j (omega arith))

  -- the used bytes of a block, where they stand in the file
  data_is : (j : ℕ) → j < n → take (used_in (block_at file j)) (drop (512 * j + 4) file) ≡ data_of file j
  unfolding block_data block_at
  data_is j inside =
      let rest = drop (512 * j) file in
      let used = used_in (block_at file j) in
      let long : 512 ≤ length rest = rw (length-drop (512 * j) file) (omega arith) in
      let fits : used ≤ 508 = omega (arith, used_small j inside) in
      sym
      (ap (λ l. take used (drop 4 l)) (take-add 4 508 rest)
      ∙ ap (take used) (drop_at (take 4 rest) (take 508 (drop 4 rest)) 4 (length-take-le 4 rest (omega arith)))
      ∙ take-take used 508 (drop 4 rest) fits
      ∙ ap (take used) (drop-drop 4 (512 * j) file))

  data_length : (j : ℕ) → j < n → length (data_of file j) ≡ used_in (block_at file j)
  data_length j inside =
      let used = used_in (block_at file j) in
      let long : used ≤ length (drop (512 * j + 4) file) = rw (length-drop (512 * j + 4) file) (omega (arith, used_small j inside)) in
      ap length (sym (data_is j inside)) ∙ length-take-le used (drop (512 * j + 4) file) long

  -- the length of what the blocks before one of them hold, and of the whole job
  front_length : (k : ℕ) → k < n → length (joined (data_of file) k) ≡ 504 * k
  front_length k inside =
      length-joined 504 (data_of file) 0 k (λ j _ h. data_length j (omega arith) ∙ used_504 j (omega arith))

  pub job_length : (m : ℕ) → suc m ≡ n → length (joined (data_of file) n) ≡ 504 * m + used_in (block_at file m)
  job_length m e =
      ap (λ k. length (joined (data_of file) k)) (sym e)
      ∙ ap length (joined-more (data_of file) m)
      ∙ length-append (joined (data_of file) m) (data_of file m)
      ∙ (λ i. front_length m (omega arith) i + data_length m (omega arith) i)

  -- every block's bytes lie inside the job
  pub inside_job : (k : ℕ) → k < n → 504 * k + used_in (block_at file k) ≤ length (joined (data_of file) n)
  inside_job k inside =
      ⊎_elim
      (λ (e : suc k ≡ n). omega (arith, job_length k e))
      (λ (more : suc k < n). omega (arith, used_504 k more, job_length (n - 1) (omega arith)))
      (eq-or-lt_of_le inside)

  -- a turn of the loop that copies
  pub take_more :
      (d : List ℕ) (k : ℕ) → k < n →
      paste (overwrite (joined (data_of file) k) d) (504 * k) (drop (512 * k + 4) file) (used_in (block_at file k)) ≡
      overwrite (joined (data_of file) (k + 1)) d
  take_more d k inside =
      let used = used_in (block_at file k) in
      let o = overwrite (joined (data_of file) k) d in
      paste-front o (drop (512 * k + 4) file) (504 * k) used
      ∙ ap (λ l. paste o (504 * k) l used) (data_is k inside)
      ∙ part_more (data_of file) k d (504 * k) used (front_length k inside) (data_length k inside)
