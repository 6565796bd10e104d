-- The parts of an accepted file: they are as described, and the file is theirs. Assumes nothing.
use mathlib.Core.Bool.{true, ◌&&◌}
use mathlib.Core.List.{List}
use mathlib.Core.Path.{◌≡◌, ap, ◌∙◌}
use Prim.Native.Nat.{ℕ, suc, ◌+◌, ◌*◌, ◌≤◌, ◌<◌}
use native.Mathlib.Nat.{zero-add}
use native.Mathlib.Omega.{arith}
use lib.Dec.{eqb}
use lib.ListN.{length, take, drop, get_or, length-drop}
use lib.Seq.{take-take, take_all, length-take-le, get_or-drop, get_or-take}
use Rattle.definition.specs.Basics.{same, concat}
use Rattle.definition.specs.Bytes.{be2, be4}
use Rattle.definition.specs.Blocks.{weighted, block, block_count, block_at, used_in, right_use, padding, all_zero, right_block, block_data}
use Rattle.facts.proofs.Lists.{both_true, same_true}
use Rattle.facts.proofs.Chunks.{from-same, cut-join}
use Rattle.laws.specs.Statements.{IsBytes}
use Rattle.laws.proofs.Blocks.ReadingTests.{job_in, Accepted}
use Rattle.laws.proofs.Blocks.OneBlock.{used_most, block-is}
use Rattle.laws.proofs.Blocks.BlocksOfParts.{Part, their_file, their_job, Described}

-- an accepted file has a block
pub some_block : (room : ℕ) (file job : List ℕ) → Accepted room file job → 1 ≤ block_count file
unfolding block_count
some_block room file job a = omega arith

-- the part in block k
abbrev pub part_in : List ℕ → ℕ → Part
part_in file k = (used_in (block_at file k), take 504 (drop 4 (block_at file k)))

module _ (room : ℕ) (file job : List ℕ) (bytes : IsBytes file) (a : Accepted room file job) where
  -- each of its blocks has 512 bytes
  own_length : (k : ℕ) → k < block_count file → length (block_at file k) ≡ 512
  unfolding block_count block_at
  own_length k h =
      let whole = a.whole in
      length-take-le 512 (drop (512 * k) file) (rw length-drop (omega arith))

  -- each of its bytes is one of the file's
  own_byte : (k i : ℕ) → i < 512 → get_or (block_at file k) i 0 < 256
  unfolding block_at
  own_byte k i h = rw (get_or-take, get_or-drop) (bytes (512 * k + i))

  -- each of its blocks is right: check, number, use and padding
  own_tests :
      (k : ℕ) →
      k < block_count file →
      (drop 508 (block_at file k) ≡ be4 (weighted 0 (take 508 (block_at file k))))
      × (take 2 (block_at file k) ≡ be2 k)
      × (right_use (eqb (block_count file) 1) (eqb (suc k) (block_count file)) (used_in (block_at file k)) ≡ true)
      × (all_zero (padding (block_at file k)) ≡ true)
  unfolding right_block
  own_tests k h =
      let b = block_at file k in
      let n = block_count file in
      let check = same (drop 508 b) (be4 (weighted 0 (take 508 b))) in
      let number = same (take 2 b) (be2 k) in
      let uses = right_use (eqb n 1) (eqb (suc k) n) (used_in b) in
      let zeros = all_zero (padding b) in
      let t = both_true check (number && (uses && zeros)) (rw zero-add at (a.right k h)) in
      let u = both_true number (uses && zeros) t.1 in
      let v = both_true uses zeros u.1 in
      (same_true (drop 508 b) (be4 (weighted 0 (take 508 b))) t.0, same_true (take 2 b) (be2 k) u.0, v.0, v.1)

  -- each of its blocks is the block of its part
  own_block : (k : ℕ) → k < block_count file → block k (part_in file k).0 (part_in file k).1 ≡ block_at file k
  own_block k h =
      let t = own_tests k h in
      block-is k (block_at file k) (omega (arith, own_length k h)) (own_byte k 2 (omega arith)) (own_byte k 3 (omega arith)) t.1 t.0

  -- its parts are as described
  pub own_described : Described (block_count file) (part_in file)
  unfolding padding
  own_described k h =
      let l = own_length k h in
      (length-take-le 504 (drop 4 (block_at file k)) (rw length-drop (omega arith)), (own_tests k h).2, (own_tests k h).3)

  -- the file is its parts' file, and its job theirs
  pub own_file : their_file (block_count file) (part_in file) ≡ file
  unfolding block_at block_count
  own_file =
      let n = block_count file in
      let whole = a.whole in
      ap concat (from-same (λ i. block i (part_in file i).0 (part_in file i).1) (block_at file) 0 n (λ i low high. own_block i (omega arith)))
      ∙ cut-join 512 file 0 n
      ∙ take_all (512 * n) file (omega arith)

  pub own_job : their_job (block_count file) (part_in file) ≡ job_in file
  unfolding job_in block_data
  own_job =
      ap concat
      (from-same (λ i. take (part_in file i).0 (part_in file i).1) (λ i. block_data (block_at file i)) 0 (block_count file)
      (λ i low high.
      let n = block_count file in
      take-take (used_in (block_at file i)) 504 (drop 4 (block_at file i))
      (used_most (eqb n 1) (eqb (suc i) n) (used_in (block_at file i)) (own_tests i (omega arith)).2)))
