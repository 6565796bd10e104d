-- BLOCKS READ: a file is read as a job exactly if the job has room and writing it gives that file. Assumes nothing.
use mathlib.Core.List.{List}
use mathlib.Core.Path.{◌≡◌, sym, ap, ◌∙◌}
use Prim.Native.Nat.{ℕ, ◌-◌, ◌≤◌}
use native.Mathlib.Omega.{arith}
use lib.ListN.{length}
use Rattle.definition.specs.Basics.{good}
use Rattle.definition.specs.Blocks.{block_count, blocks_for, write_blocks}
use Rattle.laws.specs.Statements.{IsBytes, BlocksRead}
use Rattle.laws.proofs.Blocks.ReadingTests.{Accepted, was_read_lem}
use Rattle.laws.proofs.Blocks.BlocksOfParts.{their_file, their_job, file_length}
use Rattle.laws.proofs.Blocks.PartsOfFile.{some_block, part_in, own_described, own_file, own_job}
use Rattle.laws.proofs.Blocks.PartsOfJob.{written_part, written-described, written-file}
use Rattle.laws.proofs.Blocks.PartsWritten.{written-again}
use Rattle.laws.proofs.Blocks.BlocksBack.{blocks_back}
use Rattle.laws.proofs.Blocks.BlocksWritten.{blocks_written}

module _ (room room' : ℕ) (file job : List ℕ) (bytes : IsBytes file) (roomy : length file ≤ room') (a : Accepted room file job) where
  -- an accepted file is that of the parts that its job is written as
  own_again : their_file (blocks_for (length job)) (written_part job) ≡ file
  own_again =
      let n = block_count file in
      let some = some_block room file job a in
      let is : their_job n (part_in file) ≡ job = own_job room file job bytes a ∙ a.held in
      ap (λ (l : List ℕ). their_file (blocks_for (length l)) (written_part l)) (sym is)
      ∙ written-again n (n - 1) (part_in file) (own_described room file job bytes a) (omega arith)
      ∙ own_file room file job bytes a

  -- so writing its job, with room for it, gives it again
  rewritten : write_blocks room' job ≡ good file
  rewritten =
      let size = file_length (blocks_for (length job)) (written_part job) (written-described job) in
      let long = ap length own_again in
      let (new, is, _) = (blocks_written room' job).2 a.short (omega arith) in
      is ∙ ap good (sym (written-file job room' new is).1 ∙ own_again)

-- BLOCKS READ: a file is read as a job exactly if the job has room and writing it gives that file
pub blocks_read : BlocksRead
blocks_read room room' file job bytes roomy = (
  λ e. let a = was_read_lem room file job e in (a.fits, rewritten room room' file job bytes roomy a),
  λ (fits, written). blocks_back room' room job file written fits,
)
