-- `blocks::write_blocks` meets its contract. Each end is the definition's. Assumes nothing.
use Prim.Native.Nat.{◌*◌}
use native.Mathlib.Omega.{arith}
use lib.ListN.{length}
use Rattle.definition.specs.Blocks.{written_block, write_blocks}
use Rattle.refusal.specs.Numbers.{told_of, number}
use Rattle.laws.proofs.Blocks.PartsOfJob.{blocks_few}
use Rattle.blocks.proofs.Ends.{ends-bad, ends-good}
use Rattle.facts.proofs.Chunks.{joined}
use Rattle.blocks.proofs.Writing.{write_long, write_narrow, write_good, blocks_for-begun}
use Rattle.blocks.proofs.Written.{length-file}
use Rattle.blocks.proofs.write_blocks.Goals as goal

pub overflow_mul-file_size : goal.overflow_mul-file_size
overflow_mul-file_size c = omega (arith, blocks_for-begun (length c.args.job.now))

pub returns-then-job-gt-LONGEST_JOB : goal.returns-then-job-gt-LONGEST_JOB
unfolding told_of number
returns-then-job-gt-LONGEST_JOB c = rw c.refused.ensures (let told = let args = c.args in
    let room = length args.out.now in
    let job = args.job.now in
    ends-bad (write_blocks room job) args.out.now (record { code = 1; place = 0 }) (write_long room job (omega arith)) in record { result_value = told.0; out_after = told.1 })

pub returns-then-out-file_size : goal.returns-then-out-file_size
unfolding told_of number
returns-then-out-file_size c = rw c.refused-then-out-file_size.ensures (let told = let args = c.args in
    let room = length args.out.now in
    let job = args.job.now in
    ends-bad
    (write_blocks room job)
    args.out.now
    (record { code = 18; place = 0 })
    (write_narrow room job (omega arith) (omega arith)) in record { result_value = told.0; out_after = told.1 })

pub put_blocks-requires : goal.put_blocks-requires
put_blocks-requires c = let size = length c.args.job.now in
    omega (arith, blocks_for-begun size, blocks_few size (omega arith))

pub returns : goal.returns
unfolding told_of number
returns c = let told = let args = c.args in
    let room = length args.out.now in
    let job = args.job.now in
    let n = c.blocks_for-n.result in
    ends-good
    (write_blocks room job)
    args.out.now
    (joined (written_block job) n)
    c.put_blocks.new.out
    (512 * n)
    (rw c.blocks_for-n.ensures (write_good room job (omega arith) (omega arith)))
    (length-file job n)
    c.put_blocks.ensures in record { result_value = told.0; out_after = told.1 }
