-- `blocks::read_blocks` meets its contract. Each end is the definition's. Assumes nothing.
use mathlib.Core.Path.{◌≡◌, sym}
use Prim.Native.Nat.{◌/◌}
use native.Mathlib.Omega.{arith}
use borrow.Author.Rules.{rules}
use lib.ListN.{length}
use Rattle.definition.specs.Basics.{bad}
use Rattle.definition.specs.Blocks.{read_blocks}
use Rattle.refusal.specs.Numbers.{told_of, number}
use Rattle.blocks.specs.File.{data_of, FirstWrong}
use Rattle.blocks.proofs.Ends.{ends-bad, ends-good}
use Rattle.facts.proofs.Chunks.{joined}
use Rattle.blocks.proofs.Reading.{read_empty, read_odd, read_many, read_wrong, read_long, read_narrow_lem, read_good}
use Rattle.blocks.proofs.read_blocks.Goals as goal
use Rattle.blocks.proofs.read_blocks.Goals.{then-file-eq0-via-then-file-eq0, then-file-eq0-via-else-file-eq0+then-file-ne0}

pub returns-then-file-eq0 : goal.returns-then-file-eq0
unfolding told_of number
returns-then-file-eq0 c =
    let args = c.args in
    let room = length args.out.now in
    let file = args.file.now in
    let no : read_blocks room file ≡ bad (record { code = 20; place = 0 }) =
    elim c.then-file-eq0.branch [
      | then-file-eq0-via-then-file-eq0 w ↦ read_empty room file (omega arith)
      | then-file-eq0-via-else-file-eq0+then-file-ne0 w ↦ read_odd room file (search rules)
    ] in
    let told = ends-bad (read_blocks room file) args.out.now (record { code = 20; place = 0 }) no in
    rw c.refused.ensures (record { result_value = told.0; out_after = told.1 })

pub returns-then-n-gt-MOST_BLOCKS : goal.returns-then-n-gt-MOST_BLOCKS
unfolding told_of number
returns-then-n-gt-MOST_BLOCKS c =
    let args = c.args in
    let room = length args.out.now in
    let file = args.file.now in
    let no = read_many room file c.if-file-eq0.false c.if-file-ne0.false c.if-n-gt-MOST_BLOCKS.true in
    let told = ends-bad (read_blocks room file) args.out.now (record { code = 1; place = 0 }) no in
    rw c.refused-then-n-gt-MOST_BLOCKS.ensures (record { result_value = told.0; out_after = told.1 })

pub returns-in-Some : goal.returns-in-Some
unfolding told_of number
returns-in-Some c =
    let args = c.args in
    let room = length args.out.now in
    let file = args.file.now in
    let found : FirstWrong (length file / 512) file c.in-Some.wrong = c.in-Some.ensures in
    let no =
    read_wrong room file c.if-file-eq0.false c.if-file-ne0.false c.if-n-gt-MOST_BLOCKS.false c.in-Some.wrong found.inside found.before found.wrong in
    let told = ends-bad (read_blocks room file) args.out.now (record { code = 19; place = c.in-Some.wrong }) no in
    record { result_value = told.0; out_after = told.1 }

pub job_size-size-requires : goal.job_size-size-requires
job_size-size-requires c = (omega arith, omega arith, omega arith, c.in_default.ensures)

pub returns-then-size-gt-LONGEST_JOB : goal.returns-then-size-gt-LONGEST_JOB
unfolding told_of number
returns-then-size-gt-LONGEST_JOB c =
    let args = c.args in
    let room = length args.out.now in
    let file = args.file.now in
    let size = c.job_size-size in
    let no =
    read_long room file c.if-file-eq0.false c.if-file-ne0.false c.if-n-gt-MOST_BLOCKS.false c.in_default.ensures
    size.result (sym size.ensures) c.if-size-gt-LONGEST_JOB.true in
    let told = ends-bad (read_blocks room file) args.out.now (record { code = 1; place = 0 }) no in
    rw c.refused-then-size-gt-LONGEST_JOB.ensures (record { result_value = told.0; out_after = told.1 })

pub returns-then-out-size : goal.returns-then-out-size
unfolding told_of number
returns-then-out-size c =
    let args = c.args in
    let room = length args.out.now in
    let file = args.file.now in
    let size = c.job_size-size in
    let no =
    read_narrow_lem room file c.if-file-eq0.false c.if-file-ne0.false c.if-n-gt-MOST_BLOCKS.false c.in_default.ensures
    size.result (sym size.ensures) c.if-size-gt-LONGEST_JOB.false c.if-out-size.true in
    let told = ends-bad (read_blocks room file) args.out.now (record { code = 18; place = 0 }) no in
    rw c.refused-then-out-size.ensures (record { result_value = told.0; out_after = told.1 })

pub take_blocks-requires : goal.take_blocks-requires
take_blocks-requires c = (omega arith, c.in_default.ensures, omega arith)

pub returns : goal.returns
unfolding told_of
returns c =
    let args = c.args in
    let room = length args.out.now in
    let file = args.file.now in
    let size = c.job_size-size in
    let yes =
    read_good room file c.if-file-eq0.false c.if-file-ne0.false c.if-n-gt-MOST_BLOCKS.false c.in_default.ensures
    size.result (sym size.ensures) c.if-size-gt-LONGEST_JOB.false c.if-out-size.false in
    let told =
    ends-good (read_blocks room file) args.out.now (joined (data_of file) (length file / 512)) c.take_blocks.new.out size.result yes (sym size.ensures)
    c.take_blocks.ensures in
    record { result_value = told.0; out_after = told.1 }
