-- BLOCKS BACK: reading what writing wrote gives the job back. Assumes nothing.
use lib.ListN.{length}
use Rattle.definition.specs.Blocks.{blocks_for}
use Rattle.laws.specs.Statements.{BlocksBack}
use Rattle.laws.proofs.Blocks.BlocksOfParts.{parts-read}
use Rattle.laws.proofs.Blocks.PartsOfJob.{written_part, blocks_some, blocks_few, written-described, written-job, written-file}

-- BLOCKS BACK: reading what writing wrote gives the job back
pub blocks_back : BlocksBack
blocks_back room room' job file e fits =
    let n = blocks_for (length job) in
    let w = written-file job room file e in
    let is = written-job job in
    rw (w.1, is) at
    (parts-read n (written_part job) (written-described job) room' (blocks_some (length job)) (blocks_few (length job) w.0) (rw is w.0) (rw is fits))
