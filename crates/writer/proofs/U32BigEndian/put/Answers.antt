-- The number's bytes stand at the place. Assumes nothing.
use Rattle.std.proofs.Common.{rules}
use Rattle.definition.specs.Bytes.{be4}
use Rattle.writer.proofs.U32BigEndian.put.Goals as goal

pub returns : goal.returns
unfolding be4
returns c = search rules
