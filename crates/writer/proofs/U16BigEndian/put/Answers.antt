-- The number's bytes stand at the place. Assumes nothing.
use Rattle.std.proofs.Common.{rules}
use Rattle.definition.specs.Bytes.{be2}
use Rattle.writer.proofs.U16BigEndian.put.Goals as goal

pub returns : goal.returns
unfolding be2
returns c = search rules
