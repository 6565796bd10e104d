-- A refusal's number as the code gives it is that of the documents. Assumes nothing.
use Rattle.std.proofs.Common.{rules}
use Rattle.refusal.proofs.Numbers.{number_tag}
use Rattle.refusal.proofs.U32FromRefusal.from.Goals as goal

pub returns : goal.returns
returns c = number_tag c.args.r
