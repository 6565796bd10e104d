-- The number's bytes stand at the place. Assumes nothing.
use Rattle.std.proofs.Common.{rules}
use Rattle.writer.proofs.Laws.{eight-bytes}
use Rattle.writer.proofs.U64BigEndian.put.Goals as goal

pub returns : goal.returns
returns c = search (rules, eight-bytes c.args.self)
