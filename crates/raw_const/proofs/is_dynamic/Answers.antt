-- `raw_const::is_dynamic` meets its contract: two rows begin with the index of a bootstrap. Assumes nothing.
use borrow.Author.Rules.{rules}
use Rattle.raw_const.proofs.Table.{row_dynamic}
use Rattle.raw_const.proofs.is_dynamic.Goals as goal

pub returns : goal.returns
returns c = row_dynamic c.args.tag c.row_of-row.result c.row_of-row.ensures
