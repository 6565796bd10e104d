-- `pool::Origin::mark` meets its contract. By cases. Assumes nothing.
use Rattle.pool.specs.Pooled.{mark_in}
use borrow.Author.Rules.{rules}
use Rattle.pool.proofs.Origin.mark.Goals as goal

pub returns-in-Raw : goal.returns-in-Raw
unfolding mark_in
returns-in-Raw c = (cc, search rules)

pub returns-in-New : goal.returns-in-New
unfolding mark_in
returns-in-New c = (cc, search rules)

pub returns-in-Old : goal.returns-in-Old
unfolding mark_in
returns-in-Old c = (cc, search rules)
