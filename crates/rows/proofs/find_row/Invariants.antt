-- `rows::find_row` meets its contract. No row from the link on, along the chain, is the one sought. Assumes nothing.
use Rattle.store.specs.Store.{store}
use Rattle.rows.proofs.Finding.{Looking}
use Rattle.rows.proofs.find_row.Given as goal

abbrev pub invariant-loop-i : goal.invariant-loop-i
invariant-loop-i l = Looking l.p (store l.p l.w) l.k l.link

abbrev pub decreases-loop-i : goal.decreases-loop-i
decreases-loop-i l = l.link
