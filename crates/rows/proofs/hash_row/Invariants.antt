-- `rows::hash_row` meets its contract. The hash is that of the slots behind. Assumes nothing.
use lib.ListN.{get_or}
use Rattle.store.specs.Regions.{GIVEN, FIRSTS, SIZES, CHILDREN, NODES}
use Rattle.store.specs.Store.{store}
use Rattle.rows.proofs.Slotting.{slot_at, Folding}
use Rattle.rows.proofs.hash_row.Given as goal

abbrev pub invariant-loop-i : goal.invariant-loop-i
invariant-loop-i l = Folding (slot_at (store l.p l.w GIVEN) (store l.p l.w CHILDREN) (store l.p l.w FIRSTS) (store l.p l.w SIZES) (get_or (store l.p l.w NODES) l.k 0)) l.n l.n l.hash l.i
