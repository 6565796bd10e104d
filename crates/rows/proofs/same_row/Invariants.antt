-- `rows::same_row` meets its contract. The slots behind are the same. Assumes nothing.
use lib.ListN.{get_or}
use Rattle.store.specs.Regions.{GIVEN, FIRSTS, SIZES, CHILDREN, NODES}
use Rattle.store.specs.Store.{store}
use Rattle.rows.proofs.Slotting.{slot_at, Matching}
use Rattle.rows.proofs.same_row.Given as goal

abbrev pub invariant-loop-i : goal.invariant-loop-i
invariant-loop-i l = Matching (slot_at (store l.p l.w GIVEN) (store l.p l.w CHILDREN) (store l.p l.w FIRSTS) (store l.p l.w SIZES) (get_or (store l.p l.w NODES) l.k 0)) (slot_at (store l.p l.w GIVEN) (store l.p l.w CHILDREN) (store l.p l.w FIRSTS) (store l.p l.w SIZES) (get_or (store l.p l.w NODES) l.l 0)) l.n l.i
