-- `output::rows_length` meets its contract: the loop has measured the rows behind. Assumes nothing.
use mathlib.Core.Path.{◌≡◌}
use Prim.Native.Nat.{◌*◌, ◌≤◌}
use lib.ListN.{length}
use Rattle.facts.proofs.Chunks.{joined}
use Rattle.store.specs.Store.{store}
use Rattle.output.specs.Rows.{row_at_in, constants_for, Filled}
use Rattle.output.proofs.rows_length.Given as goal

abbrev pub invariant-loop-index : goal.invariant-loop-index
invariant-loop-index l = Filled l.p (store l.p l.w) l.walk.inline l.walk.raws l.index × (l.size ≡ length (joined (row_at_in (constants_for l.p) (store l.p l.w)) l.index)) × (l.size ≤ 131074 * l.index)
