-- `printing::quoted_at` meets its contract. The loop keeps: of what stands behind the first quote, the bytes from this on and the second quote
-- are left. Assumes nothing.
use lib.ListN.{drop}
use Rattle.printing.proofs.Printing.{Left}
use Rattle.printing.proofs.Shown.{closed}
use Rattle.printing.proofs.quoted_at.Given as goal

abbrev pub invariant-loop-b : goal.invariant-loop-b
invariant-loop-b l = Left l.initial.out l.room l.initial.at (closed l.text) l.out l.at (closed (drop l.b-index l.text))
