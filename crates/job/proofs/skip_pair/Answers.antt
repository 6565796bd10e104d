-- `job::skip_pair` meets its contract. Assumes nothing.
use Rattle.definition.specs.Shapes.{to}
use mathlib.Core.List.{[], ◌∷◌}
use Rattle.job.proofs.Entries.{reference-bounds, to_cut, pair_to, pair_cut}
use Rattle.job.proofs.skip_pair.Goals as goal

pub returns-in_err-first : goal.returns-in_err-first
returns-in_err-first c k l n e f =
    rw c.from_residual.ensures (to_cut n c.args.job.now c.args.at k (to l ∷ []) (rw c.in_err-first.was at (c.skip_reference.ensures k n e)))

pub skip_reference-requires-2 : goal.skip_reference-requires-2
skip_reference-requires-2 c = (reference-bounds c.args.entries c.args.job.now c.args.at c.in_ok-first.first (rw c.in_ok-first.was at c.skip_reference.ensures)).1

pub returns-in_err-second : goal.returns-in_err-second
returns-in_err-second c k l n e f =
    let r = c.in_ok-first.first in
    rw c.from_residual-in_err-second.ensures
    (pair_cut n c.args.job.now c.args.at k l r.next r.cited r.references (rw c.in_ok-first.was at (c.skip_reference.ensures k n e))
    (rw c.in_err-second.was at (c.skip_reference-2.ensures l n f)))

pub returns : goal.returns
returns c k l n e f =
    let r = c.in_ok-first.first in
    let q = c.in_ok-second.second in
    pair_to n c.args.job.now c.args.at k l r.next r.cited r.references (rw c.in_ok-first.was at (c.skip_reference.ensures k n e))
    q.next q.cited q.references (rw c.in_ok-second.was at (c.skip_reference-2.ensures l n f))
