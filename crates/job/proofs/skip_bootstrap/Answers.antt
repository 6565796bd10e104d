-- `job::skip_bootstrap` meets its contract. Assumes nothing.
use Rattle.definition.specs.Shapes.{constant, to_many, bootstrap_shape}
use Rattle.definition.specs.Form.{count_of}
use mathlib.Core.List.{[], ◌∷◌}
use Prim.Native.Nat.{◌+◌}
use native.Mathlib.Omega.{arith}
use Rattle.job.proofs.Entries.{reference-bounds, several_bounds, to_cut, bootstrap_to, bootstrap_cut, arguments-cut}
use Rattle.job.proofs.skip_bootstrap.Goals as goal

pub returns-in_err-handle : goal.returns-in_err-handle
unfolding count_of bootstrap_shape
returns-in_err-handle c n e =
    rw c.from_residual.ensures (to_cut n c.args.job.now c.args.at constant (to_many ∷ []) (rw c.in_err-handle.was at (c.skip_reference.ensures constant n e)))

pub number_at-requires : goal.number_at-requires
number_at-requires c = (reference-bounds c.args.entries c.args.job.now c.args.at c.in_ok-handle.handle (rw c.in_ok-handle.was at c.skip_reference.ensures)).1

pub returns-in_err-n : goal.returns-in_err-n
unfolding count_of
returns-in_err-n c n e =
    let h = c.in_ok-handle.handle in
    rw c.from_residual-in_err-n.ensures
    (bootstrap_cut n c.args.job.now c.args.at h.next h.cited h.references (rw c.in_ok-handle.was at (c.skip_reference.ensures constant n e)) c.in_err-n.ensures)

pub returns-in_err-arguments : goal.returns-in_err-arguments
unfolding count_of
returns-in_err-arguments c n e =
    let h = c.in_ok-handle.handle in
    rw c.from_residual-in_err-arguments.ensures
    (arguments-cut n c.args.job.now c.args.at h.next h.cited h.references (rw c.in_ok-handle.was at (c.skip_reference.ensures constant n e)) c.in_ok-n.ensures.0
    (rw (c.in_err-arguments.was, c.in_ok-n.ensures.1) at (c.skip_references.ensures n e)))

pub overflow_add-result : goal.overflow_add-result
overflow_add-result c =
    let r = c.in_ok-arguments.arguments in
    let b = several_bounds c.args.entries c.in_ok-n.n c.args.job.now (c.in_ok-handle.handle.next + 2) r (rw c.in_ok-arguments.was at c.skip_references.ensures) in
    omega (arith, c.well_formed)

pub returns : goal.returns
unfolding count_of
returns c n e =
    let h = c.in_ok-handle.handle in
    let r = c.in_ok-arguments.arguments in
    bootstrap_to n c.args.job.now c.args.at h.next h.cited h.references (rw c.in_ok-handle.was at (c.skip_reference.ensures constant n e))
    r.next r.cited r.references c.in_ok-n.ensures.0 (rw (c.in_ok-arguments.was, c.in_ok-n.ensures.1) at (c.skip_references.ensures n e))
