-- `job::skip_references` meets its contract. Assumes nothing.
use native.Mathlib.Omega.{arith}
use Rattle.definition.specs.Shapes.{constant}
use Rattle.definition.specs.Form.{count_of}
use Rattle.job.proofs.Entries.{reference-bounds}
use Rattle.job.proofs.Several.{none_passed, one-passed, passed-cut, all_passed}
use Rattle.job.proofs.skip_references.Goals as goal

pub loop-init : goal.loop-init
loop-init c = (omega arith, omega arith, λ n e. none_passed n c.args.job.now c.args.at c.args.n)

pub skip_reference-requires : goal.skip_reference-requires
skip_reference-requires c = c.loop.invariant.1

pub returns-in_err-reference : goal.returns-in_err-reference
unfolding count_of
returns-in_err-reference c n e =
    let a = c.args in
    let l = c.loop in
    rw c.from_residual.ensures
    (passed-cut n a.job.now a.at a.n l.counter l.next l.cited (l.invariant.2 n e) c.loop-test.true (rw c.in_err-reference.was at (c.skip_reference.ensures constant n e)))

pub loop-preserved : goal.loop-preserved
unfolding count_of
loop-preserved c =
    let a = c.args in
    let l = c.loop in
    let r = c.in_ok-reference.reference in
    let b = reference-bounds a.entries a.job.now l.next r (rw c.in_ok-reference.was at c.skip_reference.ensures) in (
      omega arith,
      b.1,
      λ n e.
          one-passed n a.job.now a.at a.n l.counter l.next l.cited (l.invariant.2 n e) r.next r.cited r.references c.loop-test.true
          (rw c.in_ok-reference.was at (c.skip_reference.ensures constant n e)),
    )

pub returns : goal.returns
returns c n e =
    let a = c.args in
    let l = c.loop in
    all_passed n a.job.now a.at a.n l.counter l.next l.cited (l.invariant.2 n e) (omega arith) l.invariant.0 l.invariant.1
