-- `folding::tag_at` meets its contract. Assumes nothing.
use native.Mathlib.Omega.{arith}
use Rattle.folding.proofs.FirstLeaf.{first_tells, later_kind, leaf_tells}
use Rattle.folding.proofs.tag_at.Goals as goal

pub loop-at-init : goal.loop-at-init
loop-at-init c = (c.requires, λ kind k. k)

pub loop-at-preserved : goal.loop-at-preserved
loop-at-preserved c = let i = c.loop-at.invariant in
    let high = c.if-job-at-le6.false in
    ((i.0.0, later_kind _ _ i.0.0 high i.0.1), λ kind k. later_kind _ _ kind high (i.1 kind k))

pub unreachable-requires : goal.unreachable-requires
unreachable-requires c = let k = c.loop-at.invariant.0 in omega (arith, (first_tells _ _ k.0 k.1).0)

pub returns-then-job-at-le6 : goal.returns-then-job-at-le6
returns-then-job-at-le6 c kind k = leaf_tells _ _ kind c.if-job-at-le6.true (c.loop-at.invariant.1 kind k)
