-- `resolver::resolve` meets its contract: what is left of the definition's run is the whole, and what is owed falls with each item.
-- Assumes nothing.
use mathlib.Core.Path.{refl, ◌∙◌}
use native.Mathlib.Omega.{arith}
use Rattle.refusal.specs.Numbers.{code_of}
use Rattle.std.proofs.lemmas.Result.{err_from_is_err_and}
use Rattle.store.specs.Regions.{COUNTS, STACK}
use Rattle.store.proofs.Laying.{work-sizes}
use Rattle.store.proofs.Stores.{length-store}
use Rattle.resolver.proofs.Going.{goal_fits, begin, visits_fit, resolving_next, end_refused, end-good}
use Rattle.resolver.proofs.Stepping.{few_of}
use Rattle.resolver.proofs.resolve.Goals as goal

pub load-visits-requires : goal.load-visits-requires
load-visits-requires c = let q = c.requires in (q.0, omega (arith, (work-sizes _ _ q.1).counts))

pub save-requires : goal.save-requires
save-requires c = let q = c.requires in (q.0, omega (arith, (work-sizes _ _ q.1).stack), goal_fits _ _ (few_of _ _ q.1).entries q.4)

pub loop-n-init : goal.loop-n-init
loop-n-init c = let q = c.requires in let a = c.args in (refl, begin _ _ _ _ _ c.save.ensures _ q.1 q.3 q.4 (length-store a.p.now a.w.now STACK) _ c.load-visits.ensures.word)

pub returns-in_err-n : goal.returns-in_err-n
unfolding code_of
returns-in_err-n c =
    let r = err_from_is_err_and c.from_residual.result c.from_residual.ensures.1 in
    rw (r.1, r.2)
    (end_refused _ _ _ _ _ c.save.ensures _ _ _ _ _ c.loop-n.invariant.1 c.loop-n-test.true c.in_err-n.ensures)

pub loop-n-preserved : goal.loop-n-preserved
loop-n-preserved c = (c.step.auto.w ∙ c.loop-n.invariant.0, resolving_next _ _ _ _ _ _ _ c.loop-n.invariant.1 _ c.loop-n-test.true _ c.in_ok-n.ensures)

pub save-requires-2 : goal.save-requires-2
save-requires-2 c = let q = c.requires in let z = c.loop-n.invariant in ((q.0.0, omega (arith, q.0.1, z.0, c.save.auto.w)), omega (arith, (work-sizes _ _ q.1).counts), omega (arith, visits_fit _ _ _ _ _ c.save.ensures _ _ _ q.5 z.1))

pub returns : goal.returns
unfolding code_of
returns c = let q = c.requires in let p = c.args.p.now in rw c.save-2.ensures (end-good _ _ _ _ _ c.save.ensures _ q.1 _ _ _ q.2 q.3 q.4 (omega (arith, (work-sizes _ _ q.1).counts, length-store p c.loop-n.w COUNTS)) c.loop-n-test.false c.loop-n.invariant.1)
