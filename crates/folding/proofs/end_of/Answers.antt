-- `folding::end_of` meets its contract. Assumes nothing.
use Rattle.folding.proofs.Parts.{stops, part_end}
use Rattle.folding.specs.Folding.{parts, Spans}
use Rattle.std.specs.Prelude.{Err}
use Rattle.std.proofs.Common.{rules}
use lib.ListN.{length, drop}
use native.Mathlib.Omega.{arith}
use mathlib.Core.Path.{◌≡◌, refl, sym, ap, ◌∙◌, subst}
use Rattle.folding.proofs.end_of.Goals as goal

pub loop-left-init : goal.loop-left-init
loop-left-init c = (omega arith, omega arith, omega arith, omega arith, refl)

pub token_at-requires : goal.token_at-requires
token_at-requires c = let i = c.loop-left.invariant in (i.1, c.loop-left-test.true, i.2)

pub loop-left-smaller : goal.loop-left-smaller
loop-left-smaller c = let i = c.loop-left.invariant in
    let m = c.in_ok-step.ensures in
    omega (arith, m.past, m.within, i.1)

pub loop-left-preserved : goal.loop-left-preserved
loop-left-preserved c = let i = c.loop-left.invariant in
    let m = c.in_ok-step.ensures in
    (omega (arith, m.past, i.0), m.within, m.few, omega (arith, m.past, i.0), i.4 ∙ m.same)

pub returns-in_err-step : goal.returns-in_err-step
returns-in_err-step c =
    let i = c.loop-left.invariant in
    let e : c.from_residual.result ≡ Err c.in_err-step.field-0.0 = search rules in
    subst (λ r. Spans c.args.job.now c.args.start r) (sym e) (stops _ _ _ _ c.in_err-step.field-0.0 i.0 i.4 c.in_err-step.ensures)

pub returns : goal.returns
unfolding parts
returns c = let s = c.args.job.now in
    let start = c.args.start in
    let i = c.loop-left.invariant in
    let z : c.loop-left.left ≡ 0 = omega arith in
    part_end s start c.loop-left.at (omega (arith, i.3)) i.1 (i.4 ∙ ap (λ n. parts (length s) n (drop c.loop-left.at s)) z)
