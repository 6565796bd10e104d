-- `trace::run_both` meets its contract: what its calls give is a step. Assumes nothing.
use native.Mathlib.Omega.{arith}
use mathlib.Core.Bool.{Bool, not, ◌&&◌}
use mathlib.Core.Path.{◌≡◌, refl, sym, ap, ◌∙◌}
use Prim.Native.Nat.{◌*◌}
use lib.ListN.{get_or}
use lib.Dec.{eqb}
use borrow.Author.Tests.{eq-eqb, ne_eqb}
use Rattle.trace.specs.Step.{one}
use Rattle.trace.proofs.Stepping.{byte_one}
use Rattle.trace.proofs.Going.{one-step}
use Rattle.trace.proofs.run_both.Goals as goal
use Rattle.trace.proofs.run_both.Goals.{then-looks_up, else-looks_up, then-good, else-good}

pub returns : goal.returns
returns c =
    let good = c.run_step-good.result in
    let bare = c.run_step-bare.result in
    let action = get_or c.args.trace.now (4 * c.args.i) 0 in
    let failed : c.if-looks_up.from ≡ (eqb action 0 && not good) =
    elim c.if-looks_up.branch [
      | then-looks_up w ↦ w.from-is ∙ sym (ap (λ (x : Bool). x && not good) (eq-eqb action 0 w.if-looks_up.true))
      | else-looks_up w ↦ w.from-is ∙ ne_eqb action 0 w.if-looks_up.false ∙ sym (ap (λ (x : Bool). x && not good) (ne_eqb action 0 w.if-looks_up.false))
    ] in
    let rested : c.if-good.from ≡ (good && not bare) =
    elim c.if-good.branch [
      | then-good w ↦ w.from-is ∙ sym (ap (λ (x : Bool). x && not bare) w.if-good.true)
      | else-good w ↦ w.from-is ∙ w.if-good.false ∙ sym (ap (λ (x : Bool). x && not bare) w.if-good.false)
    ] in
    one-step (omega arith) refl refl c.get-number.ensures c.holds-right.ensures
    (c.run_step-good.ensures.value, c.run_step-good.ensures.flags_after)
    (c.run_step-bare.ensures.value, c.run_step-bare.ensures.flags_after)
    (c.from.ensures ∙ byte_one good)
    (c.from-2.ensures ∙ byte_one c.if-looks_up.from ∙ ap one failed)
    (c.from-3.ensures ∙ byte_one c.if-good.from ∙ ap one rested)
