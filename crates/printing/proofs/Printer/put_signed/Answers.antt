-- `Printer::put_signed` meets its contract. Assumes nothing.
use mathlib.Core.List.{◌∷◌}
use mathlib.Core.Path.{◌≡◌, ap, ◌∙◌}
use Prim.Native.Nat.{◌-◌, ◌*◌}
use native.Mathlib.Omega.{arith}
use Rattle.definition.specs.Ascii.{decimal}
use Rattle.printing.proofs.Printing.{both, in_words}
use Rattle.printing.proofs.Shown.{signed_low, signed_high}
use Rattle.printing.proofs.Printer.put_signed.Goals as goal

pub returns-then-n-half-clause-text : goal.returns-then-n-half-clause-text
returns-then-n-half-clause-text c = in_words (signed_low c.args.half c.args.n (omega arith)) c.put_decimal.ensures.text

pub returns-else-n-half-clause-text : goal.returns-else-n-half-clause-text
returns-else-n-half-clause-text c =
    let n = c.args.n in
    let half = c.args.half in
    let around : half - (n - half) ≡ 2 * half - n = omega arith in
    in_words (ap (λ m. 0x2d ∷ decimal m) around ∙ signed_high half n (omega arith)) (both c.put.ensures.text c.put_decimal-else-n-half.ensures.text)
