-- `Printer::put_hex_string` meets its contract. Assumes nothing.
use mathlib.Core.Path.{◌≡◌}
use Prim.Native.Nat.{◌+◌, ◌*◌}
use native.Mathlib.Omega.{arith}
use Rattle.definition.specs.Ascii.{ascii}
use Rattle.printing.proofs.Printing.{both, in_words}
use Rattle.printing.proofs.Shown.{nan, positive, negative}
use Rattle.printing.proofs.Printer.put_hex_string.Goals as goal
use Rattle.printing.proofs.Printer.put_hex_string.Goals.{then-e-bias+else-m-gt0, else-e-bias}

pub returns-then-m-gt0-clause-text : goal.returns-then-m-gt0-clause-text
unfolding ascii
returns-then-m-gt0-clause-text c = in_words (nan c.args.bias c.args.digits c.args.sign c.args.e c.args.m (omega arith) (omega arith)) c.put_word.ensures.text

pub returns-then-sign-eq0-clause-text : goal.returns-then-sign-eq0-clause-text
returns-then-sign-eq0-clause-text c = let a = c.args in
    let number : a.e ≡ 2 * a.bias + 1 → a.m ≡ 0 =
    elim c.if-e-bias.branch [ then-e-bias+else-m-gt0 w ↦ λ h. omega arith | else-e-bias w ↦ λ h. absurd (omega arith) ] in
    in_words (positive a.bias a.digits a.sign a.e a.m number (omega arith)) c.put_magnitude.ensures.text

pub returns-clause-text : goal.returns-clause-text
returns-clause-text c = let a = c.args in
    let number : a.e ≡ 2 * a.bias + 1 → a.m ≡ 0 =
    elim c.if-e-bias.branch [ then-e-bias+else-m-gt0 w ↦ λ h. omega arith | else-e-bias w ↦ λ h. absurd (omega arith) ] in
    in_words (negative a.bias a.digits a.sign a.e a.m number (λ h. omega arith)) (both c.put.ensures.text c.put_magnitude-2.ensures.text)
