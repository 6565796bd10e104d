-- `Printer::put_fraction` meets its contract. The loop keeps: the fraction that is left is the whole's. Assumes nothing.
use mathlib.Core.Path.{◌≡◌, refl, ◌∙◌}
use native.Mathlib.Omega.{arith}
use Rattle.printing.specs.Numbers.{hex_of, fraction}
use Rattle.printing.proofs.Printing.{in_words}
use Rattle.printing.proofs.Shown.{fraction-less, fraction-full, fraction-one}
use Rattle.printing.proofs.Printer.put_fraction.Goals as goal
use Rattle.printing.proofs.Printer.put_fraction.Goals.{then-loop-count-test+else-m-eq0, else-loop-count-test}

pub loop-count-init : goal.loop-count-init
loop-count-init c = (omega arith, omega arith, refl)

pub loop-count-preserved : goal.loop-count-preserved
loop-count-preserved c = let l = c.loop-count in
    (omega arith, omega arith, fraction-less l.count l.m (omega arith) c.if-m-eq0.true ∙ l.invariant.2)

pub returns-clause-text : goal.returns-clause-text
returns-clause-text c = let l = c.loop-count in
    let ended : hex_of l.count l.m ≡ fraction l.count l.m =
    elim c.loop-count-test.branch [ then-loop-count-test+else-m-eq0 w ↦ fraction-full l.count l.m w.if-m-eq0.false | else-loop-count-test w ↦ fraction-one l.count l.m (omega arith) ] in
    in_words (ended ∙ l.invariant.2) c.put_hex.ensures.text
