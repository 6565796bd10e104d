-- `Printer::put_power` meets its contract. Assumes nothing.
use native.Mathlib.Omega.{arith}
use Rattle.printing.proofs.Printing.{both, in_words}
use Rattle.printing.proofs.Shown.{power-high, power-low}
use Rattle.printing.proofs.Printer.put_power.Goals as goal

pub returns-then-bias-e-clause-text : goal.returns-then-bias-e-clause-text
returns-then-bias-e-clause-text c = in_words (power-high c.args.bias c.args.e (omega arith)) c.put_decimal.ensures.text

pub returns-else-bias-e-clause-text : goal.returns-else-bias-e-clause-text
returns-else-bias-e-clause-text c = in_words (power-low c.args.bias c.args.e (omega arith)) (both c.put.ensures.text c.put_decimal-else-bias-e.ensures.text)
