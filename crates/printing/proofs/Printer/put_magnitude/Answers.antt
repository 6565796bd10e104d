-- `Printer::put_magnitude` meets its contract. Assumes nothing.
use native.Mathlib.Omega.{arith}
use Rattle.definition.specs.Ascii.{ascii}
use Rattle.printing.proofs.Printing.{both, in_words}
use Rattle.printing.proofs.Shown.{infinite, normal, nought, subnormal}
use Rattle.printing.proofs.Printer.put_magnitude.Goals as goal

pub returns-then-e-bias-clause-text : goal.returns-then-e-bias-clause-text
unfolding ascii
returns-then-e-bias-clause-text c = in_words (infinite c.args.bias c.args.digits c.args.e c.args.m (omega arith)) c.put_word.ensures.text

pub returns-then-e-gt0-clause-text : goal.returns-then-e-gt0-clause-text
unfolding ascii
returns-then-e-gt0-clause-text c = in_words (normal c.args.bias c.args.digits c.args.e c.args.m (λ h. omega arith) (omega arith)) (both c.put_word-then-e-gt0.ensures.text c.put_scaled.ensures.text)

pub returns-then-m-eq0-clause-text : goal.returns-then-m-eq0-clause-text
unfolding ascii
returns-then-m-eq0-clause-text c = in_words (nought c.args.bias c.args.digits c.args.e c.args.m (omega arith) (omega arith)) c.put_word-then-m-eq0.ensures.text

pub returns-clause-text : goal.returns-clause-text
unfolding ascii
returns-clause-text c = in_words (subnormal c.args.bias c.args.digits c.args.e c.args.m (omega arith) (λ h. omega arith)) (both c.put_word-2.ensures.text c.put_scaled-2.ensures.text)
