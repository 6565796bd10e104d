-- `Printer::put_decimal` meets its contract. Assumes nothing.
use mathlib.Core.Path.{◌∙◌}
use Rattle.printing.proofs.Decimals.{decimal-is}
use Rattle.printing.proofs.Printing.{in_words}
use Rattle.printing.proofs.Printer.put_decimal.Goals as goal

pub returns-clause-text : goal.returns-clause-text
returns-clause-text c = in_words (c.decimal-k.ensures.digits ∙ decimal-is c.decimal-k.result c.args.n c.decimal-k.ensures.len) c.put_word.ensures.text
