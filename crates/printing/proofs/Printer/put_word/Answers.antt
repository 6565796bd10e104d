-- `Printer::put_word` meets its contract. Assumes nothing.
use mathlib.Core.Path.{refl}
use Rattle.printing.proofs.Printing.{prints}
use Rattle.printing.proofs.Printer.put_word.Goals as goal

pub returns-clause-text : goal.returns-clause-text
returns-clause-text c = prints c.requires refl c.word_at-self.ensures
