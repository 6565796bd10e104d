-- `Printer::put` meets its contract. Assumes nothing.
use mathlib.Core.Path.{refl}
use Rattle.printing.proofs.Printing.{prints}
use Rattle.printing.proofs.Printer.put.Goals as goal

pub returns-clause-text : goal.returns-clause-text
returns-clause-text c = prints c.requires refl c.byte_at-self.ensures
