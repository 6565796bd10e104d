-- `Printer::put_hex` meets its contract. Assumes nothing.
use mathlib.Core.Path.{refl}
use Rattle.printing.proofs.Printing.{prints}
use Rattle.printing.proofs.Printer.put_hex.Goals as goal

pub returns-clause-text : goal.returns-clause-text
returns-clause-text c = prints c.requires.0 refl c.hex_at-self.ensures
