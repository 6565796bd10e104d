-- `Printer::put_scaled` meets its contract. Assumes nothing.
use Rattle.printing.specs.Numbers.{scaled}
use Rattle.printing.proofs.Printing.{both}
use Rattle.printing.proofs.Printer.put_scaled.Goals as goal

pub returns-clause-text : goal.returns-clause-text
unfolding scaled
returns-clause-text c = both c.put_fraction.ensures.text (both c.put.ensures.text c.put_power.ensures.text)
