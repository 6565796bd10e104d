-- `Printer::put_double` meets its contract. Assumes nothing.
use Rattle.printing.specs.Numbers.{double}
use Rattle.printing.proofs.Printing.{both}
use Rattle.printing.proofs.Printer.put_double.Goals as goal

pub returns-clause-text : goal.returns-clause-text
unfolding double
returns-clause-text c = let bits = c.args.bits in
    both c.put_hex.ensures.text (both {u = double bits} c.put.ensures.text c.put_hex_string.ensures.text)
