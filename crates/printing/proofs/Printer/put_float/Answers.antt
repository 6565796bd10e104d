-- `Printer::put_float` meets its contract. Assumes nothing.
use Rattle.printing.specs.Numbers.{float}
use Rattle.printing.proofs.Printing.{both}
use Rattle.printing.proofs.Printer.put_float.Goals as goal

pub returns-clause-text : goal.returns-clause-text
unfolding float
returns-clause-text c = let bits = c.args.bits in
    both c.put_hex.ensures.text (both {u = float bits} c.put.ensures.text c.put_hex_string.ensures.text)
