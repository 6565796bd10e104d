-- `printing::digit` meets its contract: the text has each digit at its place. Assumes nothing.
use Rattle.definition.specs.Ascii.{ascii}
use Rattle.printing.proofs.Decimals.{hex_digits}
use Rattle.printing.proofs.digit.Goals as goal

pub returns : goal.returns
unfolding ascii
returns c = hex_digits c.args.n c.requires
