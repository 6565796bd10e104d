-- `listing::opening::put_comma_before` meets its contract. Assumes nothing.
use native.Mathlib.Omega.{arith}
use Rattle.printing.proofs.Printing.{nothing_printed, in_words}
use Rattle.listing.proofs.Arguments.{no_comma, a_comma}
use Rattle.listing.proofs.opening.put_comma_before.Goals as goal

pub returns-then-k-gt0-clause-text : goal.returns-then-k-gt0-clause-text
returns-then-k-gt0-clause-text c = in_words (a_comma c.args.k (λ e. omega arith)) c.put_comma.ensures.text

pub returns-else-k-gt0-clause-text : goal.returns-else-k-gt0-clause-text
returns-else-k-gt0-clause-text c = in_words (no_comma c.args.k (omega arith)) (nothing_printed c.args.printer.now c.requires)
