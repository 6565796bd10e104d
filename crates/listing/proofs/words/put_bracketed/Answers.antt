-- `listing::words::put_bracketed` meets its contract. Assumes nothing.
use Rattle.printing.proofs.Printing.{both}
use Rattle.listing.specs.Listing.{bracketed}
use Rattle.listing.proofs.words.put_bracketed.Goals as goal

pub returns-clause-text : goal.returns-clause-text
unfolding bracketed
returns-clause-text c = both c.put.ensures.text (both c.put_decimal.ensures.text c.put-2.ensures.text)
