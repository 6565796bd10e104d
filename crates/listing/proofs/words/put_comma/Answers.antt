-- `listing::words::put_comma` meets its contract. Assumes nothing.
use Rattle.definition.specs.Ascii.{ascii}
use Rattle.listing.proofs.words.put_comma.Goals as goal

pub returns-clause-text : goal.returns-clause-text
unfolding ascii
returns-clause-text c = c.put_word.ensures.text
