-- `definitions::put_entry` meets its contract. Assumes nothing.
use Rattle.definitions.proofs.put_entry.Goals as goal

pub returns : goal.returns
returns c = rw (c.save-4.ensures, c.save-3.ensures, c.save-2.ensures, c.save.ensures, c.load-first.ensures.word, c.load-place.ensures.word)
