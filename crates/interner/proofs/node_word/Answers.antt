-- `interner::node_word` meets its contract. By the two loads. Assumes nothing.
use Rattle.interner.proofs.node_word.Goals as goal

pub load-requires-2 : goal.load-requires-2
load-requires-2 c = (c.requires.0, rw c.load.ensures.word c.requires.2)

pub returns : goal.returns
returns c = rw (← c.load.ensures.word) c.load-2.ensures
