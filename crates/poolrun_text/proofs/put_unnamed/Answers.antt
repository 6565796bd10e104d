-- `poolrun_text::put_unnamed` meets its contract. Assumes nothing.
use Rattle.definition.specs.Ascii.{ascii}
use Rattle.definition.specs.Blocks.{line, class_text}
use Rattle.poolrun_text.proofs.put_unnamed.Goals as goal

pub returns-clause-text : goal.returns-clause-text
unfolding class_text line ascii
returns-clause-text c = c.put_word.ensures
