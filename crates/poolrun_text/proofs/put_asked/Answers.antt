-- `poolrun_text::put_asked` meets its contract. Assumes nothing.
use Rattle.definition.specs.Ascii.{ascii}
use Rattle.poolrun_text.specs.Text.{asked_text}
use Rattle.poolrun_text.proofs.Putting.{then_prints}
use Rattle.poolrun_text.proofs.put_asked.Goals as goal

pub returns-clause-text : goal.returns-clause-text
unfolding asked_text ascii
returns-clause-text c = then_prints c.put_one.ensures.line c.put_answers.ensures.lines
