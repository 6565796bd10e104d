-- `poolrun_text::put_last` meets its contract. Assumes nothing.
use Rattle.definition.specs.Ascii.{ascii}
use Rattle.poolrun_text.specs.Text.{last_text}
use Rattle.poolrun_text.proofs.Putting.{then_prints}
use Rattle.poolrun_text.proofs.put_last.Goals as goal

pub returns-clause-text : goal.returns-clause-text
unfolding last_text ascii
returns-clause-text c = then_prints (then_prints c.put_one.ensures.line c.put_class.ensures.text) c.put_one-2.ensures.line
