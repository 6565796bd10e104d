-- `poolrun_text::put_named` meets its contract. Assumes nothing.
use Rattle.definition.specs.Ascii.{ascii}
use Rattle.definition.specs.Blocks.{class_text}
use Rattle.poolrun_text.proofs.Putting.{then_prints}
use Rattle.poolrun_text.proofs.put_named.Goals as goal

pub returns-clause-text : goal.returns-clause-text
unfolding class_text ascii
returns-clause-text c = then_prints c.put_one.ensures.line c.put_bytes.ensures.line
