-- `poolrun_text::put_bootstraps` meets its contract. Assumes nothing.
use Rattle.definition.specs.Ascii.{ascii}
use Rattle.poolrun_text.specs.Text.{bootstraps_text}
use Rattle.poolrun_text.proofs.Putting.{then_prints}
use Rattle.poolrun_text.proofs.put_bootstraps.Goals as goal

pub returns-clause-text : goal.returns-clause-text
unfolding bootstraps_text ascii
returns-clause-text c = then_prints c.put_two.ensures.line c.put_bytes.ensures.line
