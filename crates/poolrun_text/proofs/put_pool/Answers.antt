-- `poolrun_text::put_pool` meets its contract. Assumes nothing.
use Rattle.definition.specs.Ascii.{ascii}
use Rattle.poolrun_text.specs.Text.{pool_text}
use Rattle.poolrun_text.proofs.Putting.{then_prints}
use Rattle.poolrun_text.proofs.put_pool.Goals as goal

pub returns-clause-text : goal.returns-clause-text
unfolding pool_text ascii
returns-clause-text c = then_prints c.put_one.ensures.line c.put_bytes.ensures.line
