-- `poolrun_text::page::Page::put_bytes` meets its contract. Assumes nothing.
use Rattle.definition.specs.Blocks.{line}
use Rattle.poolrun_text.proofs.Putting.{then_prints}
use Rattle.poolrun_text.proofs.page.Page.put_bytes.Goals as goal

pub returns-clause-line : goal.returns-clause-line
unfolding line
returns-clause-line c = then_prints c.put_hex.ensures.digits c.put.ensures
