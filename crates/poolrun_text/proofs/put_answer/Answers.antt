-- `poolrun_text::put_answer` meets its contract. Assumes nothing.
use Rattle.definition.specs.Blocks.{line}
use Rattle.poolrun_text.proofs.Putting.{then_prints}
use Rattle.poolrun_text.proofs.put_answer.Goals as goal

pub returns-clause-line : goal.returns-clause-line
unfolding line
returns-clause-line c = then_prints (then_prints c.put_decimal.ensures.digits c.put_mark.ensures.mark) c.put.ensures
