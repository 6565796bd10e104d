-- `poolrun_text::put_refusal` meets its contract. Assumes nothing.
use mathlib.Core.Path.{ap}
use Rattle.definition.specs.Ascii.{ascii}
use Rattle.poolrun_text.specs.Text.{refused_text}
use Rattle.poolrun_text.proofs.Putting.{reprinted}
use Rattle.poolrun_text.proofs.put_refusal.Goals as goal

pub returns : goal.returns
unfolding refused_text ascii
returns c = reprinted (ap (λ n. refused_text n c.args.refused.place) c.from-code.ensures) c.put_two.ensures.line
