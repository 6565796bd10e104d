-- `poolrun_text::page::Page::put_decimal` meets its contract. Assumes nothing.
use mathlib.Core.Path.{◌∙◌}
use Rattle.printing.proofs.Decimals.{decimal-is}
use Rattle.poolrun_text.proofs.Putting.{reprinted}
use Rattle.poolrun_text.proofs.page.Page.put_decimal.Goals as goal

pub returns-clause-digits : goal.returns-clause-digits
returns-clause-digits c = let d = c.decimal-k in
    reprinted (d.ensures.digits ∙ decimal-is d.result c.args.n d.ensures.len) c.put_word.ensures
