-- `poolrun_text::page::Page::put_two` meets its contract. Assumes nothing.
use Rattle.definition.specs.Ascii.{decimal}
use Rattle.poolrun_text.proofs.Putting.{then_prints, reprinted}
use Rattle.poolrun_text.proofs.Texts.{spaced}
use Rattle.poolrun_text.proofs.page.Page.put_two.Goals as goal

pub returns-clause-line : goal.returns-clause-line
returns-clause-line c = let a = c.args in
    let number = then_prints c.put_word.ensures c.put_decimal.ensures.digits in
    reprinted (spaced a.word.now (decimal a.n) (decimal a.m)) (then_prints (then_prints number c.put.ensures) c.put_line.ensures.line)
