-- `poolrun_text::page::Page::put_one` meets its contract. Assumes nothing.
use Rattle.definition.specs.Ascii.{decimal}
use Rattle.poolrun_text.proofs.Putting.{then_prints, reprinted}
use Rattle.poolrun_text.proofs.Texts.{labelled}
use Rattle.poolrun_text.proofs.page.Page.put_one.Goals as goal

pub returns-clause-line : goal.returns-clause-line
returns-clause-line c = let a = c.args in
    reprinted (labelled a.word.now (decimal a.n)) (then_prints c.put_word.ensures c.put_line.ensures.line)
