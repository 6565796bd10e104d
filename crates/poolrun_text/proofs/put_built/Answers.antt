-- `poolrun_text::put_built` meets its contract. Assumes nothing.
use Rattle.poolrun_text.specs.Text.{name_of}
use Rattle.poolrun_text.proofs.Putting.{then_prints, reprinted}
use Rattle.poolrun_text.proofs.Texts.{built_is}
use Rattle.poolrun_text.proofs.put_built.Goals as goal

pub returns : goal.returns
returns c = let a = c.args in
    let b = a.built in
    let texts = then_prints (then_prints (then_prints c.put_asked.ensures.text c.put_pool.ensures.text) c.put_bootstraps.ensures.text) c.put_last.ensures.text in
    reprinted (built_is a.answers.now a.marks.now a.pool.now b.bootstrap_count a.bootstraps.now b.name (name_of b.class_name a.class_name.now) b.visits) texts
