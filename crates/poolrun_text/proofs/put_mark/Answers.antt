-- `poolrun_text::put_mark` meets its contract. By the mark. Assumes nothing.
use native.Mathlib.Omega.{arith}
use mathlib.Core.Path.{◌≡◌}
use Rattle.poolrun_text.proofs.Putting.{reprinted}
use Rattle.poolrun_text.proofs.Texts.{mark_raw, mark_new, mark_old}
use Rattle.poolrun_text.proofs.put_mark.Goals as goal

pub returns-in-0-clause-mark : goal.returns-in-0-clause-mark
returns-in-0-clause-mark c = reprinted (mark_raw c.args.mark c.in-0.is) c.put_word.ensures

pub returns-in-1-clause-mark : goal.returns-in-1-clause-mark
returns-in-1-clause-mark c = reprinted (mark_new c.args.mark c.in-1.is) c.put_word-in-1.ensures

pub returns-in_default-clause-mark : goal.returns-in_default-clause-mark
returns-in_default-clause-mark c = reprinted (mark_old c.args.mark (omega (arith, c.in_default))) c.put_word-in_default.ensures
