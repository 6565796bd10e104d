-- `poolrun_text::page::Page::put_hex` meets its contract. The loop keeps: the digits of the bytes so far are put. Assumes nothing.
use native.Mathlib.Omega.{arith}
use Rattle.definition.specs.Basics.{concat}
use Rattle.definition.specs.Ascii.{hex}
use Rattle.poolrun_text.specs.Page.{two_digits_lem}
use Rattle.poolrun_text.proofs.Putting.{none-printed, then_prints, reprinted}
use Rattle.poolrun_text.proofs.Texts.{hex-more}
use Rattle.poolrun_text.proofs.page.Page.put_hex.Goals as goal

pub loop-b-init : goal.loop-b-init
unfolding hex concat
loop-b-init c = (omega arith, none-printed c.args.self.now)

pub loop-b-preserved : goal.loop-b-preserved
unfolding two_digits_lem
loop-b-preserved c = let l = c.loop-b in
    let step = c.put_byte.ensures in
    (omega (arith, l.invariant.0, step.behind.end_is), reprinted (hex-more c.args.s.now l.b-index (omega arith)) (then_prints l.invariant.1 step))
