-- `trace::Pool::holds` meets its contract. Assumes nothing.
use mathlib.Core.Bool.{not}
use mathlib.Core.Path.{ap, ◌∙◌}
use borrow.Author.Tests.{eq-eqb}
use Rattle.trace.proofs.Stepping.{never_zero, held-other}
use Rattle.trace.proofs.Pool.holds.Goals as goal

pub returns-then-tag-ne0 : goal.returns-then-tag-ne0
returns-then-tag-ne0 c = held-other c.args.self.now.bytes.now c.args.self.now.places.now c.args.slot c.args.tag c.tag_at.result c.if-tag-ne0.true c.tag_at.ensures

pub returns-else-tag-ne0 : goal.returns-else-tag-ne0
returns-else-tag-ne0 c =
    ap not (eq-eqb c.args.tag 0 c.if-tag-ne0.false)
    ∙ never_zero c.args.self.now.bytes.now c.args.self.now.places.now c.args.slot c.args.tag c.if-tag-ne0.false
