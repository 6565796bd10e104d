-- `output::content_of` meets its contract: slot 0 holds nothing, and any other what it owns. Assumes nothing.
use mathlib.Core.Path.{sym, ap, ◌∙◌}
use native.Mathlib.Omega.{arith}
use Rattle.output.specs.Contents.{owner_in}
use Rattle.store.specs.Store.{store}
use Rattle.output.proofs.Holding.{content_zero, content_owner}
use Rattle.output.proofs.content_of.Goals as goal

pub returns-then-slot-eq0 : goal.returns-then-slot-eq0
returns-then-slot-eq0 c = let a = c.args in sym (content_zero a.job.now (store a.p.now a.w.now) a.slot c.if-slot-eq0.true)

pub wide_before-requires : goal.wide_before-requires
wide_before-requires c = let q = c.requires in (q.0, q.1, q.2, q.3, omega arith, q.4)

pub owner_of-requires : goal.owner_of-requires
owner_of-requires c = let q = c.requires in (q.0, q.2, omega arith, q.4)

pub returns : goal.returns
returns c = let a = c.args in let t = store a.p.now a.w.now in c.owner_of.ensures ∙ ap (owner_in t a.slot) c.wide_before.ensures ∙ sym (content_owner a.job.now t a.slot (omega arith))
