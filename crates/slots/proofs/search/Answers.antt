-- `slots::search` meets its contract: the loop keeps `Rest`, that the search from here on ends where the whole search does. Assumes nothing.
use mathlib.Core.Path.{refl, sym, ◌∙◌}
use mathlib.Core.Logic.{inl, inr}
use Rattle.std.proofs.Common.{◌≡◌, length, arith}
use Rattle.facts.proofs.Lists.{order}
use Rattle.slots.proofs.Scans.{passed, found, ended}
use Rattle.slots.proofs.search.Goals as goal

pub returns-then-will_do : goal.returns-then-will_do
returns-then-will_do g c p is =
    found p _ _ _ (c.loop-at.invariant p is) c.loop-at-test.true (sym (is _ _ c.will_do.ensures) ∙ c.if-will_do.true)

pub loop-at-preserved : goal.loop-at-preserved
loop-at-preserved g c p is =
    passed p _ _ _ (c.loop-at.invariant p is) c.loop-at-test.true (sym (is _ _ c.will_do.ensures) ∙ c.if-will_do.false)

pub returns : goal.returns
returns g c p is =
    elim (order c.args.from (length c.args.gaps.now)) [
      | inl h ↦ (let same : c.max.result ≡ c.loop-at.at = omega arith in same ∙ ended p _ _ _ (c.loop-at.invariant p is) (omega arith))
      | inr h ↦ (let same : c.max.result ≡ c.args.from = omega arith in same ∙ ended p c.args.gaps.now _ c.args.from refl h)
    ]
