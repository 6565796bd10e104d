-- `slots::take_plain` meets its contract: with a gap that isn't too high by `plain_met`, and without one by `plain_high` and `plain_unmet`. Assumes nothing.
use mathlib.Core.Path.{ap}
use Rattle.std.proofs.Common.{set, rules}
use Rattle.definition.specs.Slots.{plain_ends}
use Rattle.slots.specs.Gaps.{gap_of}
use Rattle.slots.proofs.Answers.{plain_unmet, plain_high, plain_fits, plain_met}
use Rattle.slots.proofs.take_plain.Goals as goal
use Rattle.slots.proofs.take_plain.Goals.{else-plain-gaps-via-then-plain-gaps+else-not-is_too_high, else-plain-gaps-via-else-plain-gaps}

pub take_front-requires : goal.take_front-requires
unfolding gap_of
take_front-requires c =
    plain_fits _ c.args.p c.args.ldc _ (c.search-plain.ensures (plain_ends c.args.ldc) (λ row b e. search rules)) _ c.is_too_high.ensures
    c.if-plain-gaps.true c.requires c.if-not-is_too_high.true

pub returns-then-not-is_too_high : goal.returns-then-not-is_too_high
unfolding gap_of
returns-then-not-is_too_high c =
    plain_met _ c.args.p c.args.ldc _ (c.search-plain.ensures (plain_ends c.args.ldc) (λ row b e. search rules)) _ c.is_too_high.ensures
    c.if-plain-gaps.true _ _ c.if-not-is_too_high.true
    c.take_front.ensures.slot (ap (set c.args.gaps.now c.search-plain.result) c.take_front.ensures.rest)

pub returns : goal.returns
returns c =
    let found = c.search-plain.ensures (plain_ends c.args.ldc) (λ row b e. search rules) in
    elim c.else-plain-gaps.branch [
      | else-plain-gaps-via-then-plain-gaps+else-not-is_too_high w ↦
          plain_high _ c.args.p c.args.ldc _ found _ w.is_too_high.ensures w.if-plain-gaps.true w.if-not-is_too_high.false
      | else-plain-gaps-via-else-plain-gaps w ↦ plain_unmet _ c.args.p c.args.ldc _ found w.if-plain-gaps.false
    ]
