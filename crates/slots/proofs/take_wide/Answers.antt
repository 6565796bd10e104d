-- `slots::take_wide` meets its contract: with a gap of two by `wide_met`, and without one by `wide_unmet`. Assumes nothing.
use mathlib.Core.Path.{ap}
use Rattle.std.proofs.Common.{set, rules}
use Rattle.laws.proofs.Slots.SlotRequest.{has_two}
use Rattle.slots.specs.Gaps.{gap_of}
use Rattle.slots.proofs.Answers.{wide_unmet, wide_fits, wide_met}
use Rattle.slots.proofs.take_wide.Goals as goal

pub take_front-requires : goal.take_front-requires
unfolding gap_of
take_front-requires c = wide_fits _ c.args.p _ (c.search-wide.ensures has_two (λ row b e. search rules)) c.requires c.if-wide-gaps.true

pub returns-then-wide-gaps : goal.returns-then-wide-gaps
unfolding gap_of
returns-then-wide-gaps c =
    wide_met _ c.args.p _ (c.search-wide.ensures has_two (λ row b e. search rules)) _ _ c.if-wide-gaps.true
    c.take_front.ensures.slot (ap (set c.args.gaps.now c.search-wide.result) c.take_front.ensures.rest)

pub returns : goal.returns
returns c = wide_unmet _ c.args.p _ (c.search-wide.ensures has_two (λ row b e. search rules)) c.if-wide-gaps.false
