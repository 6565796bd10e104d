-- `slots::take_narrow` meets its contract: with an odd gap that isn't too high by `narrow_met`, and else what `take_plain` answers by `narrow_high` and `narrow_past`. Assumes nothing.
use mathlib.Core.Path.{ap}
use Rattle.std.proofs.Common.{set, rules}
use Rattle.definition.specs.Slots.{is_odd}
use Rattle.slots.specs.Gaps.{gap_of}
use Rattle.slots.proofs.Answers.{narrow_past, narrow_high, narrow_fits, narrow_met}
use Rattle.slots.proofs.take_narrow.Goals as goal
use Rattle.slots.proofs.take_narrow.Goals.{else-odd-gaps-via-then-odd-gaps+else-not-is_too_high, else-odd-gaps-via-else-odd-gaps}

pub take_front-requires : goal.take_front-requires
unfolding gap_of
take_front-requires c =
    narrow_fits _ c.args.p c.args.ldc _ (c.search-odd.ensures is_odd (λ row b e. search rules)) _ c.is_too_high.ensures c.if-odd-gaps.true c.requires

pub returns-then-not-is_too_high : goal.returns-then-not-is_too_high
unfolding gap_of
returns-then-not-is_too_high c =
    narrow_met _ c.args.p c.args.ldc _ (c.search-odd.ensures is_odd (λ row b e. search rules)) _ c.is_too_high.ensures c.if-odd-gaps.true _ _
    c.if-not-is_too_high.true
    c.take_front.ensures.slot (ap (set c.args.gaps.now c.search-odd.result) c.take_front.ensures.rest)

pub returns : goal.returns
returns c =
    let found = c.search-odd.ensures is_odd (λ row b e. search rules) in
    elim c.else-odd-gaps.branch [
      | else-odd-gaps-via-then-odd-gaps+else-not-is_too_high w ↦
          narrow_high _ c.args.p c.args.ldc _ found _ w.is_too_high.ensures w.if-odd-gaps.true _ _ w.if-not-is_too_high.false c.take_plain.ensures
      | else-odd-gaps-via-else-odd-gaps w ↦
          narrow_past _ c.args.p c.args.ldc _ found _ _ w.if-odd-gaps.false c.take_plain.ensures
    ]
