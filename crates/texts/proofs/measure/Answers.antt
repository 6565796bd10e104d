-- `texts::measure` meets its contract. The loop keeps: the size so far, with that of the text of the units that are left, is the whole text's. Assumes nothing.
use native.Mathlib.Omega.{arith}
use Rattle.refusal.specs.Numbers.{number}
use Rattle.texts.specs.Answers.{answer}
use Rattle.texts.proofs.Writing.{measure_narrow, measured, measure_next, measure_end}
use Rattle.texts.proofs.measure.Goals as goal

pub returns-then-room-size : goal.returns-then-room-size
unfolding answer number
returns-then-room-size c = let args = c.args in
    measure_narrow args.room args.units.now (omega (arith, measure_next args.units.now c.loop-unit.unit-index (omega arith)))

pub loop-unit-preserved : goal.loop-unit-preserved
loop-unit-preserved c = (omega arith, omega (arith, measure_next c.args.units.now c.loop-unit.unit-index (omega arith)))

pub returns : goal.returns
unfolding answer
returns c = let args = c.args in
    let units = args.units.now in
    measured args.room units c.loop-unit.size (omega (arith, measure_end units c.loop-unit.unit-index (omega arith))) c.loop-unit.invariant.0
