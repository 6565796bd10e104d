-- `texts::put_text` meets its contract. The loop keeps: the text of the first units is written, and ends at `at`. Assumes nothing.
use mathlib.Core.Path.{◌∙◌}
use native.Mathlib.Omega.{arith}
use Rattle.texts.proofs.Writing.{put-room, put-more, put-size, put_all, put-none, size_none}
use Rattle.texts.proofs.put_text.Goals as goal

pub loop-unit-init : goal.loop-unit-init
loop-unit-init c = (size_none c.args.units.now, put-none c.args.units.now c.args.text.now)

pub put_form-at-requires : goal.put_form-at-requires
put_form-at-requires c = omega (arith, put-room c.args.units.now c.args.text.now c.loop-unit.unit-index (omega arith) c.requires)

pub loop-unit-preserved : goal.loop-unit-preserved
loop-unit-preserved c = let args = c.args in
    let put = c.put_form-at in (
      rw (put.ensures.value, c.loop-unit.invariant.0) (put-size args.units.now args.text.now c.loop-unit.unit-index (omega arith)),
      rw (put.ensures.text_after, c.loop-unit.invariant.0, c.loop-unit.invariant.1) (put-more args.units.now args.text.now c.loop-unit.unit-index (omega arith)),
    )

pub returns : goal.returns
returns c = let args = c.args in
    c.loop-unit.invariant.1 ∙ put_all args.units.now args.text.now c.loop-unit.unit-index (omega arith)
