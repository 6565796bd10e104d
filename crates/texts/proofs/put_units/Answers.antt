-- `texts::put_units` meets its contract. The loop keeps: the first n units are written, and the others are those of the bytes that are left. Assumes nothing.
use mathlib.Core.Path.{◌∙◌}
use native.Mathlib.Omega.{arith}
use borrow.Author.Rules.{rules}
use Rattle.texts.specs.Forms.{held}
use Rattle.texts.proofs.Reading.{form-inside, text_held, turn, put-more, put-start, put_done}
use Rattle.texts.proofs.put_units.Goals as goal

pub loop-form-init : goal.loop-form-init
loop-form-init c = let text = c.args.text.now in
    (search rules, search rules, text_held text c.requires.0, put-start (held text) c.args.units.now, search rules)

pub offset_bounds-units-n : goal.offset_bounds-units-n
offset_bounds-units-n c =
    let form = c.in-Some.form in
    let text = c.args.text.now in
    omega (arith, turn text (held text) c.loop-form.at form.unit c.loop-form.n c.loop-form.invariant.2 form.size c.in-Some.ensures)

pub bounds-units-n : goal.bounds-units-n
bounds-units-n c =
    let form = c.in-Some.form in
    let text = c.args.text.now in
    omega (arith, turn text (held text) c.loop-form.at form.unit c.loop-form.n c.loop-form.invariant.2 form.size c.in-Some.ensures)

pub overflow_add-at : goal.overflow_add-at
overflow_add-at c =
    let form = c.in-Some.form in
    omega (arith, form-inside c.args.text.now c.loop-form.at form.unit form.size c.in-Some.ensures c.loop-form.invariant.0)

pub overflow_add-n : goal.overflow_add-n
overflow_add-n c =
    let form = c.in-Some.form in
    let text = c.args.text.now in
    omega (arith, turn text (held text) c.loop-form.at form.unit c.loop-form.n c.loop-form.invariant.2 form.size c.in-Some.ensures)

pub loop-form-smaller : goal.loop-form-smaller
loop-form-smaller c =
    let form = c.in-Some.form in
    omega (arith, c.in-Some.ensures.moves, form-inside c.args.text.now c.loop-form.at form.unit form.size c.in-Some.ensures c.loop-form.invariant.0)

pub loop-form-preserved : goal.loop-form-preserved
loop-form-preserved c =
    let form = c.in-Some.form in
    let text = c.args.text.now in
    let at = c.loop-form.at in
    let now = turn text (held text) at form.unit c.loop-form.n c.loop-form.invariant.2 form.size c.in-Some.ensures in (
      form-inside text at form.unit form.size c.in-Some.ensures c.loop-form.invariant.0,
      omega arith,
      now.left,
      rw c.loop-form.invariant.3 (put-more (held text) c.args.units.now c.loop-form.n form.unit now.within c.requires.1 now.unit-is),
      search rules,
    )

pub returns : goal.returns
returns c =
    let args = c.args in
    let text = args.text.now in
    c.loop-form.invariant.3
    ∙ put_done text (held text) args.units.now c.loop-form.at c.loop-form.n c.loop-form.invariant.0 c.in_default.ensures c.loop-form.invariant.2
