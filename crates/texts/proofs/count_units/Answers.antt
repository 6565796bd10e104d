-- `texts::count_units` meets its contract. The loop keeps: the units counted, and those of the bytes that are left. Assumes nothing.
use mathlib.Core.Path.{sym, ◌∙◌}
use native.Mathlib.Omega.{arith}
use borrow.Author.Rules.{rules}
use Rattle.texts.proofs.Reading.{form-inside, count_start, count_next, count_none, count_end}
use Rattle.texts.proofs.count_units.Goals as goal

pub loop-form-init : goal.loop-form-init
loop-form-init c = (search rules, search rules, count_start c.args.text.now)

pub overflow_add-at : goal.overflow_add-at
overflow_add-at c =
    let form = c.in-Some.form in
    omega (arith, form-inside c.args.text.now c.loop-form.at form.unit form.size c.in-Some.ensures c.loop-form.invariant.0)

pub overflow_add-n : goal.overflow_add-n
overflow_add-n c =
    let form = c.in-Some.form in
    omega (arith, c.in-Some.ensures.moves, form-inside c.args.text.now c.loop-form.at form.unit form.size c.in-Some.ensures c.loop-form.invariant.0)

pub loop-form-smaller : goal.loop-form-smaller
loop-form-smaller c =
    let form = c.in-Some.form in
    omega (arith, c.in-Some.ensures.moves, form-inside c.args.text.now c.loop-form.at form.unit form.size c.in-Some.ensures c.loop-form.invariant.0)

pub loop-form-preserved : goal.loop-form-preserved
loop-form-preserved c =
    let form = c.in-Some.form in
    let text = c.args.text.now in
    let at = c.loop-form.at in (
      form-inside text at form.unit form.size c.in-Some.ensures c.loop-form.invariant.0,
      omega (arith, c.in-Some.ensures.moves),
      c.loop-form.invariant.2 ∙ count_next text at form.unit form.size c.loop-form.n c.in-Some.ensures,
    )

pub returns-then-at-text : goal.returns-then-at-text
returns-then-at-text c = sym (c.loop-form.invariant.2 ∙ count_end c.args.text.now c.loop-form.at c.loop-form.n (omega arith))

pub returns-else-at-text : goal.returns-else-at-text
returns-else-at-text c = sym (c.loop-form.invariant.2 ∙ count_none c.args.text.now c.loop-form.at c.loop-form.n (omega arith) c.in_default.ensures)
