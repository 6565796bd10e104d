-- `texts::put_form` meets its contract. By the form's size. Assumes nothing.
use mathlib.Core.List.{[], ◌∷◌}
use mathlib.Core.Path.{◌≡◌, sym, ◌∙◌}
use native.Mathlib.Omega.{arith}
use lib.ListN.{length}
use Rattle.definition.specs.Texts.{unit_bytes}
use Rattle.texts.specs.Forms.{in_two, in_three}
use Rattle.texts.proofs.Writing.{of_one, of_two, of_three, form-put}
use Rattle.texts.proofs.put_form.Goals as goal

pub overflow_cast-unit : goal.overflow_cast-unit
overflow_cast-unit c = omega (arith, of_one c.args.unit (sym c.form_size-size.ensures ∙ c.if-size-eq1.true))

pub returns-then-size-eq1 : goal.returns-then-size-eq1
returns-then-size-eq1 c = let told = let args = c.args in
    let size : length (unit_bytes args.unit) ≡ 1 = sym c.form_size-size.ensures ∙ c.if-size-eq1.true in
    form-put args.text.now args.at c.copy.new.dst (unit_bytes args.unit) (args.unit ∷ []) 1
    (c.copy.ensures) (of_one args.unit size).1 size in record { value = told.0; text_after = told.1 }

pub put_two-requires : goal.put_two-requires
put_two-requires c = let args = c.args in
    let size : length (unit_bytes args.unit) ≡ 2 = sym c.form_size-size.ensures ∙ c.if-size-eq2.true in
    ((of_two args.unit size).0, omega arith)

pub returns-then-size-eq2 : goal.returns-then-size-eq2
returns-then-size-eq2 c = let told = let args = c.args in
    let size : length (unit_bytes args.unit) ≡ 2 = sym c.form_size-size.ensures ∙ c.if-size-eq2.true in
    form-put args.text.now args.at c.put_two.new.text (unit_bytes args.unit) (in_two args.unit) 2
    c.put_two.ensures (of_two args.unit size).1 size in record { value = told.0; text_after = told.1 }

pub put_three-requires : goal.put_three-requires
put_three-requires c = let args = c.args in
    let sized = c.form_size-size in
    let form = of_three args.unit (λ e. c.if-size-eq1.false (sized.ensures ∙ e)) (λ e. c.if-size-eq2.false (sized.ensures ∙ e)) in
    omega (arith, form.0)

pub returns : goal.returns
returns c = let told = let args = c.args in
    let sized = c.form_size-size in
    let form = of_three args.unit (λ e. c.if-size-eq1.false (sized.ensures ∙ e)) (λ e. c.if-size-eq2.false (sized.ensures ∙ e)) in
    form-put args.text.now args.at c.put_three.new.text (unit_bytes args.unit) (in_three args.unit) 3
    c.put_three.ensures form.1 form.0 in record { value = told.0; text_after = told.1 }
