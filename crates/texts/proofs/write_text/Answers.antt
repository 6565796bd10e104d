-- `texts::write_text` meets its contract. Each end is the definition's. Assumes nothing.
use mathlib.Core.Path.{◌≡◌}
use native.Mathlib.Omega.{arith}
use borrow.Author.Rules.{rules}
use lib.ListN.{length}
use Rattle.std.specs.Prelude.{Err}
use Rattle.definition.specs.Texts.{text_of, write_text}
use Rattle.texts.specs.Answers.{answer}
use Rattle.texts.proofs.Ends.{ends-bad, ends-good, result_bad}
use Rattle.texts.proofs.Writing.{measured_fits, write_good}
use Rattle.texts.proofs.write_text.Goals as goal

pub returns-in_err-size : goal.returns-in_err-size
unfolding answer
returns-in_err-size c =
    let args = c.args in
    let room = length args.text.now in
    let units = args.units.now in
    let same : c.from_residual.result ≡ Err c.in_err-size.field-0.0 = search rules in
    let told = ends-bad (write_text room units) args.text.now _ (result_bad (write_text room units) _ c.in_err-size.ensures) in
    rw same (record { result_value = told.0; text_after = told.1 })

pub put_text-requires : goal.put_text-requires
unfolding answer
put_text-requires c =
    let args = c.args in
    omega (arith, measured_fits (length args.text.now) args.units.now c.in_ok-size.size c.in_ok-size.ensures)

pub returns : goal.returns
unfolding answer
returns c =
    let args = c.args in
    let room = length args.text.now in
    let units = args.units.now in
    let size = c.in_ok-size.size in
    let fits = measured_fits room units size c.in_ok-size.ensures in
    let told = ends-good (write_text room units) args.text.now (text_of units) c.put_text.new.text size (write_good room units (omega arith)) fits.0 c.put_text.ensures in
    record { result_value = told.0; text_after = told.1 }
