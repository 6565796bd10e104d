-- `texts::read_text` meets its contract. Each end is the definition's. Assumes nothing.
use native.Mathlib.Omega.{arith}
use lib.ListN.{length}
use Rattle.definition.specs.Texts.{read_text}
use Rattle.refusal.specs.Numbers.{number}
use Rattle.texts.specs.Answers.{answer}
use Rattle.texts.specs.Forms.{held}
use Rattle.texts.proofs.Ends.{ends-bad, ends-good}
use Rattle.texts.proofs.Reading.{is_text_lem, held-length, read_not, read_narrow_lem, read_good}
use Rattle.texts.proofs.read_text.Goals as goal

pub returns-in_default : goal.returns-in_default
unfolding answer number
returns-in_default c =
    let args = c.args in
    let room = length args.units.now in
    let text = args.text.now in
    let told = ends-bad (read_text room text) args.units.now (record { code = 25; place = 0 }) (read_not room text c.in_default.ensures) in
    record { result_value = told.0; units_after = told.1 }

pub returns-then-units-count : goal.returns-then-units-count
unfolding answer number
returns-then-units-count c =
    let args = c.args in
    let room = length args.units.now in
    let text = args.text.now in
    let told =
    ends-bad (read_text room text) args.units.now (record { code = 18; place = 0 })
    (read_narrow_lem room text c.in-Some.count c.in-Some.ensures c.if-units-count.true) in
    record { result_value = told.0; units_after = told.1 }

pub put_units-requires : goal.put_units-requires
put_units-requires c =
    let text = c.args.text.now in
    (is_text_lem 0 text c.in-Some.count c.in-Some.ensures, omega (arith, held-length 0 text c.in-Some.count c.in-Some.ensures))

pub returns : goal.returns
unfolding answer
returns c =
    let args = c.args in
    let room = length args.units.now in
    let text = args.text.now in
    let count = c.in-Some.count in
    let counted = c.in-Some.ensures in
    let told =
    ends-good (read_text room text) args.units.now (held text) c.put_units.new.units count
    (read_good room text count counted c.if-units-count.false) (held-length room text count counted) c.put_units.ensures in
    record { result_value = told.0; units_after = told.1 }
