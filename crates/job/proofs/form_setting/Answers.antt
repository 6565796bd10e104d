-- `job::form_setting` meets its contract. Assumes nothing.
use Rattle.std.specs.Prelude.{Err}
use Rattle.std.specs.Result.{result_ok}
use Rattle.std.proofs.Common.{rules}
use Rattle.refusal.specs.Numbers.{number, code_of}
use Rattle.refusal.specs.declared.Refusal.TheVariants.{Malformed}
use Rattle.folding.proofs.Constants.{missing}
use mathlib.Core.Path.{◌≡◌, refl, sym, ap, ◌∙◌}
use native.Mathlib.Omega.{arith}
use lib.ListN.{get_or}
use Rattle.definition.specs.Form.{cites_earlier}
use Rattle.job.specs.Forms.{tables_in, kids_in}
use Rattle.job.proofs.Settling.{found_there, number-room, number-there}
use Rattle.job.proofs.Stepping.{step_cut, setting_comes, setting_refused, setting_to}
use borrow.Author.Rules.{rules}
use Rattle.refusal.proofs.Numbers.{number_tag}
use Rattle.job.proofs.form_setting.Goals as goal

pub returns-in_err-setting : goal.returns-in_err-setting
unfolding number
returns-in_err-setting c = let a = c.args in
    let m = missing c.skip_definition.result Malformed c.in_err-setting.field-0.0 (sym c.ok_or.ensures.value ∙ c.in_err-setting.was) in
    let r : c.from_residual.result ≡ Err c.in_err-setting.field-0.0 = search rules in
    rw (r ∙ ap Err m.1)
    (step_cut a.counts a.job.now a.at a.opening c.requires.2 (rw m.0 at (c.skip_definition.ensures (tables_in a.counts) refl refl (get_or a.job.now a.at 0))))

pub setting_number-number-requires : goal.setting_number-number-requires
setting_number-number-requires c = let a = c.args in
    let p = c.requires in
    let v = rw (c.ok_or.ensures.ok_part ∙ ap result_ok c.in_ok-setting.was) at (c.skip_definition.ensures (tables_in a.counts) refl refl (get_or a.job.now a.at 0)) in
    let out = setting_comes a.counts a.job.now a.at a.opening p.2 p.3 in
    let f = found_there a.job.now a.at a.opening p.2 out (cites_earlier (tables_in a.counts)) kids_in c.in_ok-setting.setting.next c.in_ok-setting.setting.cited c.in_ok-setting.setting.references p.0 v in
    number-room a.job.now a.at a.opening p.2 out v.value c.in_ok-setting.setting.next f

pub returns-in_err-may_stand : goal.returns-in_err-may_stand
unfolding code_of
returns-in_err-may_stand c = let a = c.args in
    let p = c.requires in
    let v = rw (c.ok_or.ensures.ok_part ∙ ap result_ok c.in_ok-setting.was) at (c.skip_definition.ensures (tables_in a.counts) refl refl (get_or a.job.now a.at 0)) in
    let out = setting_comes a.counts a.job.now a.at a.opening p.2 p.3 in
    let f = found_there a.job.now a.at a.opening p.2 out (cites_earlier (tables_in a.counts)) kids_in c.in_ok-setting.setting.next c.in_ok-setting.setting.cited c.in_ok-setting.setting.references p.0 v in
    let told = c.setting_number-number.ensures ∙ number-there a.job.now a.at a.opening p.2 out v.value c.in_ok-setting.setting.next f in
    let r : c.from_residual-in_err-may_stand.result ≡ Err c.in_err-may_stand.field-0.0 = search rules in
    rw r (setting_refused a.counts a.job.now a.at a.opening p.2 c.in_ok-setting.setting.next c.in_ok-setting.setting.cited c.in_ok-setting.setting.references v p.3
    (number c.in_err-may_stand.field-0.0) (rw told at c.in_err-may_stand.ensures) (λ z. omega (arith, number_tag c.in_err-may_stand.field-0.0)))

pub counted-requires : goal.counted-requires
counted-requires c = let a = c.args in
    let p = c.requires in
    let v = rw (c.ok_or.ensures.ok_part ∙ ap result_ok c.in_ok-setting.was) at (c.skip_definition.ensures (tables_in a.counts) refl refl (get_or a.job.now a.at 0)) in
    record { most = a.at; bounded = p.1; small = omega (arith, v.past, v.within, c.well_formed) }

pub returns : goal.returns
unfolding code_of
returns c = let a = c.args in
    let p = c.requires in
    let v = rw (c.ok_or.ensures.ok_part ∙ ap result_ok c.in_ok-setting.was) at (c.skip_definition.ensures (tables_in a.counts) refl refl (get_or a.job.now a.at 0)) in
    let out = setting_comes a.counts a.job.now a.at a.opening p.2 p.3 in
    let f = found_there a.job.now a.at a.opening p.2 out (cites_earlier (tables_in a.counts)) kids_in c.in_ok-setting.setting.next c.in_ok-setting.setting.cited c.in_ok-setting.setting.references p.0 v in
    let told = c.setting_number-number.ensures ∙ number-there a.job.now a.at a.opening p.2 out v.value c.in_ok-setting.setting.next f in
    rw (c.counted.ensures, told)
    (setting_to a.counts a.job.now a.at a.opening p.2 c.in_ok-setting.setting.next c.in_ok-setting.setting.cited c.in_ok-setting.setting.references v p.3
    0 (rw told at c.in_ok-may_stand.ensures) refl p.1)
