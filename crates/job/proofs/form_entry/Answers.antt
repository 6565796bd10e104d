-- `job::form_entry` meets its contract. Assumes nothing.
use Rattle.std.specs.Prelude.{Err}
use Rattle.std.specs.Result.{result_ok}
use Rattle.std.proofs.Common.{rules}
use Rattle.refusal.specs.Numbers.{number}
use Rattle.refusal.specs.declared.Refusal.TheVariants.{Malformed}
use Rattle.folding.proofs.Constants.{missing}
use mathlib.Core.Path.{◌≡◌, refl, sym, ap, ◌∙◌}
use native.Mathlib.Omega.{arith}
use lib.ListN.{get_or}
use borrow.Author.Tests.{not-true, not-false}
use Rattle.job.specs.Forms.{tables_in}
use Rattle.job.proofs.Stepping.{step_cut, plain_comes, plain_full, plain_missing, plain_to}
use Rattle.job.proofs.Faults.{plain_no_setting}
use borrow.Author.Rules.{rules}
use Rattle.job.proofs.form_entry.Goals as goal

pub returns-in_err-entry : goal.returns-in_err-entry
unfolding number
returns-in_err-entry c = let a = c.args in
    let m = missing c.skip_definition.result Malformed c.in_err-entry.field-0.0 (sym c.ok_or.ensures.value ∙ c.in_err-entry.was) in
    let r : c.from_residual.result ≡ Err c.in_err-entry.field-0.0 = search rules in
    rw (r ∙ ap Err m.1)
    (step_cut a.counts a.job.now a.at a.opening c.requires.2 (rw m.0 at (c.skip_definition.ensures (tables_in a.counts) refl refl (get_or a.job.now a.at 0))))

pub returns-then-not-has_room : goal.returns-then-not-has_room
unfolding number
returns-then-not-has_room c = let a = c.args in
    let p = c.requires in
    let v = rw (c.ok_or.ensures.ok_part ∙ ap result_ok c.in_ok-entry.was) at (c.skip_definition.ensures (tables_in a.counts) refl refl (get_or a.job.now a.at 0)) in
    plain_full a.counts a.job.now a.at a.opening p.2 c.in_ok-entry.entry.next c.in_ok-entry.entry.cited c.in_ok-entry.entry.references v (plain_no_setting a.opening p.3) (sym c.has_room.ensures ∙ not-true c.has_room.result c.if-not-has_room.true-raw)

pub returns-then-not-entry : goal.returns-then-not-entry
unfolding number
returns-then-not-entry c = let a = c.args in
    let p = c.requires in
    let v = rw (c.ok_or.ensures.ok_part ∙ ap result_ok c.in_ok-entry.was) at (c.skip_definition.ensures (tables_in a.counts) refl refl (get_or a.job.now a.at 0)) in
    plain_missing a.counts a.job.now a.at a.opening p.2 c.in_ok-entry.entry.next c.in_ok-entry.entry.cited c.in_ok-entry.entry.references v (plain_no_setting a.opening p.3)
    (sym c.has_room.ensures ∙ not-false c.has_room.result c.if-not-has_room.false-raw)
    (not-true c.in_ok-entry.entry.cited c.if-not-entry.true)

pub counted-requires : goal.counted-requires
counted-requires c = let a = c.args in
    let p = c.requires in
    let v = rw (c.ok_or.ensures.ok_part ∙ ap result_ok c.in_ok-entry.was) at (c.skip_definition.ensures (tables_in a.counts) refl refl (get_or a.job.now a.at 0)) in
    record { most = a.at; bounded = p.1; small = omega (arith, v.past, v.within, c.well_formed) }

pub returns : goal.returns
returns c = let a = c.args in
    let p = c.requires in
    let v = rw (c.ok_or.ensures.ok_part ∙ ap result_ok c.in_ok-entry.was) at (c.skip_definition.ensures (tables_in a.counts) refl refl (get_or a.job.now a.at 0)) in
    rw c.counted.ensures
    (plain_to a.counts a.job.now a.at a.opening p.2 c.in_ok-entry.entry.next c.in_ok-entry.entry.cited c.in_ok-entry.entry.references v (plain_no_setting a.opening p.3)
    (sym c.has_room.ensures ∙ not-false c.has_room.result c.if-not-has_room.false-raw)
    (not-false c.in_ok-entry.entry.cited c.if-not-entry.false) (plain_comes a.counts a.job.now a.at a.opening p.2 p.3) p.1)
