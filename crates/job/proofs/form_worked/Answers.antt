-- `job::form_worked` meets its contract. Assumes nothing.
use Rattle.std.specs.Prelude.{Err}
use Rattle.std.specs.Result.{result_ok}
use Rattle.std.proofs.Common.{rules}
use Rattle.refusal.specs.Numbers.{number, answer_of}
use Rattle.refusal.specs.declared.Refusal.TheVariants.{Malformed}
use Rattle.folding.proofs.Constants.{missing}
use mathlib.Core.Path.{◌≡◌, refl, sym, ap, ◌∙◌}
use native.Mathlib.Omega.{arith}
use Prim.Native.Nat.{◌+◌}
use lib.ListN.{get_or, drop}
use borrow.Author.Tests.{not-true, not-false}
use Rattle.job.specs.declared.Opening.TheVariants.{Expression}
use Rattle.job.specs.Forms.{is_plain, is_setting, tables_in}
use Rattle.job.proofs.Expressions.{worked-first, out_good, out_bad}
use Rattle.job.proofs.Stepping.{step_cut, bare_cited, plain_full, plain_refused, plain_to}
use borrow.Author.Rules.{rules}
use Rattle.job.proofs.form_worked.Goals as goal

pub returns-in_err-expression : goal.returns-in_err-expression
unfolding number
returns-in_err-expression c = let a = c.args in
    let m = missing c.skip_definition.result Malformed c.in_err-expression.field-0.0 (sym c.ok_or.ensures.value ∙ c.in_err-expression.was) in
    let r : c.from_residual.result ≡ Err c.in_err-expression.field-0.0 = search rules in
    rw (r ∙ ap Err m.1)
    (step_cut a.counts a.job.now a.at Expression c.requires.2 (rw m.0 at (c.skip_definition.ensures (tables_in a.counts) refl refl (get_or a.job.now a.at 0))))

pub returns-then-not-has_room : goal.returns-then-not-has_room
unfolding is_setting number
returns-then-not-has_room c = let a = c.args in
    let p = c.requires in
    let v = rw (c.ok_or.ensures.ok_part ∙ ap result_ok c.in_ok-expression.was) at (c.skip_definition.ensures (tables_in a.counts) refl refl (get_or a.job.now a.at 0)) in
    plain_full a.counts a.job.now a.at Expression p.2 c.in_ok-expression.expression.next c.in_ok-expression.expression.cited c.in_ok-expression.expression.references v refl
    (sym c.has_room.ensures ∙ not-true c.has_room.result c.if-not-has_room.true-raw)

pub counted-requires : goal.counted-requires
counted-requires c = let a = c.args in
    let p = c.requires in
    let v = rw (c.ok_or.ensures.ok_part ∙ ap result_ok c.in_ok-expression.was) at (c.skip_definition.ensures (tables_in a.counts) refl refl (get_or a.job.now a.at 0)) in
    record { most = a.at; bounded = p.1; small = omega (arith, v.past, v.within, c.well_formed) }

pub returns : goal.returns
unfolding is_plain is_setting answer_of
returns c = let a = c.args in
    let p = c.requires in
    let v = rw (c.ok_or.ensures.ok_part ∙ ap result_ok c.in_ok-expression.was) at (c.skip_definition.ensures (tables_in a.counts) refl refl (get_or a.job.now a.at 0)) in
    let room = c.has_room in
    let out = out_good (get_or a.job.now a.at 0) (drop (a.at + 1) a.job.now) (worked-first (get_or a.job.now a.at 0) p.2.0) c.in_ok-constant_at.field-0 c.in_ok-constant_at.ensures in
    rw c.counted.ensures
    (plain_to a.counts a.job.now a.at Expression p.2 c.in_ok-expression.expression.next c.in_ok-expression.expression.cited c.in_ok-expression.expression.references v refl
    (sym room.ensures ∙ not-false room.result c.if-not-has_room.false-raw)
    (bare_cited a.counts a.job.now a.at Expression p.2 c.in_ok-expression.expression.next c.in_ok-expression.expression.cited c.in_ok-expression.expression.references v refl) out p.1)

pub returns-in_err-constant_at : goal.returns-in_err-constant_at
unfolding is_plain is_setting answer_of
returns-in_err-constant_at c = let a = c.args in
    let p = c.requires in
    let v = rw (c.ok_or.ensures.ok_part ∙ ap result_ok c.in_ok-expression.was) at (c.skip_definition.ensures (tables_in a.counts) refl refl (get_or a.job.now a.at 0)) in
    let room = c.has_room in
    let out = out_bad (get_or a.job.now a.at 0) (drop (a.at + 1) a.job.now) (worked-first (get_or a.job.now a.at 0) p.2.0) (number c.in_err-constant_at.field-0.0) c.in_err-constant_at.ensures in
    let r : c.from_residual-in_err-constant_at.result ≡ Err c.in_err-constant_at.field-0.0 = search rules in
    rw r (plain_refused a.counts a.job.now a.at Expression p.2 c.in_ok-expression.expression.next c.in_ok-expression.expression.cited c.in_ok-expression.expression.references v refl
    (sym room.ensures ∙ not-false room.result c.if-not-has_room.false-raw)
    (bare_cited a.counts a.job.now a.at Expression p.2 c.in_ok-expression.expression.next c.in_ok-expression.expression.cited c.in_ok-expression.expression.references v refl) _ out)
