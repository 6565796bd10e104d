-- `texts::first_form` meets its contract. By the first byte. Assumes nothing.
use mathlib.Core.Path.{sym, ◌∙◌}
use native.Mathlib.Omega.{arith}
use lib.ListN.{get_or}
use Rattle.laws.proofs.Texts.UnitsRead.{lead_zero, lead_follower, lead_high}
use Rattle.texts.proofs.FormsRead.{unit_none, no_lead, one_form}
use Rattle.texts.proofs.first_form.Goals as goal

pub returns-in_err-first : goal.returns-in_err-first
returns-in_err-first c = rw c.from_residual.ensures (unit_none c.args.bytes.now c.in_err-first.ensures.item.3)

pub returns-then-first-eq0 : goal.returns-then-first-eq0
returns-then-first-eq0 c =
    let bytes = c.args.bytes.now in
    let first = c.in_ok-first.ensures.item.3 in
    no_lead bytes first.0 (lead_zero (get_or bytes 0 0) (sym (first.1 0) ∙ c.if-first-eq0.true))

pub returns-then-first-lt128 : goal.returns-then-first-lt128
returns-then-first-lt128 c =
    let bytes = c.args.bytes.now in
    let first = c.in_ok-first.ensures.item.3 in
    rw (first.1 0) (one_form bytes first.0 (λ zero. c.if-first-eq0.false (first.1 0 ∙ zero)) (omega (arith, first.1 0)))

pub returns-then-first-lt192 : goal.returns-then-first-lt192
returns-then-first-lt192 c =
    let bytes = c.args.bytes.now in
    let first = c.in_ok-first.ensures.item.3 in
    no_lead bytes first.0 (lead_follower (get_or bytes 0 0) (omega (arith, first.1 0)) (omega (arith, first.1 0)))

pub two_bytes-requires : goal.two_bytes-requires
two_bytes-requires c =
    let first = c.in_ok-first.ensures.item.3 in
    (first.0, omega (arith, first.1 0), omega (arith, first.1 0))

pub three_bytes-requires : goal.three_bytes-requires
three_bytes-requires c =
    let first = c.in_ok-first.ensures.item.3 in
    (first.0, omega (arith, first.1 0), omega (arith, first.1 0))

pub returns : goal.returns
returns c =
    let bytes = c.args.bytes.now in
    let first = c.in_ok-first.ensures.item.3 in
    no_lead bytes first.0 (lead_high (get_or bytes 0 0) (omega (arith, first.1 0)))
