-- `texts::three_bytes` meets its contract. By the bytes that follow. Assumes nothing.
use native.Mathlib.Omega.{arith}
use Rattle.texts.proofs.FormsRead.{three_cut, three_cut-last, three_form, six_range}
use Rattle.texts.proofs.three_bytes.Goals as goal

pub returns-in_err-second : goal.returns-in_err-second
returns-in_err-second c = rw c.from_residual.ensures (three_cut c.args.bytes.now c.requires.0 c.requires.1 c.requires.2 c.in_err-second.ensures)

pub returns-in_err-third : goal.returns-in_err-third
returns-in_err-third c = rw c.from_residual-in_err-third.ensures (three_cut-last c.args.bytes.now c.requires.1 c.requires.2 c.in_ok-second.ensures.0 c.in_err-third.ensures)

pub overflow_mul-unit-2 : goal.overflow_mul-unit-2
overflow_mul-unit-2 c = omega (arith, c.in_ok-second.ensures.1, six_range c.args.bytes.now 1 c.in_ok-second.ensures.0)

pub overflow_add-unit-2 : goal.overflow_add-unit-2
overflow_add-unit-2 c =
    let bytes = c.args.bytes.now in
    omega (arith, c.in_ok-second.ensures.1, c.in_ok-third.ensures.1, six_range bytes 1 c.in_ok-second.ensures.0, six_range bytes 2 c.in_ok-third.ensures.0)

pub returns : goal.returns
returns c = let second = c.in_ok-second.ensures in
    let third = c.in_ok-third.ensures in
    rw (second.1, third.1) (three_form c.args.bytes.now c.requires.1 c.requires.2 second.0 third.0)
