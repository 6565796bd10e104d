-- `texts::two_bytes` meets its contract. By the byte that follows. Assumes nothing.
use native.Mathlib.Omega.{arith}
use Rattle.texts.proofs.FormsRead.{two-cut, two-form, six_range}
use Rattle.texts.proofs.two_bytes.Goals as goal

pub returns-in_err-second : goal.returns-in_err-second
returns-in_err-second c = rw c.from_residual.ensures (two-cut c.args.bytes.now c.requires.0 c.requires.1 c.requires.2 c.in_err-second.ensures)

pub overflow_add-unit : goal.overflow_add-unit
overflow_add-unit c = omega (arith, c.in_ok-second.ensures.1, six_range c.args.bytes.now 1 c.in_ok-second.ensures.0)

pub returns : goal.returns
returns c = let six = c.in_ok-second.ensures in
    rw six.1 (two-form c.args.bytes.now c.requires.1 c.requires.2 six.0)
