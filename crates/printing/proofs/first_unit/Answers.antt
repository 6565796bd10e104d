-- `printing::first_unit` meets its contract. Assumes nothing.
use mathlib.Core.Path.{◌≡◌, refl, ap, ◌∙◌}
use Prim.Native.Nat.{◌*◌}
use native.Mathlib.Omega.{arith}
use Rattle.printing.specs.Numbers.{unit_of}
use Rattle.printing.proofs.Shown.{unit-more, unit-low}
use Rattle.printing.proofs.first_unit.Goals as goal

pub loop-digit-init : goal.loop-digit-init
unfolding unit_of
loop-digit-init c = refl

pub overflow_mul-unit : goal.overflow_mul-unit
overflow_mul-unit c = omega (arith, unit-low c.loop-digit._digit (omega arith))

pub loop-digit-preserved : goal.loop-digit-preserved
loop-digit-preserved c = let l = c.loop-digit in
    ap (λ u. u * 16) l.invariant ∙ unit-more l._digit (omega arith)

pub returns : goal.returns
returns c = let all : c.loop-digit._digit ≡ c.args.count = omega arith in
    c.loop-digit.invariant ∙ ap unit_of all
