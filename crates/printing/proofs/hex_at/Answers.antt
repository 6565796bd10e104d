-- `printing::hex_at` meets its contract. Assumes nothing.
use mathlib.Core.List.{◌∷◌}
use mathlib.Core.Path.{ap, sym, ◌∙◌}
use native.Mathlib.Omega.{arith}
use Rattle.printing.specs.Numbers.{hex_of}
use Rattle.printing.proofs.Printing.{all_left, less_left, left_as, none_left}
use Rattle.printing.proofs.Shown.{hex-next, hex-none}
use Rattle.printing.proofs.hex_at.Goals as goal

pub loop-unit-init : goal.loop-unit-init
loop-unit-init c = let a = c.args in
    (a.count, c.first_unit-unit.ensures, all_left a.out.now a.room a.start (hex_of a.count a.n) c.requires.0)

pub byte_at-at-requires : goal.byte_at-at-requires
byte_at-at-requires c = c.loop-unit.invariant.2.can

pub loop-unit-preserved : goal.loop-unit-preserved
loop-unit-preserved c = let a = c.args in
    let l = c.loop-unit in
    let d = hex-next l.invariant.0 l.unit a.n (omega arith) l.invariant.1 in
    (d.left, d.unit-is, less_left (left_as (d.digits_are ∙ ap (λ b. b ∷ hex_of d.left a.n) (sym c.digit.ensures)) l.invariant.2) c.byte_at-at.ensures)

pub shape_of-out : goal.shape_of-out
shape_of-out c = c.loop-unit.invariant.2.same

pub returns : goal.returns
returns c = let l = c.loop-unit in
    none_left (left_as (hex-none l.invariant.0 c.args.n (omega arith)) l.invariant.2)
