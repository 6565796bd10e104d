-- `printing::quoted_at` meets its contract. Assumes nothing.
use mathlib.Core.Path.{◌∙◌}
use native.Mathlib.Omega.{arith}
use lib.ListN.{drop}
use Rattle.printing.specs.Numbers.{quoted}
use Rattle.printing.specs.Printed.{Printed}
use Rattle.printing.proofs.Printing.{all_left, less_left, left_as, then, ready, reworded, any_past}
use Rattle.printing.proofs.Shown.{closed, next_closed, end_closed}
use Rattle.printing.proofs.quoted_at.Goals as goal
use Rattle.printing.proofs.quoted_at.Goals.{else-loop-b-test, then-loop-b-test+then-room-at}

pub loop-b-init : goal.loop-b-init
loop-b-init c = let p = c.byte_at-at in
    all_left p.new.out c.args.room p.result (closed c.args.text.now) (ready c.requires p.ensures)

pub escaped_at-at-requires : goal.escaped_at-at-requires
escaped_at-at-requires c = c.loop-b.invariant.can

pub loop-b-preserved : goal.loop-b-preserved
loop-b-preserved c = let l = c.loop-b in
    less_left (left_as (next_closed c.args.text.now l.b-index (omega arith)) l.invariant) c.escaped_at-at.ensures

pub byte_at-requires : goal.byte_at-requires
byte_at-requires c = c.loop-b.invariant.can

pub shape_of-out : goal.shape_of-out
shape_of-out c = c.byte_at.ensures.same ∙ c.loop-b.invariant.same ∙ c.byte_at-at.ensures.same

pub returns : goal.returns
unfolding quoted
returns c = let a = c.args in
    let l = c.loop-b in
    let p = c.byte_at in
    let rest = closed (drop l.b-index a.text.now) in
    let ended : Printed l.out a.room l.at rest p.new.out p.result =
    elim c.loop-b-test.branch [
      | else-loop-b-test w ↦ reworded (end_closed a.text.now l.b-index (omega arith)) p.ensures
      | then-loop-b-test+then-room-at w ↦ any_past rest l.invariant.can (omega arith) p.ensures
    ] in
    then c.requires c.byte_at-at.ensures (l.invariant.so p.new.out p.result ended)
