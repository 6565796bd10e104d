-- `class_file::holds_name` meets its contract: a slot holds the name if its constant's place is noted and the name's bytes stand there.
-- Assumes nothing.
use mathlib.Core.Path.{sym, ◌∙◌}
use native.Mathlib.Omega.{arith}
use lib.ListN.{get_or}
use Rattle.class_file.proofs.Naming.{name_cut, name_nowhere, name_there}
use Rattle.class_file.proofs.holds_name.Goals as goal
use Rattle.class_file.proofs.holds_name.Goals.{then-at-eq0-via-then-at-eq0, then-at-eq0-via-else-at-eq0+then-bytes-lt19, then-at-eq0-via-else-at-eq0+else-bytes-lt19+then-bytes-at}

pub returns-then-at-eq0 : goal.returns-then-at-eq0
returns-then-at-eq0 c slots noted =
    let args = c.args in
    let at = get_or args.places.now args.name 0 in
    let nowhere = name_nowhere args.bytes.now slots args.places.now noted args.name in
    let there = name_there args.bytes.now slots args.places.now noted args.name (λ i. (c.type_inv.bytes i).fits) in
    elim c.then-at-eq0.branch [
      | then-at-eq0-via-then-at-eq0 w ↦ sym (nowhere w.if-at-eq0.true)
      | then-at-eq0-via-else-at-eq0+then-bytes-lt19 w ↦ sym (there (omega arith) ∙ name_cut args.bytes.now at (omega arith))
      | then-at-eq0-via-else-at-eq0+else-bytes-lt19+then-bytes-at w ↦ sym (there (omega arith) ∙ name_cut args.bytes.now at (omega arith))
    ]

pub returns : goal.returns
returns c slots noted = let args = c.args in
    let there = name_there args.bytes.now slots args.places.now noted args.name (λ i. (c.type_inv.bytes i).fits) (omega arith) in
    c.spells_name.ensures ∙ sym there
