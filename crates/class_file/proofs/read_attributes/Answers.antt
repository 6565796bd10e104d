-- `class_file::read_attributes` meets its contract: by the number of attributes. Assumes nothing.
use native.Mathlib.Omega.{arith}
use mathlib.Core.Path.{◌≡◌, sym, ap, ◌∙◌}
use Rattle.definition.specs.Basics.{good}
use Rattle.class_file.proofs.Refusing.{many-attributes, left_over}
use Rattle.class_file.proofs.Accepting.{accepts_none}
use Rattle.class_file.proofs.read_attributes.Goals as goal
use Rattle.class_file.proofs.read_attributes.Goals.{in_default-via-in-0+else-file-end, in_default-via-in_default-1}

pub returns-in-0 : goal.returns-in-0
returns-in-0 c = let a = c.args in
    ap good c.parts_at.ensures
    ∙ accepts_none a.file.now (λ i. (c.type_inv.file i).fits) a.end a.table.now c.requires (sym c.get.ensures ∙ c.in-0.is) c.if-file-end.true

pub returns-in_default : goal.returns-in_default
returns-in_default c = let a = c.args in
    elim c.in_default.branch [
      | in_default-via-in-0+else-file-end w ↦
          left_over a.file.now (λ i. (c.type_inv.file i).fits) a.end a.table.now c.requires (sym c.get.ensures ∙ w.in-0.is) w.if-file-end.false
      | in_default-via-in_default-1 w ↦
          many-attributes a.file.now (λ i. (c.type_inv.file i).fits) a.end a.table.now c.requires
          (λ e. let n : c.get.result ≡ 1 = c.get.ensures ∙ e in omega arith)
          (λ e. let n : c.get.result ≡ 0 = c.get.ensures ∙ e in omega arith)
    ]
