-- `class_file::is_named` meets its contract: no name slot and no bootstrap methods, or a slot that holds the name. Assumes nothing.
use native.Mathlib.Omega.{arith}
use mathlib.Core.Path.{◌∙◌}
use Rattle.class_file.proofs.Proper.{named_none, named_some}
use Rattle.class_file.proofs.is_named.Goals as goal

pub returns-then-parts-eq0 : goal.returns-then-parts-eq0
returns-then-parts-eq0 c slots noted = let p = c.args.parts.now in named_none slots p.name p.count c.if-parts-eq0.true

pub returns-else-parts-eq0 : goal.returns-else-parts-eq0
returns-else-parts-eq0 c slots noted = let p = c.args.parts.now in
    c.holds_name.ensures slots noted ∙ named_some slots p.name p.count (omega arith)
