-- `job::after_worked` meets its contract. Assumes nothing.
use Rattle.std.specs.Prelude.{Err}
use mathlib.Core.Path.{ap, ◌∙◌}
use mathlib.Core.Path.{subst}
use Prim.Native.Nat.{◌+◌}
use mathlib.Core.Option.{none, some}
use Rattle.folding.specs.Folding.{Spans}
use Rattle.job.proofs.Working.{worked-end, worked-uncut}
use Rattle.job.proofs.after_worked.Goals as goal

pub returns-in-Ok : goal.returns-in-Ok
returns-in-Ok c = let a = c.args in
    let h = subst (Spans a.job.now (a.at + 1)) c.in-Ok.is c.end_of.ensures in
    worked-end a.job.now a.at c.requires.1 (some h.what) c.in-Ok.next h.read h.within

pub returns-in-Err-BadByte : goal.returns-in-Err-BadByte
returns-in-Err-BadByte c = let a = c.args in
    let h = subst (Spans a.job.now (a.at + 1)) (c.in-Err-BadByte.is ∙ ap Err c.in-Err-BadByte.field-0-is) c.end_of.ensures in
    worked-end a.job.now a.at c.requires.1 none c.in-Err-BadByte.next h.0 h.2

pub returns-in-Err-Cut : goal.returns-in-Err-Cut
returns-in-Err-Cut c = let a = c.args in
    worked-uncut a.job.now a.at c.requires.1 (subst (Spans a.job.now (a.at + 1)) (c.in-Err-Cut.is ∙ ap Err c.in-Err-Cut.field-0-is) c.end_of.ensures) c.requires.0
