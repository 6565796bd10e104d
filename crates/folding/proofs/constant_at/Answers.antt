-- `folding::constant_at` meets its contract. Assumes nothing.
use Rattle.refusal.specs.Numbers.{number, answer_of}
use Rattle.std.specs.Prelude.{Err}
use lib.ListN.{drop}
use mathlib.Core.Path.{subst, ap, ◌∙◌}
use Rattle.folding.specs.Folding.{Spans}
use Rattle.folding.proofs.Constants.{ends-reads, whole-constant, cut-constant, bad_constant}
use Rattle.folding.proofs.constant_at.Goals as goal

pub folded_at-requires : goal.folded_at-requires
folded_at-requires c = ends-reads _ _ c.in-Ok.field-0 c.in-Ok.ensures

pub returns-in-Ok : goal.returns-in-Ok
returns-in-Ok c = whole-constant c.args.job.now c.args.at c.in-Ok.field-0 c.in-Ok.ensures _ c.folded_at.ensures

pub returns-in-Err-Cut : goal.returns-in-Err-Cut
unfolding answer_of number
returns-in-Err-Cut c =
    cut-constant c.args.job.now c.args.at (subst (λ r. Spans c.args.job.now c.args.at r) (c.in-Err-Cut.is ∙ ap Err c.in-Err-Cut.field-0-is) c.end_of.ensures)

pub returns-in-Err-BadByte : goal.returns-in-Err-BadByte
unfolding answer_of number
returns-in-Err-BadByte c =
    bad_constant c.args.job.now c.args.at (drop c.in-Err-BadByte.field-0-0 c.args.job.now)
    (subst (λ r. Spans c.args.job.now c.args.at r) (c.in-Err-BadByte.is ∙ ap Err c.in-Err-BadByte.field-0-is) c.end_of.ensures).0
