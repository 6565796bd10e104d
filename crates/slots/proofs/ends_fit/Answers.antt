-- `slots::ends_fit` meets its contract: the chain tests each row in turn, as `every` does each gap. Assumes nothing.
use Rattle.std.proofs.Common.{rules, ◌∙◌}
use Rattle.std.proofs.lemmas.Iterator.{YieldsList-from_slice}
use Rattle.std.proofs.lemmas.Iterator.Search.{all_from_yields_List}
use Rattle.slots.specs.Gaps.{gap_of, end_fits}
use Rattle.slots.proofs.Checks.{every-rows}
use Rattle.slots.proofs.ends_fit.Goals as goal

pub returns : goal.returns
returns c =
    all_from_yields_List (λ row. end_fits (gap_of row)) _ _ _ c.all.ensures.ran (YieldsList-from_slice c.args.gaps.now cc) (λ x b q e. search rules)
    ∙ every-rows c.args.gaps.now
