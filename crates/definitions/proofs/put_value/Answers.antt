-- `definitions::put_value` meets its contract. Assumes nothing.
use mathlib.Core.Bool.{cond}
use mathlib.Core.Path.{◌≡◌, sym, ◌∙◌}
use Rattle.definition.specs.Shapes.{is_wide}
use Rattle.definitions.proofs.put_value.Goals.{then-is_long, else-is_long}
use native.Mathlib.Omega.{arith}
use borrow.Author.Rules.{rules}
use Rattle.store.specs.Store.{store}
use Rattle.store.specs.Regions.{VALUES}
use Rattle.store.proofs.Stores.{length-store}
use Rattle.store.proofs.Worked.{words_stand}
use Rattle.definitions.proofs.Valuing.{value-put}
use Rattle.definitions.proofs.put_value.Goals as goal

pub save-requires : goal.save-requires
save-requires c = (search rules, omega (arith, words_stand c.args.job.now c.args.at c.requires.2 c.requires.3 c.args.p.now c.requires.1 1 (omega arith)), omega arith)

pub save-requires-2 : goal.save-requires-2
save-requires-2 c = (search rules, words_stand c.args.job.now c.args.at c.requires.2 c.requires.3 c.args.p.now c.requires.1 1 (omega arith), omega arith)

pub returns : goal.returns
returns c = let a = c.args in let value = c.worked_at-value.result in let tag = c.tag_at in
    let lead : c.if-is_long.first ≡ cond (is_wide tag.result) value.high value.low =
    elim c.if-is_long.branch [
      | then-is_long w ↦ rw (sym c.is_long.ensures ∙ w.if-is_long.true) w.first-is
      | else-is_long w ↦ rw (sym c.is_long.ensures ∙ w.if-is_long.false) w.first-is
    ] in
    rw (c.save-2.ensures, c.save.ensures) (value-put a.job.now (store a.p.now a.w.now) a.at tag.result value.high value.low c.if-is_long.first tag.ensures c.worked_at-value.ensures lead (omega (arith, words_stand c.args.job.now c.args.at c.requires.2 c.requires.3 c.args.p.now c.requires.1 1 (omega arith), length-store a.p.now a.w.now VALUES)))
