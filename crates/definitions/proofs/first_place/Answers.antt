-- `definitions::first_place` meets its contract. Assumes nothing.
use Rattle.definitions.proofs.Reading.{first_yes, first_no}
use mathlib.Core.Path.{sym, ◌∙◌}
use borrow.Author.Tests.{eqb-true, eqb-false}
use Rattle.definitions.proofs.first_place.Goals as goal

pub returns-then-is_handle : goal.returns-then-is_handle
returns-then-is_handle c = let args = c.args in
    first_yes args.tag args.at (eqb-true args.tag 15 (sym c.is_handle.ensures ∙ c.if-is_handle.true))

pub returns-else-is_handle : goal.returns-else-is_handle
returns-else-is_handle c = let args = c.args in
    first_no args.tag args.at (eqb-false args.tag 15 (sym c.is_handle.ensures ∙ c.if-is_handle.false))
