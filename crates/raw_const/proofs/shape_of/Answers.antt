-- `raw_const::shape_of` meets its contract: the fields of a row are those of the shape that they make. Assumes nothing.
use Rattle.raw_const.proofs.Table.{by_first, by_one, by_two, by_none}
use Rattle.raw_const.proofs.shape_of.Goals as goal

pub returns-in_err-row_of : goal.returns-in_err-row_of
returns-in_err-row_of c = rw c.from_residual.ensures (by_none c.args.tag c.row_of.result c.row_of.ensures c.in_err-row_of.was)

pub returns-in-Text-default : goal.returns-in-Text-default
returns-in-Text-default c = by_first c.args.tag c.row_of.result c.row_of.ensures _ _ (rw (c.in-Text-default.is-0) at c.in_ok-row_of.was)

pub returns-in-Bits-default : goal.returns-in-Bits-default
returns-in-Bits-default c = by_first c.args.tag c.row_of.result c.row_of.ensures _ _ (rw (c.in-Bits-default.is-0) at c.in_ok-row_of.was)

pub returns-in-Kind-default : goal.returns-in-Kind-default
returns-in-Kind-default c = by_first c.args.tag c.row_of.result c.row_of.ensures _ _ (rw (c.in-Kind-default.is-0) at c.in_ok-row_of.was)

pub returns-in-Index-None : goal.returns-in-Index-None
returns-in-Index-None c = by_one c.args.tag c.row_of.result c.row_of.ensures (rw (c.in-Index-None.is-0, c.in-Index-None.is-1) at c.in_ok-row_of.was)

pub returns-in-Index-Some : goal.returns-in-Index-Some
returns-in-Index-Some c = by_two c.args.tag c.row_of.result c.row_of.ensures _ (rw (c.in-Index-Some.is-0, c.in-Index-Some.is-1) at c.in_ok-row_of.was)

pub returns-in-Bootstrap-default : goal.returns-in-Bootstrap-default
returns-in-Bootstrap-default c = by_first c.args.tag c.row_of.result c.row_of.ensures _ _ (rw (c.in-Bootstrap-default.is-0) at c.in_ok-row_of.was)
