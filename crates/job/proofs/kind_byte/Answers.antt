-- `job::kind_byte` meets its contract. Assumes nothing.
use Rattle.std.specs.Prelude.{Some}
use mathlib.Core.Path.{ap, ◌∙◌}
use Rattle.job.proofs.Stored.{known, bootstrap_byte, handle_room, handle_byte, no_byte}
use borrow.Enum.Refused.{opened}
use Rattle.job.proofs.kind_byte.Goals as goal

pub returns-in_default : goal.returns-in_default
returns-in_default c = let a = c.args in
    bootstrap_byte a.job.now a.at _ _ c.tag_at.ensures c.opening_of.ensures.0 (opened c.in_default.in_default-own.keys2)

pub bounds-job-at : goal.bounds-job-at
bounds-job-at c = let a = c.args in
    handle_room a.job.now a.at _ _ c.tag_at.ensures c.opening_of.ensures.0 c.in-Constant.shape c.in-Constant.is (c.unwrap.ensures ∙ ap Some c.in-KindOne.is) c.requires

pub returns-in-KindOne : goal.returns-in-KindOne
returns-in-KindOne c = let a = c.args in
    (handle_byte a.job.now a.at _ _ c.tag_at.ensures c.opening_of.ensures.0 c.in-Constant.shape c.in-Constant.is (c.unwrap.ensures ∙ ap Some c.in-KindOne.is))

pub returns-in_default-unwrap : goal.returns-in_default-unwrap
returns-in_default-unwrap c = let a = c.args in
    no_byte a.job.now a.at _ _ c.tag_at.ensures c.opening_of.ensures.0 c.in-Constant.shape c.in-Constant.is _ c.unwrap.ensures (opened c.in_default-unwrap.in_default-unwrap-own.keys2)

pub unwrap-requires : goal.unwrap-requires
unwrap-requires c = known _ _ _ _ c.tag_at.ensures c.opening_of.ensures.0 c.in-Constant.shape c.in-Constant.is c.requires
