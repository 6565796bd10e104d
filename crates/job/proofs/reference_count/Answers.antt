-- `job::reference_count` meets its contract. Assumes nothing.
use Rattle.std.specs.Prelude.{Some}
use mathlib.Core.Path.{ap, ◌∙◌}
use Rattle.job.proofs.Stored.{known, kids_of, bootstrap_stands, count_room, bootstrap_count_lem, constant_count}
use borrow.Enum.Refused.{opened}
use Rattle.job.proofs.reference_count.Goals as goal

pub after_reference-behind-requires : goal.after_reference-behind-requires
after_reference-behind-requires c = let a = c.args in
    bootstrap_stands a.job.now a.at _ _ c.tag_at.ensures c.opening_of.ensures.0 (opened c.in_default.in_default-own.keys2) c.requires

pub get-requires : goal.get-requires
get-requires c = let a = c.args in
    count_room a.job.now a.at _ _ c.tag_at.ensures c.opening_of.ensures.0 (opened c.in_default.in_default-own.keys2) _ c.after_reference-behind.ensures c.requires

pub returns-in_default : goal.returns-in_default
returns-in_default c = let a = c.args in
    rw c.get.ensures (bootstrap_count_lem a.job.now a.at _ _ c.tag_at.ensures c.opening_of.ensures.0 (opened c.in_default.in_default-own.keys2) _ c.after_reference-behind.ensures)

pub returns-in-Text : goal.returns-in-Text
returns-in-Text c = let a = c.args in
    constant_count a.job.now a.at _ _ c.tag_at.ensures c.opening_of.ensures.0 c.in-Constant.shape c.in-Constant.is 0 (ap kids_of (c.unwrap.ensures ∙ ap Some c.in-Text.is))

pub returns-in-Bits : goal.returns-in-Bits
returns-in-Bits c = let a = c.args in
    constant_count a.job.now a.at _ _ c.tag_at.ensures c.opening_of.ensures.0 c.in-Constant.shape c.in-Constant.is 0 (ap kids_of (c.unwrap.ensures ∙ ap Some c.in-Bits.is))

pub returns-in-One : goal.returns-in-One
returns-in-One c = let a = c.args in
    constant_count a.job.now a.at _ _ c.tag_at.ensures c.opening_of.ensures.0 c.in-Constant.shape c.in-Constant.is 1 (ap kids_of (c.unwrap.ensures ∙ ap Some c.in-One.is))

pub returns-in-Two : goal.returns-in-Two
returns-in-Two c = let a = c.args in
    constant_count a.job.now a.at _ _ c.tag_at.ensures c.opening_of.ensures.0 c.in-Constant.shape c.in-Constant.is 2 (ap kids_of (c.unwrap.ensures ∙ ap Some c.in-Two.is))

pub returns-in-KindOne : goal.returns-in-KindOne
returns-in-KindOne c = let a = c.args in
    constant_count a.job.now a.at _ _ c.tag_at.ensures c.opening_of.ensures.0 c.in-Constant.shape c.in-Constant.is 1 (ap kids_of (c.unwrap.ensures ∙ ap Some c.in-KindOne.is))

pub returns-in-Dynamic : goal.returns-in-Dynamic
returns-in-Dynamic c = let a = c.args in
    constant_count a.job.now a.at _ _ c.tag_at.ensures c.opening_of.ensures.0 c.in-Constant.shape c.in-Constant.is 2 (ap kids_of (c.unwrap.ensures ∙ ap Some c.in-Dynamic.is))

pub unwrap-requires : goal.unwrap-requires
unwrap-requires c = known _ _ _ _ c.tag_at.ensures c.opening_of.ensures.0 c.in-Constant.shape c.in-Constant.is c.requires
