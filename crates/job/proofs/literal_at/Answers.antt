-- `job::literal_at` meets its contract. Assumes nothing.
use Rattle.std.specs.Prelude.{Some}
use mathlib.Core.Path.{ap, ◌∙◌}
use native.Mathlib.Omega.{arith}
use Rattle.job.proofs.Stored.{known, bootstrap_literal, text_room, text_literal, bits-literal, no_literal_lem}
use borrow.Enum.Refused.{opened}
use Rattle.job.proofs.literal_at.Goals as goal

pub returns-in_default : goal.returns-in_default
returns-in_default c = let a = c.args in
    bootstrap_literal a.job.now a.at _ _ c.tag_at.ensures c.opening_of.ensures.0 (opened c.in_default.in_default-own.keys2)

pub get-n-requires : goal.get-n-requires
get-n-requires c = let a = c.args in
    omega (arith, text_room a.job.now a.at _ _ c.tag_at.ensures c.opening_of.ensures.0 c.in-Constant.shape c.in-Constant.is (c.unwrap.ensures ∙ ap Some c.in-Text.is) c.requires.0)

pub returns-in-Text : goal.returns-in-Text
returns-in-Text c = let a = c.args in
    rw c.get-n.ensures (text_literal a.job.now a.at _ _ c.tag_at.ensures c.opening_of.ensures.0 c.in-Constant.shape c.in-Constant.is (c.unwrap.ensures ∙ ap Some c.in-Text.is))

pub returns-in-Bits : goal.returns-in-Bits
returns-in-Bits c = let a = c.args in
    bits-literal a.job.now a.at _ _ c.tag_at.ensures c.opening_of.ensures.0 c.in-Constant.shape c.in-Constant.is c.requires.1 c.in-Bits.n (c.unwrap.ensures ∙ ap Some c.in-Bits.is)

pub returns-in_default-unwrap : goal.returns-in_default-unwrap
returns-in_default-unwrap c = let a = c.args in
    no_literal_lem a.job.now a.at _ _ c.tag_at.ensures c.opening_of.ensures.0 c.in-Constant.shape c.in-Constant.is _ c.unwrap.ensures (opened c.in_default-unwrap.in_default-unwrap-own.keys3)

pub unwrap-requires : goal.unwrap-requires
unwrap-requires c = known _ _ _ _ c.tag_at.ensures c.opening_of.ensures.0 c.in-Constant.shape c.in-Constant.is c.requires.0
