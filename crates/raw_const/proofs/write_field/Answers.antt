-- `raw_const::write_field` meets its contract: each field's bytes. Assumes nothing.
use native.Mathlib.Omega.{arith}
use Rattle.definition.specs.Bytes.{be2}
use Rattle.raw_const.proofs.write_field.Goals as goal

pub write_text-requires-clause-text_in_bounds : goal.write_text-requires-clause-text_in_bounds
unfolding be2
write_text-requires-clause-text_in_bounds c = let room = rw c.in-Text.is at c.requires.field_in_bounds in omega arith

pub write_short-requires : goal.write_short-requires
unfolding be2
write_short-requires c = let room = rw c.in-Index.is at c.requires.field_in_bounds in omega arith

pub write_short-requires-in-Bootstrap : goal.write_short-requires-in-Bootstrap
unfolding be2
write_short-requires-in-Bootstrap c = let room = rw c.in-Bootstrap.is at c.requires.field_in_bounds in omega arith
