-- `raw_const::write_text` meets its contract: a length and a text, one behind the other. Assumes nothing.
use native.Mathlib.Omega.{arith}
use Rattle.definition.specs.Bytes.{be2}
use Rattle.raw_const.proofs.Writes.{wrote_then}
use Rattle.raw_const.proofs.write_text.Goals as goal

pub write_bytes-requires : goal.write_bytes-requires
unfolding be2
write_bytes-requires c = omega (arith, c.requires.text_in_bounds, c.write_short-next.ensures.next)

pub returns : goal.returns
unfolding be2
returns c = let room = c.requires.text_in_bounds in
    wrote_then c.write_short-next.ensures (omega (arith, room)) c.write_bytes.ensures
