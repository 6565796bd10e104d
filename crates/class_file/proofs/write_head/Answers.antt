-- `class_file::write_head` meets its contract: the magic number and the versions, one behind the other. Assumes nothing.
use native.Mathlib.Omega.{arith}
use Rattle.jvms.specs.Written.{bytes2, bytes4}
use Rattle.raw_const.proofs.Writes.{wrote_then}
use Rattle.class_file.proofs.write_head.Goals as goal

pub write_short-next-requires : goal.write_short-next-requires
unfolding bytes2 bytes4
write_short-next-requires c = omega arith

pub write_short-requires : goal.write_short-requires
unfolding bytes2 bytes4
write_short-requires c = omega arith

pub returns : goal.returns
unfolding bytes2 bytes4
returns c = let versions = wrote_then c.write_word-next.ensures (omega arith) c.write_short-next.ensures in
    wrote_then versions (omega arith) c.write_short.ensures
