-- `class_file::write_members` meets its contract: six numbers, one behind the other. Assumes nothing.
use native.Mathlib.Omega.{arith}
use Prim.Native.Nat.{◌+◌, ◌≤◌}
use lib.ListN.{length}
use Rattle.jvms.specs.Written.{bytes2}
use Rattle.raw_const.proofs.Writes.{wrote_then}
use Rattle.class_file.proofs.write_members.Goals as goal

pub write_short-next-requires-2 : goal.write_short-next-requires-2
unfolding bytes2
write_short-next-requires-2 c = omega arith

pub write_short-next-requires-3 : goal.write_short-next-requires-3
unfolding bytes2
write_short-next-requires-3 c = omega arith

pub write_short-next-requires-4 : goal.write_short-next-requires-4
unfolding bytes2
write_short-next-requires-4 c = omega arith

pub write_short-next-requires-5 : goal.write_short-next-requires-5
unfolding bytes2
write_short-next-requires-5 c = omega arith

pub write_short-requires : goal.write_short-requires
unfolding bytes2
write_short-requires c = omega arith

pub returns : goal.returns
unfolding bytes2
returns c = let room : c.args.at + 12 ≤ length c.args.out.now = c.requires in
    let two = wrote_then c.write_short-next.ensures (omega (arith, room)) c.write_short-next-2.ensures in
    let three = wrote_then two (omega (arith, room)) c.write_short-next-3.ensures in
    let four = wrote_then three (omega (arith, room)) c.write_short-next-4.ensures in
    let five = wrote_then four (omega (arith, room)) c.write_short-next-5.ensures in
    wrote_then five (omega (arith, room)) c.write_short.ensures
