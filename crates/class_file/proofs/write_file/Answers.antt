-- `class_file::write_file` meets its contract: its four pieces, one behind the other. Assumes nothing.
use native.Mathlib.Omega.{arith}
use mathlib.Core.List.{List}
use Prim.Native.Nat.{ℕ, ◌+◌, ◌≤◌}
use lib.ListN.{length}
use Rattle.jvms.specs.Written.{bytes2, bytes4}
use Rattle.raw_const.proofs.Writes.{wrote_then, wrote_as}
use Rattle.class_file.specs.ClassFile.{Parts, class_bytes}
use Rattle.class_file.specs.Answers.{parts_of, attributes_of}
use Rattle.class_file.proofs.Pieces.{file_pieces, length-file}
use Rattle.class_file.proofs.write_file.Goals as goal

-- the room that the file takes
room :
    (p : Parts) (out : List ℕ) → length (class_bytes p) ≤ length out → 20 + length p.pool + length (attributes_of p.name p.count p.bootstraps) ≤ length out
room p out fits =
    omega (
      arith,
      length-file p.minor_version p.major_version p.pool p.access_flags p.this_class p.super_class p.name p.count p.bootstraps,
    )

pub write_head-next-requires : goal.write_head-next-requires
write_head-next-requires c = omega (arith, room (parts_of c.args.parts.now) c.args.out.now c.requires.bootstraps_in_bounds)

pub write_bytes-next-requires : goal.write_bytes-next-requires
unfolding bytes2 bytes4
write_bytes-next-requires c = omega (arith, room (parts_of c.args.parts.now) c.args.out.now c.requires.bootstraps_in_bounds)

pub write_members-next-requires : goal.write_members-next-requires
unfolding bytes2 bytes4
write_members-next-requires c = omega (arith, room (parts_of c.args.parts.now) c.args.out.now c.requires.bootstraps_in_bounds)

pub write_attributes-requires-clause-bootstraps_in_bounds : goal.write_attributes-requires-clause-bootstraps_in_bounds
unfolding bytes2 bytes4
write_attributes-requires-clause-bootstraps_in_bounds c = omega (arith, room (parts_of c.args.parts.now) c.args.out.now c.requires.bootstraps_in_bounds)

pub returns : goal.returns
unfolding bytes2 bytes4
returns c = let args = c.args in
    let pieces = file_pieces args.parts.now.minor args.parts.now.major args.parts.now.pool.now args.parts.now.access_flags args.parts.now.this_class args.parts.now.super_class args.parts.now.name args.parts.now.count args.parts.now.bootstraps.now in
    let fits = room (parts_of c.args.parts.now) c.args.out.now c.requires.bootstraps_in_bounds in
    let two = wrote_then c.write_head-next.ensures (omega (arith, fits)) c.write_bytes-next.ensures in
    let three = wrote_then two (omega (arith, fits)) c.write_members-next.ensures in
    wrote_as pieces (wrote_then three (omega (arith, fits)) c.write_attributes.ensures)
