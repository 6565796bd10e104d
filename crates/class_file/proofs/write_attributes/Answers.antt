-- `class_file::write_attributes` meets its contract: the number of attributes, and the items of the one that there may be, one behind the other. Assumes nothing.
use native.Mathlib.Omega.{arith}
use mathlib.Core.List.{List}
use mathlib.Core.Path.{sym}
use Prim.Native.Nat.{ℕ, ◌+◌, ◌<◌, ◌≤◌}
use lib.ListN.{length}
use Rattle.jvms.specs.Written.{bytes2, bytes4}
use Rattle.raw_const.proofs.Writes.{wrote_then, wrote_as}
use Rattle.class_file.specs.Answers.{attributes_of}
use Rattle.class_file.proofs.Pieces.{attributes-none, attributes-one, length-one}
use Rattle.class_file.proofs.write_attributes.Goals as goal

-- the room that an attribute takes
room :
    (name count : ℕ) (b out : List ℕ) (at : ℕ) → 0 < name → at + length (attributes_of name count b) ≤ length out →
    at + (10 + length b) ≤ length out
room name count b out at h fits = omega (arith, length-one name count b h)

pub write_short-requires : goal.write_short-requires
unfolding bytes2
write_short-requires c = let none = attributes-none c.args.parts.now.name c.args.parts.now.count c.args.parts.now.bootstraps.now c.if-parts-eq0.true in
    rw none at c.requires.bootstraps_in_bounds

pub returns-then-parts-eq0 : goal.returns-then-parts-eq0
returns-then-parts-eq0 c = let none = attributes-none c.args.parts.now.name c.args.parts.now.count c.args.parts.now.bootstraps.now c.if-parts-eq0.true in
    wrote_as (sym none) c.write_short.ensures

pub write_short-next-requires : goal.write_short-next-requires
write_short-next-requires c = omega (arith, room c.args.parts.now.name c.args.parts.now.count c.args.parts.now.bootstraps.now c.args.out.now c.args.at (omega arith) c.requires.bootstraps_in_bounds)

pub write_short-next-requires-2 : goal.write_short-next-requires-2
unfolding bytes2
write_short-next-requires-2 c = omega (arith, room c.args.parts.now.name c.args.parts.now.count c.args.parts.now.bootstraps.now c.args.out.now c.args.at (omega arith) c.requires.bootstraps_in_bounds)

pub write_word-next-requires : goal.write_word-next-requires
unfolding bytes2
write_word-next-requires c = omega (arith, room c.args.parts.now.name c.args.parts.now.count c.args.parts.now.bootstraps.now c.args.out.now c.args.at (omega arith) c.requires.bootstraps_in_bounds)

pub write_short-next-requires-3 : goal.write_short-next-requires-3
unfolding bytes2 bytes4
write_short-next-requires-3 c = omega (arith, room c.args.parts.now.name c.args.parts.now.count c.args.parts.now.bootstraps.now c.args.out.now c.args.at (omega arith) c.requires.bootstraps_in_bounds)

pub write_bytes-requires : goal.write_bytes-requires
unfolding bytes2 bytes4
write_bytes-requires c = omega (arith, room c.args.parts.now.name c.args.parts.now.count c.args.parts.now.bootstraps.now c.args.out.now c.args.at (omega arith) c.requires.bootstraps_in_bounds)

pub returns : goal.returns
unfolding bytes2 bytes4
returns c = let one = attributes-one c.args.parts.now.name c.args.parts.now.count c.args.parts.now.bootstraps.now (omega arith) in
    let fits = room c.args.parts.now.name c.args.parts.now.count c.args.parts.now.bootstraps.now c.args.out.now c.args.at (omega arith) c.requires.bootstraps_in_bounds in
    let named = wrote_then c.write_short-next.ensures (omega (arith, fits)) c.write_short-next-2.ensures in
    let measured = wrote_then named (omega (arith, fits)) c.write_word-next.ensures in
    let counted = wrote_then measured (omega (arith, fits)) c.write_short-next-3.ensures in
    wrote_as (sym one) (wrote_then counted (omega (arith, fits)) c.write_bytes.ensures)
