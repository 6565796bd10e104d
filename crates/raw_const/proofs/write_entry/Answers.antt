-- `raw_const::write_entry` meets its contract: the fields of the tag's row, one behind the other, or nothing. Assumes nothing.
use native.Mathlib.Omega.{arith}
use lib.ListN.{length-append}
use mathlib.Core.List.{[], ◌∷◌, append-nil}
use Rattle.std.specs.Prelude.{None, Some}
use Rattle.raw_const.specs.Entries.{field_bytes}
use Rattle.raw_const.proofs.Table.{text_first, text_second, no_bytes, all_bytes, all_length}
use Rattle.raw_const.proofs.Writes.{wrote_as, wrote_then, wrote_nothing}
use Rattle.raw_const.proofs.write_entry.Goals as goal

pub returns-in_default : goal.returns-in_default
returns-in_default c =
    let e = c.args.entry.now in
    wrote_as (no_bytes e.tag e.kind e.literal.now e.first e.second c.row_of.result c.row_of.ensures c.in_default.is)
    (wrote_nothing c.args.out.now c.args.at)

pub write_byte-next-requires : goal.write_byte-next-requires
write_byte-next-requires c =
    let e = c.args.entry.now in
    omega (arith, c.requires.entry_in_bounds, all_length e.tag e.kind e.literal.now e.first e.second c.row_of.result c.row_of.ensures c.in-Some.first c.in-Some.second c.in-Some.is)

pub write_field-next-requires-clause-size_bound : goal.write_field-next-requires-clause-size_bound
write_field-next-requires-clause-size_bound c =
    λ t. c.requires.literal_fits.as_text (text_first c.args.entry.now.tag c.row_of.result c.row_of.ensures c.in-Some.first c.in-Some.second c.in-Some.is t)

pub write_field-next-requires-clause-field_in_bounds : goal.write_field-next-requires-clause-field_in_bounds
write_field-next-requires-clause-field_in_bounds c =
    let e = c.args.entry.now in
    omega (arith, c.requires.entry_in_bounds, c.write_byte-next.ensures.next, all_length e.tag e.kind e.literal.now e.first e.second c.row_of.result c.row_of.ensures c.in-Some.first c.in-Some.second c.in-Some.is)

pub write_field-requires-clause-size_bound : goal.write_field-requires-clause-size_bound
write_field-requires-clause-size_bound c =
    λ t. absurd (text_second c.args.entry.now.tag c.row_of.result c.row_of.ensures c.in-Some.first c.in-Some-second.field (rw c.in-Some-second.is at c.in-Some.is) t)

pub write_field-requires-clause-field_in_bounds : goal.write_field-requires-clause-field_in_bounds
write_field-requires-clause-field_in_bounds c =
    let e = c.args.entry.now in
    let size = all_length e.tag e.kind e.literal.now e.first e.second c.row_of.result c.row_of.ensures c.in-Some.first (Some c.in-Some-second.field) (rw c.in-Some-second.is at c.in-Some.is) in
    rw c.second_index-index.ensures
    (omega (arith, c.requires.entry_in_bounds, size, c.write_byte-next.ensures.next, c.write_field-next.ensures.next))

pub returns-in-Some-second : goal.returns-in-Some-second
returns-in-Some-second c =
    let e = c.args.entry.now in
    let room = c.requires.entry_in_bounds in
    let size = all_length e.tag e.kind e.literal.now e.first e.second c.row_of.result c.row_of.ensures c.in-Some.first (Some c.in-Some-second.field) (rw c.in-Some-second.is at c.in-Some.is) in
    let whole = all_bytes e.tag e.kind e.literal.now e.first e.second c.row_of.result c.row_of.ensures c.in-Some.first (Some c.in-Some-second.field) (rw c.in-Some-second.is at c.in-Some.is) in
    let front = wrote_then c.write_byte-next.ensures (omega (arith, room, size)) c.write_field-next.ensures in
    let joined = length-append (e.tag ∷ []) (field_bytes c.in-Some.first e.kind e.literal.now e.first) in
    wrote_as whole (wrote_then front (omega (arith, room, size, joined)) (rw c.second_index-index.ensures at c.write_field.ensures))

pub returns-in-None : goal.returns-in-None
returns-in-None c =
    let e = c.args.entry.now in
    let room = c.requires.entry_in_bounds in
    let size = all_length e.tag e.kind e.literal.now e.first e.second c.row_of.result c.row_of.ensures c.in-Some.first None (rw c.in-None.is at c.in-Some.is) in
    let whole = all_bytes e.tag e.kind e.literal.now e.first e.second c.row_of.result c.row_of.ensures c.in-Some.first None (rw c.in-None.is at c.in-Some.is) in
    wrote_as (rw append-nil at whole) (wrote_then c.write_byte-next.ensures (omega (arith, room, size)) c.write_field-next.ensures)
