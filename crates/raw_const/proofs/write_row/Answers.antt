-- `raw_const::write_row` meets its contract: a handle, the number of arguments, and the arguments, one behind the other.
-- Assumes nothing.
use native.Mathlib.Omega.{arith}
use lib.ListN.{length-drop}
use Rattle.definition.specs.Bytes.{be2}
use Rattle.raw_const.proofs.Writes.{wrote_then}
use Rattle.raw_const.proofs.Rows.{row_size, row_split, the_rest, rest_small}
use Rattle.raw_const.proofs.write_row.Goals as goal

pub write_short-next-requires : goal.write_short-next-requires
write_short-next-requires c = omega (arith, c.requires.row_in_bounds, row_size c.args.row.now c.requires.count_nonzero.0)

pub write_short-next-requires-2 : goal.write_short-next-requires-2
unfolding be2
write_short-next-requires-2 c = omega (arith, c.requires.row_in_bounds, row_size c.args.row.now c.requires.count_nonzero.0, c.write_short-next.ensures.next)

pub write_shorts-requires : goal.write_shorts-requires
unfolding be2
write_shorts-requires c =
    let row = c.args.row.now in
    record {
      by_index = rw (the_rest row) (rest_small row c.requires.by_index);
      words_in_bounds = rw (the_rest row, length-drop)
          (omega (arith, c.requires.row_in_bounds, row_size row c.requires.count_nonzero.0, c.write_short-next.ensures.next, c.write_short-next-2.ensures.next));
    }

pub returns : goal.returns
unfolding be2
returns c =
    let row = c.args.row.now in
    let size = row_size row c.requires.count_nonzero.0 in
    let room = c.requires.row_in_bounds in
    let head = wrote_then c.write_short-next.ensures (omega (arith, room, size)) c.write_short-next-2.ensures in
    rw (row_split row c.requires.count_nonzero.0) (wrote_then head (omega (arith, room, size)) (rw (the_rest row) at c.write_shorts.ensures))
