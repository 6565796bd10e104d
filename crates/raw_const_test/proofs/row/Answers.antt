-- `raw_const_test::row` meets its contract: the tests before the write are what it requires. Assumes nothing.
use Prim.Native.Nat.{◌-◌}
use native.Mathlib.Omega.{arith}
use lib.ListN.{length, take, drop}
use Rattle.raw_const.proofs.Rows.{row_size}
use Rattle.raw_const_test.proofs.row.Goals as goal

pub write_row-requires-clause-row_in_bounds : goal.write_row-requires-clause-row_in_bounds
write_row-requires-clause-row_in_bounds c =
    let row = take (length c.args.words.now - 1) (drop 1 c.args.words.now) in
    omega (arith, row_size row (omega arith))
