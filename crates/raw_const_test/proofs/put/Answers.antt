-- `raw_const_test::put` meets its contract: the tests before the write are what it requires. Assumes nothing.
use mathlib.Core.Path.{refl}
use native.Mathlib.Omega.{arith}
use Rattle.raw_const.specs.Entries.{entry_of}
use Rattle.raw_const_test.proofs.put.Goals as goal

pub write_entry-requires-clause-entry_in_bounds : goal.write_entry-requires-clause-entry_in_bounds
unfolding entry_of
write_entry-requires-clause-entry_in_bounds c =
    let e = entry_of c.args.tag 6 c.in_ok-literal.literal.now 0x1234 0xabcd in
    omega (arith, c.entry_length.ensures e refl refl)
