-- `sym_refs::hash_name` meets its contract. Assumes nothing.
use lib.ListN.{get_or}
use Prim.Native.Nat.{◌+◌}
use native.Mathlib.Omega.{arith}
use Rattle.sym_refs.proofs.Wording.{label_is}
use Rattle.sym_refs.proofs.Comparing.{name_room, part_size, part_long}
use borrow.Author.Rules.{rules}
use Rattle.sym_refs.proofs.hash_name.Goals as goal

pub bounds-job-at : goal.bounds-job-at
bounds-job-at c = (name_room _ _ c.requires).0

pub slice_bounds-hash_bytes-end : goal.slice_bounds-hash_bytes-end
slice_bounds-hash_bytes-end c = let a = c.args in omega (arith, name_room a.job.now a.at c.requires)

pub hash_bytes-requires : goal.hash_bytes-requires
hash_bytes-requires c = let a = c.args in (search rules, rw (part_long a.job.now a.at c.requires) (search rules))

pub returns : goal.returns
returns c = let a = c.args in rw (label_is a.job.now a.at) (rw (part_size (a.at + 1) (get_or a.job.now a.at 0)) at c.hash_bytes.ensures)
