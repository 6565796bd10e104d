-- ONE FILE: one job has one file. Assumes nothing.
use mathlib.Core.Path.{sym, ◌∙◌}
use Prim.Native.Nat.{◌+◌}
use native.Mathlib.Omega.{arith}
use lib.ListN.{length}
use Rattle.facts.proofs.Results.{good_inj}
use Rattle.laws.specs.Statements.{OneFile}
use Rattle.laws.proofs.Blocks.BlocksRead.{blocks_read}

-- ONE FILE: each of the two is what writing the job, with room for both, gives
pub one_file : OneFile
one_file room room' file file' job bytes bytes' e e' =
    let enough = length file + length file' in
    good_inj (sym ((blocks_read room enough file job bytes (omega arith)).0 e).1 ∙ ((blocks_read room' enough file' job bytes' (omega arith)).0 e').1)
