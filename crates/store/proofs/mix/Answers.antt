-- `store::mix` meets its contract. Assumes nothing.
use native.Mathlib.Omega.{arith}
use Prim.Native.Nat.{◌+◌, ◌*◌, ◌/◌, ◌%◌}
use native.Mathlib.Nat.{mod-lt}
use mathlib.Core.Path.{refl}
use Rattle.store.specs.Chains.{mixed}
use Rattle.store.proofs.mix.Goals as goal

pub returns : goal.returns
unfolding mixed
returns c = (refl, mod-lt ((c.args.hash + c.args.x) * 0x5bd1e995 / 4294967296 + (c.args.hash + c.args.x) * 0x5bd1e995 % 4294967296) (omega arith))
