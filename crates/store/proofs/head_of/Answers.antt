-- `store::head_of` meets its contract. Assumes nothing.
use mathlib.Core.Path.{sym}
use Prim.Native.Nat.{◌-◌, ◌*◌}
use native.Mathlib.Omega.{arith}
use Rattle.store.proofs.Hashing.{head_small, head_large, scaled-below}
use Rattle.store.proofs.head_of.Goals as goal

pub returns-then-key-heads : goal.returns-then-key-heads
returns-then-key-heads c = let e = head_small c.args.heads c.args.key c.if-key-heads.true in (sym e, c.if-key-heads.true)

pub returns-else-key-heads : goal.returns-else-key-heads
returns-else-key-heads c = let a = c.args in (sym (head_large a.heads a.key c.if-key-heads.false), omega (arith, scaled-below (a.key * 0x9e3779b1) (a.heads - 1) (omega arith)))
