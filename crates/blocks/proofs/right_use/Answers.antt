-- `blocks::right_use` meets its contract. Each end is the definition's. Assumes nothing.
use Prim.Native.Nat.{suc}
use native.Mathlib.Omega.{arith}
use Rattle.blocks.proofs.Right.{use_full, use_over, use_only, use_some}
use Rattle.blocks.proofs.right_use.Goals as goal

pub returns-then-k-last : goal.returns-then-k-last
returns-then-k-last c = let args = c.args in
    use_full (suc args.last) args.k args.used (omega arith)

pub returns-then-used-gt-CONTENT : goal.returns-then-used-gt-CONTENT
returns-then-used-gt-CONTENT c = let args = c.args in
    use_over (suc args.last) args.k args.used (omega arith) (omega arith) (omega arith)

pub returns-then-last-eq0 : goal.returns-then-last-eq0
returns-then-last-eq0 c = let args = c.args in
    use_only (suc args.last) args.k args.used (omega arith) (omega arith) (omega arith) (omega arith)

pub returns : goal.returns
returns c = let args = c.args in
    use_some (suc args.last) args.k args.used (omega arith) (omega arith) (omega arith) (λ e. c.if-last-eq0.false (omega arith))
