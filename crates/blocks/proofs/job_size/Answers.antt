-- `blocks::job_size` meets its contract. All blocks but the last hold 504 bytes. Assumes nothing.
use mathlib.Core.Path.{◌∙◌, ap, sym}
use Prim.Native.Nat.{◌+◌, ◌*◌, ◌-◌}
use native.Mathlib.Omega.{arith}
use Rattle.blocks.proofs.Joined.{used_small, job_length}
use Rattle.blocks.proofs.job_size.Goals as goal

pub overflow_add-result : goal.overflow_add-result
overflow_add-result c = let args = c.args in
    omega (arith, used_small args.n args.file.now c.requires.2 c.requires.3 (args.n - 1) (omega arith))

pub returns : goal.returns
returns c = let args = c.args in
    ap (λ u. 504 * (args.n - 1) + u) c.used_in.ensures
    ∙ sym (job_length args.n args.file.now c.requires.2 c.requires.3 (args.n - 1) (omega arith))
