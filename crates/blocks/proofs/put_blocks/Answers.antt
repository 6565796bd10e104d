-- `blocks::put_blocks` meets its contract. The loop keeps: the first k blocks are written, the rest as it was. Assumes nothing.
use mathlib.Core.Path.{◌∙◌, ap, ◌≡◌}
use native.Mathlib.Omega.{arith}
use borrow.Author.Rules.{rules}
use Rattle.definition.specs.Blocks.{written_block}
use Rattle.definition.specs.Run.{overwrite}
use Rattle.facts.proofs.Chunks.{joined}
use Rattle.facts.proofs.Copies.{joined-none}
use Rattle.blocks.proofs.Written.{blocks_more}
use Rattle.blocks.proofs.put_blocks.Goals as goal

pub loop-k-init : goal.loop-k-init
loop-k-init c = let args = c.args in
    (joined-none (written_block args.job.now) args.out.now, search rules)

pub loop-k-preserved : goal.loop-k-preserved
loop-k-preserved c = let args = c.args in (
  rw (c.put_block.ensures, c.loop-k.invariant.0) (blocks_more args.job.now args.out.now c.loop-k.k),
  search rules,
)

pub returns : goal.returns
returns c = let args = c.args in
    let all : c.loop-k.k ≡ args.n = omega arith in
    c.loop-k.invariant.0 ∙ ap (λ n. overwrite (joined (written_block args.job.now) n) args.out.now) all
