-- `blocks::take_blocks` meets its contract. The loop keeps: what the first k blocks hold is copied. Assumes nothing.
use mathlib.Core.Path.{◌≡◌, ap, ◌∙◌}
use native.Mathlib.Omega.{arith}
use borrow.Author.Rules.{rules}
use Rattle.definition.specs.Run.{overwrite}
use Rattle.blocks.specs.File.{data_of}
use Rattle.blocks.proofs.Joined.{used_small, inside_job, take_more}
use Rattle.facts.proofs.Chunks.{joined}
use Rattle.facts.proofs.Copies.{joined-none}
use Rattle.blocks.proofs.take_blocks.Goals as goal

pub loop-k-init : goal.loop-k-init
loop-k-init c = let args = c.args in
    (joined-none (data_of args.file.now) args.out.now, search rules)

pub copy-requires : goal.copy-requires
copy-requires c =
    let k = c.loop-k.k in
    let n = c.args.n in
    let file = c.args.file.now in
    let small = used_small n file c.requires.0 c.requires.1 k (omega arith) in
    let inside = inside_job n file c.requires.0 c.requires.1 k (omega arith) in
    record { n_in_bounds = omega (arith, small, inside); n_in_bounds_2 = omega (arith, small, inside) }

pub loop-k-preserved : goal.loop-k-preserved
loop-k-preserved c = let args = c.args in (
  rw (c.copy.ensures, c.used_in-used.ensures, c.loop-k.invariant.0)
      (take_more args.n args.file.now c.requires.0 c.requires.1 args.out.now c.loop-k.k (omega arith)),
  search rules,
)

pub returns : goal.returns
returns c = let args = c.args in
    let all : c.loop-k.k ≡ args.n = omega arith in
    c.loop-k.invariant.0 ∙ ap (λ n. overwrite (joined (data_of args.file.now) n) args.out.now) all
