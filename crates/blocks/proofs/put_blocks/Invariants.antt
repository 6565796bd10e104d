-- `blocks::put_blocks` meets its contract. The loop keeps: the first k blocks are written, the rest as it was. Assumes nothing.
use mathlib.Core.Path.{◌≡◌}
use lib.ListN.{length}
use Rattle.definition.specs.Blocks.{written_block}
use Rattle.definition.specs.Run.{overwrite}
use Rattle.facts.proofs.Chunks.{joined}
use Rattle.blocks.proofs.put_blocks.Given as goal

abbrev pub invariant-loop-k : goal.invariant-loop-k
invariant-loop-k l = (l.out ≡ overwrite (joined (written_block l.job) l.k) l.initial.out) × (length l.out ≡ length l.initial.out)
