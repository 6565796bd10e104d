-- `blocks::take_blocks` meets its contract. The loop keeps: what the first k blocks hold is copied. Assumes nothing.
use mathlib.Core.Path.{◌≡◌}
use lib.ListN.{length}
use Rattle.definition.specs.Run.{overwrite}
use Rattle.blocks.specs.File.{data_of}
use Rattle.facts.proofs.Chunks.{joined}
use Rattle.blocks.proofs.take_blocks.Given as goal

abbrev pub invariant-loop-k : goal.invariant-loop-k
invariant-loop-k l = (l.out ≡ overwrite (joined (data_of l.file) l.k) l.initial.out) × (length l.out ≡ length l.initial.out)
