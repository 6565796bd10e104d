-- `raw_const::write_shorts` meets its contract: the loop has written the numbers before the next one. Assumes nothing.
use lib.ListN.{take}
use Rattle.raw_const.specs.Entries.{Wrote}
use Rattle.raw_const.proofs.Rows.{shorts}
use Rattle.raw_const.proofs.write_shorts.Given as goal

abbrev pub invariant-loop-word : goal.invariant-loop-word
invariant-loop-word l = Wrote l.initial.out l.at (shorts (take l.word-index l.words)) l.out l.next
