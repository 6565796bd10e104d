-- `printing::word_at` meets its contract. The loop keeps: the word from its byte on is left. Assumes nothing.
use lib.ListN.{drop}
use Rattle.printing.proofs.Printing.{Left}
use Rattle.printing.proofs.word_at.Given as goal

abbrev pub invariant-loop-b : goal.invariant-loop-b
invariant-loop-b l = Left l.initial.out l.room l.start l.word l.out l.at (drop l.b-index l.word)
