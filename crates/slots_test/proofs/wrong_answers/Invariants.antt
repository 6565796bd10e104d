-- `slots_test::wrong_answers` meets its contract: no more are wrong than were asked. Assumes nothing.
use Rattle.std.proofs.Common.{◌≤◌}
use Rattle.slots_test.proofs.wrong_answers.Given as goal

abbrev pub invariant-loop-i : goal.invariant-loop-i
invariant-loop-i l = l.wrong ≤ l.i
