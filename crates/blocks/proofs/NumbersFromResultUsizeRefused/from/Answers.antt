-- The numbers of an answer are the definition's. By cases on it. Assumes nothing.
use Rattle.refusal.specs.Numbers.{told_of}
use Rattle.blocks.specs.Answers.{numbers_of}
use Rattle.blocks.proofs.NumbersFromResultUsizeRefused.from.Goals as goal

pub returns-in-Ok : goal.returns-in-Ok
unfolding told_of numbers_of
returns-in-Ok c = rw c.in-Ok.is

pub returns-in-Err : goal.returns-in-Err
unfolding told_of numbers_of
returns-in-Err c = rw (c.in-Err.is, c.into.ensures)
