-- `texts::tell` meets its contract. By cases on the answer. Assumes nothing.
use Rattle.refusal.specs.Numbers.{code_of}
use Rattle.texts.specs.Answers.{size_of}
use Rattle.texts.proofs.tell.Goals as goal

pub returns-in-Ok : goal.returns-in-Ok
unfolding code_of size_of
returns-in-Ok c = record { code = rw c.in-Ok.is; size = rw c.in-Ok.is }

pub returns-in-Err : goal.returns-in-Err
unfolding code_of size_of
returns-in-Err c = record { code = rw c.in-Err.is c.into.ensures; size = rw c.in-Err.is }
