-- `job::worked_at` meets its contract. Assumes nothing.
use Rattle.job.proofs.Working.{worked-words, worked-never}
use Rattle.job.proofs.worked_at.Goals as goal

pub returns-in-Ok : goal.returns-in-Ok
returns-in-Ok c = let a = c.args in
    let p = c.requires in
    let called = c.constant_at in
    worked-words a.job.now a.at p.1 called.result called.ensures c.in-Ok.constant c.in-Ok.is

pub returns-in-Err : goal.returns-in-Err
returns-in-Err c = let a = c.args in
    let p = c.requires in
    let called = c.constant_at in
    worked-never a.job.now a.at p.1 called.result called.ensures _ c.in-Err.is p.0
