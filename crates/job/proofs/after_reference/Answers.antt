-- `job::after_reference` meets its contract. Assumes nothing.
use native.Mathlib.Omega.{arith}
use Rattle.job.proofs.Stored.{number_behind, name_stands, name_behind}
use Rattle.job.proofs.after_reference.Goals as goal

pub name_at-requires : goal.name_at-requires
name_at-requires c = let a = c.args in
    let e = c.in-2.is in
    name_stands a.job.now a.at (λ z. absurd (omega arith)) (λ z. absurd (omega arith)) c.requires

pub returns-in-2 : goal.returns-in-2
returns-in-2 c = let a = c.args in
    let e = c.in-2.is in
    name_behind a.job.now a.at (λ z. absurd (omega arith)) (λ z. absurd (omega arith)) _ c.name_at.ensures

pub returns-in_default : goal.returns-in_default
returns-in_default c = let a = c.args in
    let n = c.in_default.in_default-own.rest.1 in
    number_behind a.job.now a.at n
