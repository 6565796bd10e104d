-- `job::reference_at` meets its contract. Assumes nothing.
use native.Mathlib.Omega.{arith}
use Rattle.job.proofs.Stored.{number-room, name_stands, raw_cited, number-cited, name_cited}
use Rattle.job.proofs.reference_at.Goals as goal

pub get-requires : goal.get-requires
get-requires c = let a = c.args in
    let e = c.in-0.is in
    omega (arith, number-room a.job.now a.at c.requires (λ z. absurd (omega arith)))

pub get-requires-in-1 : goal.get-requires-in-1
get-requires-in-1 c = let a = c.args in
    let e = c.in-1.is in
    omega (arith, number-room a.job.now a.at c.requires (λ z. absurd (omega arith)))

pub name_at-requires : goal.name_at-requires
name_at-requires c = let a = c.args in
    name_stands a.job.now a.at (λ z. c.in_default.in_default-own.rest.0.1 z) (λ z. c.in_default.in_default-own.rest.1 z) c.requires

pub returns-in-0 : goal.returns-in-0
returns-in-0 c = let a = c.args in
    rw c.get.ensures (raw_cited a.job.now a.at (c.in-0.is))

pub returns-in-1 : goal.returns-in-1
returns-in-1 c = let a = c.args in
    rw c.get-in-1.ensures (number-cited a.job.now a.at (c.in-1.is))

pub returns-in_default : goal.returns-in_default
returns-in_default c = let a = c.args in
    name_cited a.job.now a.at (λ z. c.in_default.in_default-own.rest.0.1 z) (λ z. c.in_default.in_default-own.rest.1 z) _ c.name_at.ensures
