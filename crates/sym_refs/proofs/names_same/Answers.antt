-- `sym_refs::names_same` meets its contract. Assumes nothing.
use lib.ListN.{get_or}
use Prim.Native.Nat.{◌+◌}
use Rattle.interner.proofs.Runs.{same_slices}
use native.Mathlib.Omega.{arith}
use Rattle.sym_refs.proofs.Comparing.{part_size, name_room, naming_room, other_kind, other_size, same_size}
use Rattle.sym_refs.proofs.names_same.Goals as goal

pub bounds-job-at : goal.bounds-job-at
bounds-job-at c = (name_room _ _ c.requires.1).0

pub returns-then-job-naming : goal.returns-then-job-naming
returns-then-job-naming c = let a = c.args in let q = c.if-job-naming.true in λ x here. other_kind a.job.now a.naming a.at a.first c.requires.1 x here (λ z. omega arith)

pub bounds-job-naming-2 : goal.bounds-job-naming-2
bounds-job-naming-2 c = let a = c.args in (naming_room a.job.now a.naming c.requires.0).0

pub returns-then-job-naming-2 : goal.returns-then-job-naming-2
returns-then-job-naming-2 c = let a = c.args in let q = c.if-job-naming-2.true in λ x here. other_size a.job.now a.naming a.at a.first c.requires.1 x here (λ z. omega arith)

pub slice_bounds-eq-end : goal.slice_bounds-eq-end
slice_bounds-eq-end c = let a = c.args in let z = c.if-job-naming-2.false in omega (arith, naming_room a.job.now a.naming c.requires.0)

pub slice_bounds-eq-end-2 : goal.slice_bounds-eq-end-2
slice_bounds-eq-end-2 c = let a = c.args in omega (arith, name_room a.job.now a.at c.requires.1)

pub returns : goal.returns
returns c = let a = c.args in let q = c.eq.ensures in
    λ x here.
    same_size a.job.now a.naming a.at a.first c.requires.1 x here
    c.if-job-naming.false
    c.if-job-naming-2.false
    c.eq.result
    (rw (part_size (a.naming + 2) (get_or a.job.now a.at 0), part_size (a.at + 1) (get_or a.job.now a.at 0), same_slices _ _) at q)
