-- `definitions::add_bs_raw_def` meets its contract. Assumes nothing.
use Rattle.definitions.proofs.Placed.{some-raws, raw_stands, first_low, index-cited, index-done}
use Rattle.definitions.proofs.Rooms.{room}
use Rattle.store.specs.Store.{store}
use Rattle.definition.specs.Shapes.{bootstrap}
use native.Mathlib.Omega.{arith}
use Rattle.std.proofs.lemmas.Result.{err_from_is_err_and}
use Rattle.std.specs.Prelude.{Ok, Err}
use Rattle.definitions.specs.Defining.{answered}
use Prim.Native.Nat.{◌+◌}
use borrow.Author.Rules.{rules}
use Rattle.definitions.proofs.add_bs_raw_def.Goals as goal

pub get-index-requires : goal.get-index-requires
get-index-requires c = let a = c.args in let h = c.requires in omega (arith, raw_stands a.p.now h.2.0 a.job.now (store a.p.now a.w.now) a.at h.2.1 h.1 (λ i. (c.type_inv.job i).fits) bootstrap h.3)

pub get-e-requires : goal.get-e-requires
get-e-requires c = let a = c.args in let h = c.requires in omega (arith, raw_stands a.p.now h.2.0 a.job.now (store a.p.now a.w.now) a.at h.2.1 h.1 (λ i. (c.type_inv.job i).fits) bootstrap h.3)

pub constants-requires : goal.constants-requires
constants-requires c = let a = c.args in let h = c.requires in let m = room a.job.now a.p.now h.1 in (m.laid, m.indexes)

pub overflow_add-constants : goal.overflow_add-constants
overflow_add-constants c = let a = c.args in let h = c.requires in let m = room a.job.now a.p.now h.1 in let g = index-cited a.p.now h.2.0 a.job.now (store a.p.now a.w.now) a.at h.2.1 h.1 (λ i. (c.type_inv.job i).fits) h.3 in rw (c.constants.ensures, m.constants, c.get-e.ensures) (omega (arith, g.0, m.entries))

pub place_bootstrap-requires : goal.place_bootstrap-requires
place_bootstrap-requires c = let a = c.args in let h = c.requires in let m = room a.job.now a.p.now h.1 in let g = index-cited a.p.now h.2.0 a.job.now (store a.p.now a.w.now) a.at h.2.1 h.1 (λ i. (c.type_inv.job i).fits) h.3 in (search rules, m.raws, some-raws a.p.now h.2.0 a.job.now (store a.p.now a.w.now) a.at h.2.1, g.1, rw c.get-index.ensures (first_low a.p.now h.2.0 a.job.now (store a.p.now a.w.now) a.at h.2.1 h.1 (λ i. (c.type_inv.job i).fits)), rw (c.constants.ensures, m.constants, c.get-e.ensures) (omega (arith, g.0, m.entries)))

pub returns-in_err-place_bootstrap : goal.returns-in_err-place_bootstrap
unfolding answered
returns-in_err-place_bootstrap c = let a = c.args in let h = c.requires in let m = room a.job.now a.p.now h.1 in let r = err_from_is_err_and c.from_residual.result c.from_residual.ensures.1 in
    λ top place. rw (r.1, r.2) (index-done a.p.now top a.job.now (store a.p.now a.w.now) a.at place h.1 (λ i. (c.type_inv.job i).fits) h.3 _ c.place_bootstrap.result (rw (c.constants.ensures, m.constants, c.get-e.ensures, c.get-index.ensures) at c.place_bootstrap.ensures) (Err c.in_err-place_bootstrap.field-0.0) (rw c.in_err-place_bootstrap.was))

pub returns : goal.returns
unfolding answered
returns c = let a = c.args in let h = c.requires in let m = room a.job.now a.p.now h.1 in
    λ top place. index-done a.p.now top a.job.now (store a.p.now a.w.now) a.at place h.1 (λ i. (c.type_inv.job i).fits) h.3 _ c.place_bootstrap.result (rw (c.constants.ensures, m.constants, c.get-e.ensures, c.get-index.ensures) at c.place_bootstrap.ensures) (Ok (a.at + 5)) (rw c.in_ok-place_bootstrap.was)
