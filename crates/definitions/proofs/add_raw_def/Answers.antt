-- `definitions::add_raw_def` meets its contract. Assumes nothing.
use Rattle.definitions.proofs.Placed.{some-raws, top-low, raw_stands, first_low, raw_cited, raw_done_lem}
use Rattle.definitions.proofs.Rooms.{room}
use Rattle.store.specs.Store.{store}
use Rattle.definition.specs.Shapes.{constant}
use native.Mathlib.Omega.{arith}
use Rattle.std.proofs.lemmas.Result.{err_from_is_err_and}
use Rattle.std.specs.Prelude.{Ok, Err}
use Rattle.definitions.specs.Defining.{answered}
use Prim.Native.Nat.{◌+◌}
use borrow.Author.Rules.{rules}
use Rattle.definitions.proofs.add_raw_def.Goals as goal

pub get-n-requires : goal.get-n-requires
get-n-requires c = let a = c.args in let h = c.requires in omega (arith, raw_stands a.p.now a.top a.job.now (store a.p.now a.w.now) a.at h.2 h.1 (λ i. (c.type_inv.job i).fits) constant h.3)

pub get-e-requires : goal.get-e-requires
get-e-requires c = let a = c.args in let h = c.requires in omega (arith, raw_stands a.p.now a.top a.job.now (store a.p.now a.w.now) a.at h.2 h.1 (λ i. (c.type_inv.job i).fits) constant h.3)

pub load-requires : goal.load-requires
load-requires c = let a = c.args in let h = c.requires in let m = room a.job.now a.p.now h.1 in let g = raw_cited a.p.now a.top a.job.now (store a.p.now a.w.now) a.at h.2 h.1 (λ i. (c.type_inv.job i).fits) h.3 in (search rules, rw c.get-e.ensures (omega (arith, m.offsets, g.0)))

pub tag_at-tag-requires : goal.tag_at-tag-requires
tag_at-tag-requires c = let a = c.args in let h = c.requires in rw (c.load.ensures.word, c.get-e.ensures) (raw_cited a.p.now a.top a.job.now (store a.p.now a.w.now) a.at h.2 h.1 (λ i. (c.type_inv.job i).fits) h.3).1

pub place_constant-requires : goal.place_constant-requires
place_constant-requires c = let a = c.args in let h = c.requires in let m = room a.job.now a.p.now h.1 in let g = raw_cited a.p.now a.top a.job.now (store a.p.now a.w.now) a.at h.2 h.1 (λ i. (c.type_inv.job i).fits) h.3 in (search rules, m.raws, some-raws a.p.now a.top a.job.now (store a.p.now a.w.now) a.at h.2, g.2, top-low a.p.now a.top a.job.now (store a.p.now a.w.now) a.at h.2, rw c.get-n.ensures (first_low a.p.now a.top a.job.now (store a.p.now a.w.now) a.at h.2 h.1 (λ i. (c.type_inv.job i).fits)), rw c.get-e.ensures (omega (arith, g.0, m.entries)))

pub returns-in_err-place_constant : goal.returns-in_err-place_constant
unfolding answered
returns-in_err-place_constant c = let a = c.args in let h = c.requires in let r = err_from_is_err_and c.from_residual.result c.from_residual.ensures.1 in
    rw (r.1, r.2) (raw_done_lem a.p.now a.top a.job.now (store a.p.now a.w.now) a.at h.2 h.1 (λ i. (c.type_inv.job i).fits) h.3 c.tag_at-tag.result _ c.place_constant.result (rw (c.is_long.ensures, c.get-e.ensures, c.get-n.ensures) at c.place_constant.ensures) (Err c.in_err-place_constant.field-0.0) (rw (c.load.ensures.word, c.get-e.ensures) at c.tag_at-tag.ensures) (rw c.in_err-place_constant.was))

pub returns : goal.returns
unfolding answered
returns c = let a = c.args in let h = c.requires in
    raw_done_lem a.p.now a.top a.job.now (store a.p.now a.w.now) a.at h.2 h.1 (λ i. (c.type_inv.job i).fits) h.3 c.tag_at-tag.result _ c.place_constant.result (rw (c.is_long.ensures, c.get-e.ensures, c.get-n.ensures) at c.place_constant.ensures) (Ok (a.at + 5)) (rw (c.load.ensures.word, c.get-e.ensures) at c.tag_at-tag.ensures) (rw c.in_ok-place_constant.was)
