-- `definitions::define_all` meets its contract. Assumes nothing.
use Rattle.definitions.proofs.Whole.{all_begin, all_place, all_next, all_refused, all_kept, all_counters, all_low, all_finish}
use Rattle.definitions.proofs.Rooms.{room}
use Rattle.store.proofs.Stores.{length-store}
use Rattle.store.specs.Regions.{COUNTS}
use Rattle.store.specs.Store.{store}
use Rattle.definition.specs.Definitions.{nothing_defined}
use native.Mathlib.Omega.{arith}
use mathlib.Core.Path.{refl}
use Rattle.std.proofs.lemmas.Result.{err_from_is_err_and}
use Rattle.refusal.specs.Numbers.{code_of}
use borrow.Author.Rules.{rules}
use Rattle.definitions.proofs.define_all.Goals as goal

pub loop-place-init : goal.loop-place-init
loop-place-init c = let a = c.args in let h = c.requires in (refl, λ k _. refl, λ c _. refl, (nothing_defined, all_begin a.p.now a.top a.job.now (store a.p.now a.w.now) h.1 h.2 (length-store a.p.now a.w.now) h.4))

pub save-requires : goal.save-requires
save-requires c = let a = c.args in let m = room a.job.now a.p.now c.requires.1 in (search rules, omega (arith, m.counts), omega (arith, m.definitions, c.requires.3, c.loop-place-test.true))

pub define_one-requires : goal.define_one-requires
define_one-requires c = let a = c.args in let h = c.requires in let l = c.loop-place in let m = room a.job.now a.p.now h.1 in (search rules, h.1, rw c.save.ensures (all_place a.p.now a.top a.job.now (store a.p.now l.w) l.place l.at l.invariant.3.0 l.invariant.3.1 (omega (arith, length-store a.p.now l.w COUNTS, m.counts)) (omega (arith, h.3, c.loop-place-test.true))))

pub returns-in_err-at : goal.returns-in_err-at
unfolding code_of
returns-in_err-at c = let a = c.args in let h = c.requires in let l = c.loop-place in let m = room a.job.now a.p.now h.1 in let step = rw c.save.ensures at c.define_one.ensures in let e = c.in_err-at.field-0.0 in let q = all_refused a.p.now a.top a.job.now (store a.p.now l.w) l.place l.at l.invariant.3.0 l.invariant.3.1 (omega (arith, length-store a.p.now l.w COUNTS, m.counts)) _ c.define_one.result step e c.in_err-at.was in let r = err_from_is_err_and c.from_residual.result c.from_residual.ensures.1 in rw (r.1, r.2) (record { through = λ z. absurd (omega (arith, q.0, z)); refused = λ _. q.1; counters = all_counters a.p.now a.top a.job.now (store a.p.now a.w.now) (store a.p.now l.w) _ l.place c.define_one.result l.invariant.2 step; kept = all_kept a.p.now a.top a.job.now (store a.p.now a.w.now) (store a.p.now l.w) _ l.place c.define_one.result l.invariant.1 step })

pub loop-place-preserved : goal.loop-place-preserved
loop-place-preserved c = let a = c.args in let h = c.requires in let l = c.loop-place in let m = room a.job.now a.p.now h.1 in let step = rw c.save.ensures at c.define_one.ensures in (search rules, all_kept a.p.now a.top a.job.now (store a.p.now a.w.now) (store a.p.now l.w) _ l.place c.define_one.result l.invariant.1 step, all_counters a.p.now a.top a.job.now (store a.p.now a.w.now) (store a.p.now l.w) _ l.place c.define_one.result l.invariant.2 step, all_next a.p.now a.top a.job.now (store a.p.now l.w) l.place l.at l.invariant.3.0 l.invariant.3.1 (omega (arith, length-store a.p.now l.w COUNTS, m.counts)) _ c.define_one.result step c.in_ok-at.at c.in_ok-at.was)

pub save-requires-2 : goal.save-requires-2
save-requires-2 c = let a = c.args in let m = room a.job.now a.p.now c.requires.1 in (search rules, omega (arith, m.counts), omega (arith, m.definitions, c.requires.3))

pub overflow_add-at : goal.overflow_add-at
overflow_add-at c = let a = c.args in let h = c.requires in let l = c.loop-place in let m = room a.job.now a.p.now h.1 in omega (arith, m.bytes, all_low a.p.now a.top a.job.now (store a.p.now l.w) h.1 l.place l.at l.invariant.3.0 l.invariant.3.1 (omega (arith, h.3, c.loop-place-test.false)))

pub save-requires-3 : goal.save-requires-3
save-requires-3 c = let a = c.args in let h = c.requires in let l = c.loop-place in let m = room a.job.now a.p.now h.1 in (search rules, omega (arith, m.counts), omega (arith, m.bytes, all_low a.p.now a.top a.job.now (store a.p.now l.w) h.1 l.place l.at l.invariant.3.0 l.invariant.3.1 (omega (arith, h.3, c.loop-place-test.false))))

pub returns : goal.returns
unfolding code_of
returns c = let a = c.args in let h = c.requires in let l = c.loop-place in let m = room a.job.now a.p.now h.1 in all_finish a.p.now a.top a.job.now (store a.p.now l.w) h.1 l.place l.at l.invariant.3.0 l.invariant.3.1 (omega (arith, h.3, c.loop-place-test.false)) (store a.p.now a.w.now) _ a.n l.invariant.1 l.invariant.2 (omega (arith, c.loop-place-test.false)) h.3 (rw (c.save-3.ensures, c.save-2.ensures)) (omega (arith, length-store a.p.now l.w COUNTS, m.counts))
