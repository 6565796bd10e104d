use Rattle.rows.proofs.Starting.{row_room}
use Prim.Native.Nat.{suc, ◌-◌}
use Rattle.store.proofs.Stores.{length-store}
use Rattle.store.specs.Regions.{NODES}
use Rattle.store.specs.Store.{store}
use mathlib.Core.Path.{◌≡◌, refl, ap, ◌∙◌}
use native.Mathlib.Omega.{arith}
use Rattle.std.specs.Prelude.{Err}
use Rattle.std.proofs.lemmas.Result.{err_from_is_err_and}
use Rattle.refusal.specs.Numbers.{code_of}
use Rattle.pool.proofs.Codes.{code-good, code-refused, code-passed}
use borrow.Author.Rules.{rules}
use Rattle.building.proofs.slot_raw_rows.Goals as goal
-- `building::slot_raw_rows` meets its contract. The loop keeps that what the raw bootstraps below give, in front of the rows of those above, is the whole. Assumes nothing.
use Rattle.building.proofs.Falling.{falling_begin, falling_end, next-raws, next-asks, falling_refused, falling_next}

pub raw_rows-i-requires : goal.raw_rows-i-requires
raw_rows-i-requires c = let a = c.args in let q = c.requires in let s = a.job.now in let p = a.p.now in let t = store p a.w.now in (search rules, row_room s p q.1, q.2.raws)

pub loop-i-init : goal.loop-i-init
loop-i-init c = let a = c.args in let q = c.requires in let s = a.job.now in let p = a.p.now in let t = store p a.w.now in (refl, refl, falling_begin s t a.gaps.now c.raw_rows-i.result c.raw_rows-i.ensures)

pub raw_row-k-requires : goal.raw_row-k-requires
raw_row-k-requires c = let a = c.args in let q = c.requires in let s = a.job.now in let p = a.p.now in let t = store p a.w.now in let l = c.loop-i in let u = store p l.w in let down : suc (l.i - 1) ≡ l.i = omega (arith, c.loop-i-test.true) in let x = next-raws s p t u a.gaps.now l.gaps l.i q.1 q.2 q.3 l.invariant.2 (l.i - 1) down in (search rules, row_room s p q.1, x.0, x.1)

pub slots_of-requires : goal.slots_of-requires
slots_of-requires c = let a = c.args in let q = c.requires in let s = a.job.now in let p = a.p.now in let t = store p a.w.now in let l = c.loop-i in let u = store p l.w in let down : suc (l.i - 1) ≡ l.i = omega (arith, c.loop-i-test.true) in let k = c.raw_row-k in let x = next-asks s p t u a.gaps.now l.gaps l.i q.1 q.2 q.3 l.invariant.2 (l.i - 1) down k.result k.ensures.0 k.ensures.1 in (search rules, x.0, x.1, x.2, x.3)

pub returns-in_err-slots_of : goal.returns-in_err-slots_of
returns-in_err-slots_of c = let r = err_from_is_err_and c.from_residual.result c.from_residual.ensures.1 in rw (code-passed c.slots_of.result c.from_residual.result _ c.in_err-slots_of.was (r.1 ∙ ap Err r.2)) (let a = c.args in let q = c.requires in let s = a.job.now in let p = a.p.now in let t = store p a.w.now in let l = c.loop-i in let u = store p l.w in let down : suc (l.i - 1) ≡ l.i = omega (arith, c.loop-i-test.true) in let k = c.raw_row-k in let x = c.slots_of in falling_refused s p t u a.gaps.now l.gaps l.i q.1 q.2 q.3 l.invariant.2 (l.i - 1) down k.result k.ensures.0 k.ensures.1 (store p x.new.w) x.new.gaps (code_of x.result) x.ensures (code-refused x.result _ c.in_err-slots_of.was))

pub loop-i-preserved : goal.loop-i-preserved
loop-i-preserved c = let a = c.args in let q = c.requires in let s = a.job.now in let p = a.p.now in let t = store p a.w.now in let l = c.loop-i in let u = store p l.w in let down : suc (l.i - 1) ≡ l.i = omega (arith, c.loop-i-test.true) in let k = c.raw_row-k in let x = c.slots_of in (search rules, search rules, falling_next s p t u a.gaps.now l.gaps l.i q.1 q.2 q.3 l.invariant.2 (l.i - 1) down k.result k.ensures.0 k.ensures.1 (store p x.new.w) x.new.gaps (code_of x.result) x.ensures (code-good x.result _ c.in_ok-slots_of.was) (length-store p l.w NODES) (length-store p x.new.w NODES))

pub returns : goal.returns
unfolding code_of
returns c = let a = c.args in let q = c.requires in let s = a.job.now in let p = a.p.now in let t = store p a.w.now in let l = c.loop-i in let u = store p l.w in falling_end s p t u a.gaps.now l.gaps l.i q.1 q.2 q.3 l.invariant.2 (omega (arith, c.loop-i-test.false))
