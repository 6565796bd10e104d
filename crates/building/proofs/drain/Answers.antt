use Rattle.rows.proofs.Starting.{row_room}
use Rattle.store.proofs.Stores.{length-store}
use Rattle.store.specs.Regions.{NODES, PENDING}
use Rattle.store.specs.Store.{store}
use mathlib.Core.Path.{refl, ap, ◌∙◌}
use native.Mathlib.Omega.{arith}
use Rattle.std.specs.Prelude.{Err}
use Rattle.std.proofs.lemmas.Result.{err_from_is_err_and}
use Rattle.refusal.specs.Numbers.{code_of}
use Rattle.pool.proofs.Codes.{code-good, code-refused, code-passed}
use borrow.Author.Rules.{rules}
use Rattle.building.proofs.drain.Goals as goal
-- `building::drain` meets its contract. The loop keeps that what is left on the stack, with fuel for it, is the whole. Assumes nothing.
use Rattle.building.proofs.Emptying.{emptying_begin, emptying_end, turn_asks, turn_less, emptying_refused, emptying_next}

pub loop-w-init : goal.loop-w-init
loop-w-init c = let a = c.args in let q = c.requires in let s = a.job.now in let p = a.p.now in let t = store p a.w.now in (refl, refl, emptying_begin s p a.version t a.gaps.now q.3 q.2)

pub load-requires : goal.load-requires
load-requires c = let a = c.args in let q = c.requires in let s = a.job.now in let p = a.p.now in let t = store p a.w.now in (search rules, omega (arith, (row_room s p q.1).counts))

pub pop_pending-k-requires : goal.pop_pending-k-requires
pop_pending-k-requires c = let a = c.args in let q = c.requires in let s = a.job.now in let p = a.p.now in let t = store p a.w.now in let l = c.loop-w in let u = store p l.w in (search rules, omega (arith, (row_room s p q.1).counts), omega (arith, c.loop-w-test.true, c.load.ensures.word), omega (arith, l.invariant.2.again.live.room, length-store p l.w PENDING))

pub judge-requires : goal.judge-requires
judge-requires c = let a = c.args in let q = c.requires in let s = a.job.now in let p = a.p.now in let t = store p a.w.now in let l = c.loop-w in let u = store p l.w in let k = c.pop_pending-k in let x = turn_asks s p a.version t u a.gaps.now l.gaps l.invariant.2 c.load.result c.load.ensures.word c.loop-w-test.true q.1 (store p k.new.w) k.result k.ensures in (search rules, q.1, x.0, x.1)

pub returns-in_err-judge : goal.returns-in_err-judge
returns-in_err-judge c = let r = err_from_is_err_and c.from_residual.result c.from_residual.ensures.1 in rw (code-passed c.judge.result c.from_residual.result _ c.in_err-judge.was (r.1 ∙ ap Err r.2)) (let a = c.args in let q = c.requires in let s = a.job.now in let p = a.p.now in let t = store p a.w.now in let l = c.loop-w in let u = store p l.w in let k = c.pop_pending-k in let x = c.judge in emptying_refused s p a.version t u a.gaps.now l.gaps l.invariant.2 c.load.result c.load.ensures.word c.loop-w-test.true q.1 (store p k.new.w) k.result k.ensures (length-store p k.new.w NODES) (store p x.new.w) x.new.gaps (code_of x.result) x.ensures (code-refused x.result _ c.in_err-judge.was))

pub loop-w-smaller : goal.loop-w-smaller
loop-w-smaller c = let a = c.args in let q = c.requires in let s = a.job.now in let p = a.p.now in let t = store p a.w.now in let l = c.loop-w in let u = store p l.w in let k = c.pop_pending-k in let x = c.judge in turn_less s p a.version t u a.gaps.now l.gaps l.invariant.2 c.load.result c.load.ensures.word c.loop-w-test.true q.1 (store p k.new.w) k.result k.ensures (length-store p k.new.w NODES) (store p x.new.w) x.new.gaps (code_of x.result) x.ensures (code-good x.result _ c.in_ok-judge.was)

pub loop-w-preserved : goal.loop-w-preserved
loop-w-preserved c = let a = c.args in let q = c.requires in let s = a.job.now in let p = a.p.now in let t = store p a.w.now in let l = c.loop-w in let u = store p l.w in let k = c.pop_pending-k in let x = c.judge in (search rules, search rules, emptying_next s p a.version t u a.gaps.now l.gaps l.invariant.2 c.load.result c.load.ensures.word c.loop-w-test.true q.1 (store p k.new.w) k.result k.ensures (length-store p k.new.w NODES) (store p x.new.w) x.new.gaps (code_of x.result) x.ensures (code-good x.result _ c.in_ok-judge.was))

pub returns : goal.returns
unfolding code_of
returns c = let a = c.args in let q = c.requires in let s = a.job.now in let p = a.p.now in let t = store p a.w.now in let l = c.loop-w in let u = store p l.w in emptying_end s p a.version t u a.gaps.now l.gaps l.invariant.2 c.load.result c.load.ensures.word (omega (arith, c.loop-w-test.false))
