use mathlib.Core.Path.{refl, sym, ap, ◌∙◌}
use Rattle.store.proofs.Stores.{length-store}
use Rattle.store.specs.Store.{store}
use Rattle.store.specs.Regions.{COUNTS, ANSWERS, ORIGINS}
use Rattle.pool.proofs.Asked.{request_inside, refers}
use Rattle.pool.proofs.InTurn.{replying_begin, in_turn, turn_next, place_next, answer-asks, replying_refused, replying_next, counted_is, replied_on, requests_counted, ended}
use Rattle.std.specs.Prelude.{Err}
use Rattle.std.proofs.lemmas.Result.{err_from_is_err_and}
use Rattle.refusal.specs.Numbers.{code_of}
use Rattle.pool.proofs.Codes.{code-good, code-bad, code-passed}
use borrow.Author.Rules.{rules}
use Rattle.pool.proofs.answer_all.Goals as goal
-- `pool::answer_all` meets its contract. The loop keeps that what the rest of the requests gives, behind the answers so far, is the whole. Assumes nothing.
use native.Mathlib.Omega.{arith}

pub load-at-requires : goal.load-at-requires
load-at-requires c = let a = c.args in let q = c.requires in let s = a.job.now in let p = a.p.now in let t = store p a.w.now in let k = requests_counted s p q.1 in (search rules, omega (arith, k.counts))

pub loop-i-init : goal.loop-i-init
loop-i-init c = let a = c.args in let q = c.requires in let s = a.job.now in let p = a.p.now in let t = store p a.w.now in let k = requests_counted s p q.1 in (refl, refl, replying_begin s p t a.gaps.now c.load-at.result c.load-at.ensures.word c.load-at.ensures.small q.2)

pub next_count-requires : goal.next_count-requires
next_count-requires c = let a = c.args in let q = c.requires in let s = a.job.now in let p = a.p.now in let t = store p a.w.now in let k = requests_counted s p q.1 in let l = c.loop-i in let u = store p l.w in (search rules, omega (arith, k.counts), omega (arith, l.invariant.2.place, q.5, c.loop-i-test.true, c.size_of-i-end.ensures, k.answers))

pub answer-requires : goal.answer-requires
answer-requires c = let a = c.args in let q = c.requires in let s = a.job.now in let p = a.p.now in let t = store p a.w.now in let k = requests_counted s p q.1 in let l = c.loop-i in let u = store p l.w in let x = store p c.next_count.new.w in let e = counted_is u x c.next_count.result c.next_count.ensures.0 c.next_count.ensures.1 in let r = answer-asks s p t u a.gaps.now l.gaps l.at l.i l.invariant.2 (omega (arith, c.loop-i-test.true, c.size_of-i-end.ensures, k.answers)) x e q.3 q.4 in (search rules, q.1, r.0, r.1, omega (arith, c.loop-i-test.true, c.size_of-i-end.ensures), r.2)

pub returns-in_err-answer : goal.returns-in_err-answer
returns-in_err-answer c = let r = err_from_is_err_and c.from_residual.result c.from_residual.ensures.1 in let a = c.args in let q = c.requires in let s = a.job.now in let p = a.p.now in let t = store p a.w.now in let k = requests_counted s p q.1 in let l = c.loop-i in let u = store p l.w in let x = store p c.next_count.new.w in let e = counted_is u x c.next_count.result c.next_count.ensures.0 c.next_count.ensures.1 in rw (code-passed c.answer.result c.from_residual.result _ c.in_err-answer.was (r.1 ∙ ap Err r.2)) (replying_refused s p t u a.gaps.now l.gaps l.at l.i l.invariant.2 (omega (arith, c.loop-i-test.true, c.size_of-i-end.ensures, k.answers)) q.3 (store p c.answer.new.w) c.answer.new.gaps (code_of c.answer.result) (replied_on s p l.at l.i x _ (store p c.answer.new.w) l.gaps c.answer.new.gaps (code_of c.answer.result) e c.answer.ensures) (omega (arith, k.counts, length-store p l.w COUNTS)) (code-bad c.answer.result _ c.in_err-answer.was))

pub overflow_add-at : goal.overflow_add-at
overflow_add-at c = let a = c.args in let q = c.requires in let s = a.job.now in let p = a.p.now in let t = store p a.w.now in let k = requests_counted s p q.1 in let l = c.loop-i in let u = store p l.w in let z = in_turn s p t u a.gaps.now l.gaps l.at l.i l.invariant.2 (omega (arith, c.loop-i-test.true, c.size_of-i-end.ensures, k.answers)) q.3 in omega (arith, request_inside s l.at (z.0, z.1, z.2))

pub after_reference-at-requires : goal.after_reference-at-requires
after_reference-at-requires c = let a = c.args in let q = c.requires in let s = a.job.now in let p = a.p.now in let t = store p a.w.now in let k = requests_counted s p q.1 in let l = c.loop-i in let u = store p l.w in refers s l.at (in_turn s p t u a.gaps.now l.gaps l.at l.i l.invariant.2 (omega (arith, c.loop-i-test.true, c.size_of-i-end.ensures, k.answers)) q.3)

pub loop-i-preserved : goal.loop-i-preserved
loop-i-preserved c = let a = c.args in let q = c.requires in let s = a.job.now in let p = a.p.now in let t = store p a.w.now in let k = requests_counted s p q.1 in let l = c.loop-i in let u = store p l.w in let x = store p c.next_count.new.w in let e = counted_is u x c.next_count.result c.next_count.ensures.0 c.next_count.ensures.1 in (search rules, search rules, replying_next s p t u a.gaps.now l.gaps l.at l.i l.invariant.2 (omega (arith, c.loop-i-test.true, c.size_of-i-end.ensures, k.answers)) q.3 (store p c.answer.new.w) c.answer.new.gaps (code_of c.answer.result) (replied_on s p l.at l.i x _ (store p c.answer.new.w) l.gaps c.answer.new.gaps (code_of c.answer.result) e c.answer.ensures) (omega (arith, k.counts, length-store p l.w COUNTS)) (code-good c.answer.result _ c.in_ok-answer.was) (omega (arith, c.loop-i-test.true, c.size_of-i-end.ensures, length-store p c.answer.new.w ANSWERS)) (length-store p c.answer.new.w ANSWERS ∙ sym (length-store p l.w ANSWERS)) (omega (arith, c.loop-i-test.true, c.size_of-i-end.ensures, k.answers, k.origins, length-store p c.answer.new.w ORIGINS)) (length-store p c.answer.new.w ORIGINS ∙ sym (length-store p l.w ORIGINS)) c.after_reference-at.result (place_next s p t u a.gaps.now l.gaps l.at l.i l.invariant.2 (omega (arith, c.loop-i-test.true, c.size_of-i-end.ensures, k.answers)) q.3 k.short c.after_reference-at.result c.after_reference-at.ensures) (turn_next s p t u a.gaps.now l.gaps l.at l.i l.invariant.2 (omega (arith, c.loop-i-test.true, c.size_of-i-end.ensures, k.answers)) c.after_reference-at.result c.after_reference-at.ensures))

pub next_count-requires-2 : goal.next_count-requires-2
next_count-requires-2 c = let a = c.args in let q = c.requires in let s = a.job.now in let p = a.p.now in let t = store p a.w.now in let k = requests_counted s p q.1 in let l = c.loop-i in let u = store p l.w in (search rules, omega (arith, k.counts), omega (arith, l.invariant.2.place, l.invariant.2.few, q.5))

pub save-requires : goal.save-requires
save-requires c = let a = c.args in let q = c.requires in let s = a.job.now in let p = a.p.now in let t = store p a.w.now in let k = requests_counted s p q.1 in let l = c.loop-i in let u = store p l.w in (search rules, omega (arith, k.counts), l.invariant.2.word)

pub returns : goal.returns
unfolding code_of
returns c = let a = c.args in let q = c.requires in let s = a.job.now in let p = a.p.now in let t = store p a.w.now in let k = requests_counted s p q.1 in let l = c.loop-i in let u = store p l.w in let x = store p c.next_count-2.new.w in let e = counted_is u x c.next_count-2.result c.next_count-2.ensures.0 c.next_count-2.ensures.1 in ended s p t u a.gaps.now l.gaps l.at l.i l.invariant.2 (omega (arith, c.loop-i-test.false, c.size_of-i-end.ensures, k.answers)) (length-store p l.w ANSWERS ∙ k.answers) (length-store p l.w ORIGINS ∙ k.origins) (length-store p l.w COUNTS ∙ k.counts) x _ e (length-store p c.next_count-2.new.w COUNTS ∙ k.counts) c.save.ensures
