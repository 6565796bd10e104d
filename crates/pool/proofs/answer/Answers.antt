use mathlib.Core.Path.{ap, ◌∙◌}
use Rattle.store.proofs.Stores.{length-store}
use Rattle.store.proofs.Laying.{work-sizes}
use Rattle.store.specs.Store.{size, store}
use Rattle.store.specs.Regions.{NODE-HEADS, NODES, ANSWERS, ORIGINS}
use Rattle.std.specs.Prelude.{Err}
use Rattle.std.proofs.lemmas.Result.{err_from_is_err_and}
use Rattle.refusal.specs.Numbers.{code_of}
use Rattle.pool.proofs.Codes.{code-good, code-bad, code-passed}
use Rattle.pool.proofs.Slotting.{node_given}
use Rattle.pool.proofs.Answering.{replied_unresolved, became, there_now, live_now, child_there, replied_unslotted, replied_kept, at_zero}
use borrow.Author.Rules.{rules}
use Rattle.pool.proofs.answer.Goals as goal
-- `pool::answer` meets its contract. Resolved, given a slot, kept, or refused at the first that fails. Assumes nothing.
use native.Mathlib.Omega.{arith}

pub request_goal-goal-requires : goal.request_goal-goal-requires
request_goal-goal-requires c = let q = c.requires in (search rules, q.1, q.2.names, q.2.goals, q.3)

pub resolve-requires : goal.resolve-requires
resolve-requires c = let a = c.args in let q = c.requires in let s = a.job.now in let p = a.p.now in let t = store p a.w.now in let x = q.3 in (search rules, q.1, q.2.table, q.2.rests, (c.request_goal-goal.ensures x.0 x.1 x.2 x.3).is, q.5)

pub returns-in_err-resolve : goal.returns-in_err-resolve
returns-in_err-resolve c = let r = err_from_is_err_and c.from_residual.result c.from_residual.ensures.1 in let a = c.args in let q = c.requires in let s = a.job.now in let p = a.p.now in let t = store p a.w.now in λ z next f e. rw (code-passed c.resolve.result c.from_residual.result _ c.in_err-resolve.was (r.1 ∙ ap Err r.2)) (replied_unresolved s p z a.i t a.gaps.now q.2 q.1 c.request_goal-goal.result (c.request_goal-goal.ensures z next f e) _ (code_of c.resolve.result) c.resolve.ensures (code-bad c.resolve.result _ c.in_err-resolve.was))

pub child_of-child-requires : goal.child_of-child-requires
child_of-child-requires c = let a = c.args in let q = c.requires in let s = a.job.now in let p = a.p.now in let t = store p a.w.now in let x = q.3 in (search rules, became s p x.0 a.i t a.gaps.now q.2 q.1 c.request_goal-goal.result (c.request_goal-goal.ensures x.0 x.1 x.2 x.3) (store p c.resolve.new.w) (at_zero (size p NODE-HEADS) s t (store p c.resolve.new.w) c.request_goal-goal.result (code_of c.resolve.result) (code-good c.resolve.result _ c.in_ok-resolve.was) c.resolve.ensures) (length-store p a.w.now NODES))

pub slot_of-requires : goal.slot_of-requires
slot_of-requires c = let a = c.args in let q = c.requires in let s = a.job.now in let p = a.p.now in let t = store p a.w.now in let x = q.3 in (search rules, there_now s p x.0 a.i t a.gaps.now q.2 q.1 c.request_goal-goal.result (c.request_goal-goal.ensures x.0 x.1 x.2 x.3) (store p c.resolve.new.w) (at_zero (size p NODE-HEADS) s t (store p c.resolve.new.w) c.request_goal-goal.result (code_of c.resolve.result) (code-good c.resolve.result _ c.in_ok-resolve.was) c.resolve.ensures) (length-store p a.w.now NODES), live_now s p x.0 a.i t a.gaps.now q.2 q.1 c.request_goal-goal.result (c.request_goal-goal.ensures x.0 x.1 x.2 x.3) (store p c.resolve.new.w) (at_zero (size p NODE-HEADS) s t (store p c.resolve.new.w) c.request_goal-goal.result (code_of c.resolve.result) (code-good c.resolve.result _ c.in_ok-resolve.was) c.resolve.ensures) (length-store p a.w.now NODES), child_there s p x.0 a.i t a.gaps.now q.2 q.1 c.request_goal-goal.result (c.request_goal-goal.ensures x.0 x.1 x.2 x.3) (store p c.resolve.new.w) (at_zero (size p NODE-HEADS) s t (store p c.resolve.new.w) c.request_goal-goal.result (code_of c.resolve.result) (code-good c.resolve.result _ c.in_ok-resolve.was) c.resolve.ensures) (length-store p a.w.now NODES) c.child_of-child.result c.child_of-child.ensures)

pub returns-in_err-origin : goal.returns-in_err-origin
returns-in_err-origin c = let r = err_from_is_err_and c.from_residual-in_err-origin.result c.from_residual-in_err-origin.ensures.1 in let a = c.args in let q = c.requires in let s = a.job.now in let p = a.p.now in let t = store p a.w.now in λ z next f e. rw (code-passed c.slot_of.result c.from_residual-in_err-origin.result _ c.in_err-origin.was (r.1 ∙ ap Err r.2)) (replied_unslotted s p z a.i t a.gaps.now q.2 q.1 c.request_goal-goal.result (c.request_goal-goal.ensures z next f e) (store p c.resolve.new.w) (at_zero (size p NODE-HEADS) s t (store p c.resolve.new.w) c.request_goal-goal.result (code_of c.resolve.result) (code-good c.resolve.result _ c.in_ok-resolve.was) c.resolve.ensures) (length-store p a.w.now NODES) c.child_of-child.result c.child_of-child.ensures c.asks_ldc-ldc.result (c.asks_ldc-ldc.ensures z next f) _ _ (code_of c.slot_of.result) c.slot_of.ensures.slotted (code-bad c.slot_of.result _ c.in_err-origin.was))

pub keep_answer-requires : goal.keep_answer-requires
keep_answer-requires c = let a = c.args in let q = c.requires in let s = a.job.now in let p = a.p.now in let t = store p a.w.now in let x = q.3 in (search rules, q.4, omega (arith, q.4, (work-sizes s p q.1).answers, (work-sizes s p q.1).origins), omega (arith, child_there s p x.0 a.i t a.gaps.now q.2 q.1 c.request_goal-goal.result (c.request_goal-goal.ensures x.0 x.1 x.2 x.3) (store p c.resolve.new.w) (at_zero (size p NODE-HEADS) s t (store p c.resolve.new.w) c.request_goal-goal.result (code_of c.resolve.result) (code-good c.resolve.result _ c.in_ok-resolve.was) c.resolve.ensures) (length-store p a.w.now NODES) c.child_of-child.result c.child_of-child.ensures, node_given s p (store p c.resolve.new.w) (there_now s p x.0 a.i t a.gaps.now q.2 q.1 c.request_goal-goal.result (c.request_goal-goal.ensures x.0 x.1 x.2 x.3) (store p c.resolve.new.w) (at_zero (size p NODE-HEADS) s t (store p c.resolve.new.w) c.request_goal-goal.result (code_of c.resolve.result) (code-good c.resolve.result _ c.in_ok-resolve.was) c.resolve.ensures) (length-store p a.w.now NODES))))

pub returns : goal.returns
returns c = let a = c.args in let q = c.requires in let s = a.job.now in let p = a.p.now in let t = store p a.w.now in λ z next f e. replied_kept s p z a.i t a.gaps.now q.2 q.1 c.request_goal-goal.result (c.request_goal-goal.ensures z next f e) (store p c.resolve.new.w) (at_zero (size p NODE-HEADS) s t (store p c.resolve.new.w) c.request_goal-goal.result (code_of c.resolve.result) (code-good c.resolve.result _ c.in_ok-resolve.was) c.resolve.ensures) (length-store p a.w.now NODES) c.child_of-child.result c.child_of-child.ensures c.asks_ldc-ldc.result (c.asks_ldc-ldc.ensures z next f) _ _ (code_of c.slot_of.result) c.slot_of.ensures.slotted (code-good c.slot_of.result _ c.in_ok-origin.was) (omega (arith, q.4, length-store p c.slot_of.new.w ANSWERS)) (omega (arith, q.4, (work-sizes s p q.1).answers, (work-sizes s p q.1).origins, length-store p c.slot_of.new.w ORIGINS)) _ (rw c.in_ok-origin.was at c.slot_of.ensures.marked) _ (code_of c.keep_answer.result) c.keep_answer.ensures
