-- `pool::keep_answer` meets its contract. By the slot's word. Assumes nothing.
use mathlib.Core.Path.{refl}
use mathlib.Core.Logic.{inl, inr}
use Rattle.refusal.specs.Numbers.{number, code_of}
use Rattle.store.specs.Store.{store}
use Rattle.pool.proofs.Answering.{kept_both}
use Rattle.pool.proofs.keep_answer.Goals as goal

pub returns-then-too_high : goal.returns-then-too_high
unfolding number code_of
returns-then-too_high c = inr (refl, rw (← c.child_slot-slot.ensures.0) (c.too_high.ensures.0 c.if-too_high.true), refl)

pub returns : goal.returns
unfolding code_of
returns c =
    let a = c.args in
    let p = a.p.now in
    inl (
      refl,
      rw (← c.child_slot-slot.ensures.0) (c.too_high.ensures.1 c.if-too_high.false),
      rw (← c.child_slot-slot.ensures.0, ← c.mark.ensures.0) (kept_both (store p a.w.now) _ _ a.i _ _ c.save.ensures c.save-2.ensures),
    )
