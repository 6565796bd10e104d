-- `pool::slot_of` meets its contract. A child that has a slot keeps it, and else the one that was found is given. Assumes nothing.
use native.Mathlib.Omega.{arith}
use borrow.Author.Rules.{rules}
use mathlib.Core.Logic.{inl, inr}
use mathlib.Core.Path.{refl, sym, ◌∙◌}
use Rattle.std.proofs.lemmas.Result.{err_from_is_err_and}
use Rattle.refusal.specs.Numbers.{code_of}
use Rattle.store.proofs.Stores.{length-store}
use Rattle.store.specs.Store.{store}
use Rattle.store.specs.Regions.{COUNTS, GIVEN, PENDING}
use Rattle.pool.proofs.Codes.{ok_or-none, ok_or-some}
use Rattle.pool.proofs.Slotting.{pool_sizes, node_given, slotted_old, slotted_none, slotted, give-asks, marked_raw, marked_old, marked_new}
use Rattle.pool.proofs.slot_of.Goals as goal

pub returns-then-child-lt-ENTRY-clause-slotted : goal.returns-then-child-lt-ENTRY-clause-slotted
unfolding code_of
returns-then-child-lt-ENTRY-clause-slotted c =
    let a = c.args in slotted_old a.job.now a.ldc a.child (store a.p.now a.w.now) a.gaps.now (inl c.if-child-lt-ENTRY.true)

pub returns-then-child-lt-ENTRY-clause-marked : goal.returns-then-child-lt-ENTRY-clause-marked
returns-then-child-lt-ENTRY-clause-marked c =
    let a = c.args in marked_raw a.child (store a.p.now a.w.now) a.gaps.now c.if-child-lt-ENTRY.true

pub load-requires : goal.load-requires
load-requires c =
    let a = c.args in
    (search rules, omega (arith, c.if-child-lt-ENTRY.false, c.requires.3, node_given a.job.now a.p.now (store a.p.now a.w.now) c.requires.1))

pub returns-then-load-ne0-clause-slotted : goal.returns-then-load-ne0-clause-slotted
unfolding code_of
returns-then-load-ne0-clause-slotted c =
    let a = c.args in
    slotted_old a.job.now a.ldc a.child (store a.p.now a.w.now) a.gaps.now
    (inr (c.if-child-lt-ENTRY.false, omega (arith, c.load.ensures.word, c.if-load-ne0.true)))

pub returns-then-load-ne0-clause-marked : goal.returns-then-load-ne0-clause-marked
returns-then-load-ne0-clause-marked c =
    let a = c.args in
    marked_old a.child (store a.p.now a.w.now) a.gaps.now c.if-child-lt-ENTRY.false (omega (arith, c.load.ensures.word, c.if-load-ne0.true))

pub take_slot-requires : goal.take_slot-requires
take_slot-requires c =
    let a = c.args in (search rules, omega (arith, (pool_sizes a.job.now a.p.now c.requires.1.0).counts), c.requires.2.gaps)

pub returns-in_err-slot-clause-slotted : goal.returns-in_err-slot-clause-slotted
unfolding code_of
returns-in_err-slot-clause-slotted c =
    let a = c.args in
    let p = a.p.now in
    let r = err_from_is_err_and c.from_residual.result c.from_residual.ensures.1 in
    let (none, is) = ok_or-none c.take_slot.result c.no_slot.result _ (sym c.ok_or.ensures.value ∙ c.in_err-slot.was) in
    rw (r.1, r.2, is, c.no_slot.ensures)
    (slotted_none a.job.now a.ldc c.node_is_wide-wide.result a.child _ c.take_slot.result (store p a.w.now) (store p c.take_slot.new.w) a.gaps.now
    c.take_slot.new.gaps refl (c.if-child-lt-ENTRY.false, sym c.load.ensures.word ∙ c.if-load-ne0.false) c.requires.2 c.node_is_wide-wide.ensures c.take_slot.ensures none)

pub give-requires : goal.give-requires
give-requires c =
    let a = c.args in
    let p = a.p.now in
    let q = c.requires in
    let w = c.take_slot.new.w in
    let x =
    give-asks a.job.now a.ldc c.node_is_wide-wide.result a.child _ c.take_slot.result (store p a.w.now) (store p w) a.gaps.now c.take_slot.new.gaps
    refl (c.if-child-lt-ENTRY.false, sym c.load.ensures.word ∙ c.if-load-ne0.false) q.2 c.node_is_wide-wide.ensures c.take_slot.ensures p q.1 q.3 (length-store p w GIVEN) (length-store p w PENDING) in
    (search rules, x.0, x.1, x.2, x.3, x.4)

pub returns-clause-slotted : goal.returns-clause-slotted
unfolding code_of
returns-clause-slotted c =
    let a = c.args in
    let p = a.p.now in
    let q = c.requires in
    let w = c.take_slot.new.w in
    slotted a.job.now a.ldc c.node_is_wide-wide.result a.child _ c.take_slot.result (store p a.w.now) (store p w) a.gaps.now c.take_slot.new.gaps
    refl (c.if-child-lt-ENTRY.false, sym c.load.ensures.word ∙ c.if-load-ne0.false) q.2 c.node_is_wide-wide.ensures c.take_slot.ensures p q.1 q.3 (length-store p w GIVEN) (length-store p w COUNTS) _
    (ok_or-some c.take_slot.result c.no_slot.result _ (sym c.ok_or.ensures.value ∙ c.in_ok-slot.was))
    (store p c.give.new.w) c.give.ensures

pub returns-clause-marked : goal.returns-clause-marked
returns-clause-marked c =
    let a = c.args in
    marked_new a.child (store a.p.now a.w.now) a.gaps.now (c.if-child-lt-ENTRY.false, sym c.load.ensures.word ∙ c.if-load-ne0.false)
