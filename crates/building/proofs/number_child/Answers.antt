use Rattle.building.proofs.Kids.{kids_now}
use Rattle.building.proofs.Lasting.{there_now}
use Rattle.rows.proofs.Numbers.{boot_node, boot_is}
use Rattle.rows.proofs.Starting.{row_room}
use Rattle.store.proofs.Stores.{length-store}
use Rattle.store.specs.Regions.{NODES, INDEXES}
use Rattle.store.specs.Store.{store}
use mathlib.Core.Path.{sym, ap, ◌∙◌}
use Rattle.refusal.specs.Numbers.{number, code_of}
use Rattle.pool.proofs.Codes.{code-bad, code-kept}
use borrow.Author.Rules.{rules}
use Rattle.building.proofs.number_child.Goals as goal
-- `building::number_child` meets its contract. Assumes nothing.
use Rattle.building.proofs.Stepping.{child_bootstrap, unslotted_tells, child_unslotted, child_slotted}

pub is_bootstrap-requires : goal.is_bootstrap-requires
is_bootstrap-requires c = let a = c.args in let q = c.requires in let s = a.job.now in let p = a.p.now in (search rules, row_room s p q.1, kids_now s p (store p a.w.now) q.1 q.2.standing (length-store p a.w.now NODES), q.3)

pub overflow_sub-child : goal.overflow_sub-child
overflow_sub-child c = let a = c.args in let p = a.p.now in boot_node p (store p a.w.now) a.child c.is_bootstrap.result c.is_bootstrap.ensures c.if-is_bootstrap.true

pub number_bootstrap-requires : goal.number_bootstrap-requires
number_bootstrap-requires c = let a = c.args in let q = c.requires in let s = a.job.now in let p = a.p.now in let t = store p a.w.now in (search rules, q.1, q.2, boot_is p t a.child c.is_bootstrap.result c.is_bootstrap.ensures c.if-is_bootstrap.true (row_room s p q.1) (kids_now s p t q.1 q.2.standing (length-store p a.w.now NODES)) q.3 (length-store p a.w.now INDEXES))

pub returns-then-is_bootstrap : goal.returns-then-is_bootstrap
returns-then-is_bootstrap c = let a = c.args in let q = c.requires in let s = a.job.now in let p = a.p.now in let t = store p a.w.now in let b = c.is_bootstrap in let x = c.number_bootstrap in child_bootstrap s p t a.gaps.now q.1 q.2 (length-store p a.w.now NODES) a.child q.3 (store p x.new.w) x.new.gaps (code_of x.result) b.result b.ensures c.if-is_bootstrap.true (boot_node p t a.child b.result b.ensures c.if-is_bootstrap.true) x.ensures

pub slot_of-requires : goal.slot_of-requires
slot_of-requires c = let a = c.args in let q = c.requires in let s = a.job.now in let p = a.p.now in (search rules, there_now s p (store p a.w.now) q.1 q.2.standing, q.2.live, q.3)

pub overflow_sub-child-in-Err : goal.overflow_sub-child-in-Err
overflow_sub-child-in-Err c = let a = c.args in
    let q = c.requires in
    let s = a.job.now in
    let p = a.p.now in
    let t = store p a.w.now in
    let long = length-store p a.w.now NODES in
    let x = c.slot_of in
    let u = store p x.new.w in
    let h = x.new.gaps in
    let slotted = x.ensures.slotted in
    (unslotted_tells s p t a.gaps.now q.1 q.2 long a.child q.3 u h (code_of x.result) slotted (code-bad x.result _ c.in-Err.is)).0

pub refuse_at-requires : goal.refuse_at-requires
refuse_at-requires c = let a = c.args in
    let q = c.requires in
    let s = a.job.now in
    let p = a.p.now in
    let t = store p a.w.now in
    let long = length-store p a.w.now NODES in
    let x = c.slot_of in
    let u = store p x.new.w in
    let h = x.new.gaps in
    let slotted = x.ensures.slotted in
    let asks = unslotted_tells s p t a.gaps.now q.1 q.2 long a.child q.3 u h (code_of x.result) slotted (code-bad x.result _ c.in-Err.is) in
    (search rules, asks.1, asks.2, asks.3)

pub returns-in-Err : goal.returns-in-Err
unfolding code_of
returns-in-Err c = let a = c.args in
    let q = c.requires in
    let s = a.job.now in
    let p = a.p.now in
    let t = store p a.w.now in
    let long = length-store p a.w.now NODES in
    let b = c.is_bootstrap in
    let x = c.slot_of in
    let u = store p x.new.w in
    let h = x.new.gaps in
    let slotted = x.ensures.slotted in
    let told = c.refuse_at in
    child_unslotted s p t a.gaps.now q.1 q.2 long a.child q.3 u h (code_of x.result) b.result b.ensures c.if-is_bootstrap.false slotted
    (code-bad x.result _ c.in-Err.is)
    (store p told.new.w)
    (number told.result)
    (ap number told.ensures.0 ∙ sym (ap code_of c.in-Err.is), told.ensures.1)

pub returns : goal.returns
unfolding code_of
returns c = let a = c.args in
    let q = c.requires in
    let s = a.job.now in
    let p = a.p.now in
    let t = store p a.w.now in
    let long = length-store p a.w.now NODES in
    let b = c.is_bootstrap in
    let x = c.slot_of in
    let u = store p x.new.w in
    let h = x.new.gaps in
    let slotted = x.ensures.slotted in
    child_slotted s p t a.gaps.now q.1 q.2 long a.child q.3 u h (code_of x.result) b.result b.ensures c.if-is_bootstrap.false slotted (code-kept x.result c.in_default.not-Err)
