use Rattle.building.proofs.Kids.{kids_now}
use Rattle.building.proofs.Lasting.{there_now, working_goes, boot_goes}
use Rattle.rows.proofs.Starting.{row_room}
use Rattle.store.proofs.Stores.{length-store}
use Rattle.store.specs.Regions.{NODES}
use Rattle.store.specs.Store.{store}
use mathlib.Core.Path.{sym, ap, ◌∙◌}
use Rattle.std.specs.Prelude.{Err}
use Rattle.std.proofs.lemmas.Result.{err_from_is_err_and}
use Rattle.refusal.specs.Numbers.{number, code_of}
use Rattle.pool.proofs.Codes.{code-good, code-kept, code-refused, code-passed}
use borrow.Author.Rules.{rules}
use borrow.Author.Tests.{ltb-true}
use Rattle.building.proofs.number_bootstrap.Goals as goal
-- `building::number_bootstrap` meets its contract. Assumes nothing.
use Rattle.building.proofs.Stepping.{bootstrap_had, bootstrap_refused, unindexed_tells, bootstrap_unindexed, bootstrap_indexed}

pub has_index-requires : goal.has_index-requires
has_index-requires c = let a = c.args in let q = c.requires in let s = a.job.now in let p = a.p.now in let t = store p a.w.now in (search rules, row_room s p q.1, kids_now s p t q.1 q.2.standing (length-store p a.w.now NODES), q.3)

pub returns-then-has_index : goal.returns-then-has_index
unfolding code_of
returns-then-has_index c = let a = c.args in let q = c.requires in let p = a.p.now in bootstrap_had a.job.now p (store p a.w.now) a.gaps.now q.1 q.2 (length-store p a.w.now NODES) a.k q.3 (ltb-true _ _ (sym c.has_index.ensures ∙ c.if-has_index.true))

pub slots_of-requires : goal.slots_of-requires
slots_of-requires c = let a = c.args in let q = c.requires in let s = a.job.now in let p = a.p.now in (search rules, there_now s p (store p a.w.now) q.1 q.2.standing, q.2.live, q.3.made, q.2.standing.kids a.k q.3.made)

pub returns-in_err-slots_of : goal.returns-in_err-slots_of
returns-in_err-slots_of c = let r = err_from_is_err_and c.from_residual.result c.from_residual.ensures.1 in rw (code-passed c.slots_of.result c.from_residual.result _ c.in_err-slots_of.was (r.1 ∙ ap Err r.2)) (let a = c.args in let q = c.requires in let p = a.p.now in let x = c.slots_of in bootstrap_refused a.job.now p (store p a.w.now) a.gaps.now q.1 q.2 (length-store p a.w.now NODES) a.k q.3 (store p x.new.w) x.new.gaps (code_of x.result) x.ensures (code-refused x.result _ c.in_err-slots_of.was))

pub row_index-requires : goal.row_index-requires
row_index-requires c = let a = c.args in
    let q = c.requires in
    let s = a.job.now in
    let p = a.p.now in
    let t = store p a.w.now in
    let long = length-store p a.w.now NODES in
    let x = c.slots_of in
    let u = store p x.new.w in
    let h = x.new.gaps in
    let fine = code-good x.result _ c.in_ok-slots_of.was in
    let long' = length-store p x.new.w NODES in
    let goes = x.ensures.goes fine in
    let w = working_goes s p t u a.gaps.now h goes q.2 in
    (search rules, row_room s p q.1, kids_now s p u q.1 w.standing long', w.standing.raws, w.rowed.1.words, boot_goes s p t u a.gaps.now h goes a.k q.3)

pub refuse_at-requires : goal.refuse_at-requires
refuse_at-requires c = let a = c.args in
    let q = c.requires in
    let s = a.job.now in
    let p = a.p.now in
    let t = store p a.w.now in
    let long = length-store p a.w.now NODES in
    let x = c.slots_of in
    let u = store p x.new.w in
    let h = x.new.gaps in
    let fine = code-good x.result _ c.in_ok-slots_of.was in
    let long' = length-store p x.new.w NODES in
    let y = c.row_index in
    let v = store p y.new.w in
    let asks = unindexed_tells s p t a.gaps.now q.1 q.2 long a.k q.3 u h (code_of x.result) x.ensures fine long' v (code_of y.result) y.ensures in
    (search rules, asks.0, asks.1, asks.2)

pub returns-in-Err : goal.returns-in-Err
unfolding code_of
returns-in-Err c = let a = c.args in
    let q = c.requires in
    let s = a.job.now in
    let p = a.p.now in
    let t = store p a.w.now in
    let long = length-store p a.w.now NODES in
    let x = c.slots_of in
    let u = store p x.new.w in
    let h = x.new.gaps in
    let fine = code-good x.result _ c.in_ok-slots_of.was in
    let long' = length-store p x.new.w NODES in
    let y = c.row_index in
    let v = store p y.new.w in
    let told = c.refuse_at in
    bootstrap_unindexed s p t a.gaps.now q.1 q.2 long a.k q.3 u h (code_of x.result) x.ensures fine long' v (code_of y.result) y.ensures
    (code-refused y.result _ c.in-Err.is)
    (store p told.new.w)
    (number told.result)
    (ap number told.ensures.0 ∙ sym (ap code_of c.in-Err.is), told.ensures.1)

pub returns : goal.returns
unfolding code_of
returns c = let a = c.args in
    let q = c.requires in
    let s = a.job.now in
    let p = a.p.now in
    let t = store p a.w.now in
    let long = length-store p a.w.now NODES in
    let x = c.slots_of in
    let u = store p x.new.w in
    let h = x.new.gaps in
    let fine = code-good x.result _ c.in_ok-slots_of.was in
    let long' = length-store p x.new.w NODES in
    let y = c.row_index in
    let v = store p y.new.w in
    bootstrap_indexed s p t a.gaps.now q.1 q.2 long a.k q.3 u h (code_of x.result) x.ensures fine long' v (code_of y.result) y.ensures
    (boot_goes s p t u a.gaps.now h (x.ensures.goes fine) a.k q.3)
    (code-kept y.result c.in_default.not-Err)
