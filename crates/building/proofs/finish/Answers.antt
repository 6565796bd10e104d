use Rattle.building.proofs.Lasting.{there_now}
use Rattle.pool.proofs.Nodal.{node_place_lem, entry_places}
use Rattle.store.proofs.Stores.{length-store}
use Rattle.store.specs.Regions.{NODES}
use Rattle.store.specs.Store.{store}
use mathlib.Core.Path.{refl, ap, ◌∙◌}
use native.Mathlib.Omega.{arith}
use Rattle.std.specs.Prelude.{Err}
use Rattle.std.proofs.lemmas.Result.{err_from_is_err_and}
use Rattle.refusal.specs.Numbers.{code_of}
use Rattle.pool.proofs.Codes.{code-good, code-refused, code-passed}
use borrow.Author.Rules.{rules}
use Rattle.building.proofs.finish.Goals as goal
-- `building::finish` meets its contract. The loop keeps that what the rest of the children gives, behind the numbers of those passed, is the whole. Assumes nothing.
use Rattle.building.proofs.Fields.{numbering_begin, numbering_end, numbering_refused, numbering_next, fields_many, fields_room, field_is, field_there}

pub first_child-first-requires : goal.first_child-first-requires
first_child-first-requires c = let a = c.args in let q = c.requires in let s = a.job.now in let p = a.p.now in let t = store p a.w.now in let there = there_now s p t q.1 q.2.standing in (search rules, node_place_lem s p t there a.k q.3, (entry_places s p t there a.k q.3).firsts)

pub child_count-i-end-requires : goal.child_count-i-end-requires
child_count-i-end-requires c = let a = c.args in let q = c.requires in let s = a.job.now in let p = a.p.now in let t = store p a.w.now in let there = there_now s p t q.1 q.2.standing in (search rules, node_place_lem s p t there a.k q.3, (entry_places s p t there a.k q.3).sizes)

pub loop-i-init : goal.loop-i-init
loop-i-init c = let a = c.args in let q = c.requires in let s = a.job.now in let p = a.p.now in let t = store p a.w.now in (refl, refl, numbering_begin s p a.k t a.gaps.now q.2)

pub overflow_add-first : goal.overflow_add-first
overflow_add-first c = omega (arith, c.first_child-first.ensures.small, c.child_count-i-end.ensures.small)

pub load-child-requires : goal.load-child-requires
load-child-requires c = let a = c.args in let q = c.requires in let s = a.job.now in let p = a.p.now in let t = store p a.w.now in let first = c.first_child-first in let n = c.child_count-i-end in (search rules, omega (arith, fields_room s p t a.gaps.now q.1 q.2 (length-store p a.w.now NODES) a.k q.3 first.result n.result first.ensures.word n.ensures.word, c.loop-i-test.true))

pub number_child-requires : goal.number_child-requires
number_child-requires c = let a = c.args in let q = c.requires in let s = a.job.now in let p = a.p.now in let t = store p a.w.now in let first = c.first_child-first in let n = c.child_count-i-end in let l = c.loop-i in let u = store p l.w in let child = c.load-child in let more = c.loop-i-test.true in (search rules, q.1, l.invariant.2.again, field_there s p t a.gaps.now q.1 q.2 (length-store p a.w.now NODES) a.k q.3 first.result n.result first.ensures.word n.ensures.word u l.gaps l.i l.invariant.2 more child.result child.ensures.word)

pub returns-in_err-number_child : goal.returns-in_err-number_child
returns-in_err-number_child c = let r = err_from_is_err_and c.from_residual.result c.from_residual.ensures.1 in rw (code-passed c.number_child.result c.from_residual.result _ c.in_err-number_child.was (r.1 ∙ ap Err r.2)) (let a = c.args in let q = c.requires in let s = a.job.now in let p = a.p.now in let t = store p a.w.now in let first = c.first_child-first in let n = c.child_count-i-end in let l = c.loop-i in let u = store p l.w in let child = c.load-child in let more = c.loop-i-test.true in let x = c.number_child in numbering_refused s p a.k t u a.gaps.now l.gaps l.i l.invariant.2 (omega (arith, more, fields_many s p t a.gaps.now q.1 q.2 (length-store p a.w.now NODES) a.k q.3 first.result n.result first.ensures.word n.ensures.word)) child.result (code_of x.result) (field_is s p t a.gaps.now q.1 q.2 (length-store p a.w.now NODES) a.k q.3 first.result n.result first.ensures.word n.ensures.word u l.gaps l.i l.invariant.2 more child.result child.ensures.word) (store p x.new.w) x.new.gaps x.ensures (code-refused x.result _ c.in_err-number_child.was))

pub loop-i-preserved : goal.loop-i-preserved
loop-i-preserved c = let a = c.args in let q = c.requires in let s = a.job.now in let p = a.p.now in let t = store p a.w.now in let first = c.first_child-first in let n = c.child_count-i-end in let l = c.loop-i in let u = store p l.w in let child = c.load-child in let more = c.loop-i-test.true in let x = c.number_child in (search rules, search rules, numbering_next s p a.k t u a.gaps.now l.gaps l.i l.invariant.2 (omega (arith, more, fields_many s p t a.gaps.now q.1 q.2 (length-store p a.w.now NODES) a.k q.3 first.result n.result first.ensures.word n.ensures.word)) child.result (code_of x.result) (field_is s p t a.gaps.now q.1 q.2 (length-store p a.w.now NODES) a.k q.3 first.result n.result first.ensures.word n.ensures.word u l.gaps l.i l.invariant.2 more child.result child.ensures.word) (store p x.new.w) x.new.gaps x.ensures (code-good x.result _ c.in_ok-number_child.was))

pub returns : goal.returns
unfolding code_of
returns c = let a = c.args in let q = c.requires in let s = a.job.now in let p = a.p.now in let t = store p a.w.now in let first = c.first_child-first in let n = c.child_count-i-end in let l = c.loop-i in numbering_end s p a.k t (store p l.w) a.gaps.now l.gaps l.i l.invariant.2 (omega (arith, c.loop-i-test.false, fields_many s p t a.gaps.now q.1 q.2 (length-store p a.w.now NODES) a.k q.3 first.result n.result first.ensures.word n.ensures.word))
