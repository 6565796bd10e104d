use Rattle.store.proofs.Laying.{work-sizes}
use Rattle.store.proofs.Stores.{length-store}
use Rattle.store.specs.Regions.{COUNTS}
use Rattle.store.specs.Store.{store}
use native.Mathlib.Omega.{arith}
use mathlib.Core.Path.{◌≡◌, sym, ◌∙◌}
use Rattle.ending.specs.Naming.{slot_or_0}
use Rattle.ending.proofs.Finding.{slot-is, slot-none}
use Rattle.refusal.specs.Numbers.{code_of}
use borrow.Author.Rules.{rules}
use Rattle.ending.proofs.name_slot.Goals as goal
-- `ending::name_slot` meets its contract: no name, the slot that the text's node has, or one that is taken. Assumes nothing.
use Rattle.ending.proofs.Naming.{not_named, took-low, took-some, named-shared, named_new}

pub name_wanted-requires : goal.name_wanted-requires
name_wanted-requires c = let q = c.requires in (q.0, q.1.nodes.0, q.1.raws, q.1.build)

pub returns-then-not-name_wanted : goal.returns-then-not-name_wanted
unfolding code_of
returns-then-not-name_wanted c = let a = c.args in let q = c.requires.1 in not_named a.job.now a.p.now (store a.p.now a.w.now) a.gaps.now q.gaps (rw c.if-not-name_wanted.true at c.name_wanted.ensures) q.unnamed

pub attribute_slot-own-requires : goal.attribute_slot-own-requires
attribute_slot-own-requires c = let q = c.requires in (q.0, q.1.nodes)

pub keep_name-requires : goal.keep_name-requires
keep_name-requires c = let a = c.args in let q = c.requires in let own = c.attribute_slot-own in (q.0, omega (arith, (work-sizes a.job.now a.p.now q.1.nodes.0).counts), own.ensures.1, own.ensures.2)

pub returns-then-is_some : goal.returns-then-is_some
returns-then-is_some c = let a = c.args in let q = c.requires.1 in let own = c.attribute_slot-own in named-shared a.job.now a.p.now (store a.p.now a.w.now) a.gaps.now q.gaps (rw c.if-not-name_wanted.false at c.name_wanted.ensures) (slot_or_0 own.result) own.ensures.0 (store a.p.now c.keep_name.new.w) (code_of c.keep_name.result) (slot-is own.result own.ensures.2 (sym c.is_some.ensures ∙ c.if-is_some.true)) (omega (arith, (work-sizes a.job.now a.p.now q.nodes.0).counts, length-store a.p.now a.w.now COUNTS)) c.keep_name.ensures

pub take_slot-requires : goal.take_slot-requires
take_slot-requires c = let a = c.args in let q = c.requires in (q.0, omega (arith, (work-sizes a.job.now a.p.now q.1.nodes.0).counts), q.1.gaps)

pub keep_name-requires-2 : goal.keep_name-requires-2
keep_name-requires-2 c =
    let a = c.args in
    let q = c.requires in
    let t = store a.p.now a.w.now in
    let x = c.take_slot in
    let same : c.map-new.result ≡ x.result = search rules in
    let low = took-low t (store a.p.now x.new.w) a.gaps.now x.new.gaps x.result q.1.gaps x.ensures in
    let some = took-some t (store a.p.now x.new.w) a.gaps.now x.new.gaps x.result x.ensures in
    (search rules, omega (arith, (work-sizes a.job.now a.p.now q.1.nodes.0).counts), rw same (omega (arith, low)), rw same some)

pub returns : goal.returns
returns c = let a = c.args in let q = c.requires.1 in let w = c.take_slot.new.w in let same : c.map-new.result ≡ c.take_slot.result = search rules in named_new a.job.now a.p.now (store a.p.now a.w.now) a.gaps.now q.gaps (rw c.if-not-name_wanted.false at c.name_wanted.ensures) (slot_or_0 c.attribute_slot-own.result) c.attribute_slot-own.ensures.0 (store a.p.now c.keep_name-2.new.w) (code_of c.keep_name-2.result) (slot-none c.attribute_slot-own.result (sym c.is_some.ensures ∙ c.if-is_some.false)) (store a.p.now w) c.take_slot.new.gaps c.take_slot.result c.take_slot.ensures (omega (arith, (work-sizes a.job.now a.p.now q.nodes.0).counts, length-store a.p.now w COUNTS)) (rw (← same) c.keep_name-2.ensures)
