-- `definitions::add_entry` meets its contract. Assumes nothing.
use Rattle.definitions.proofs.Adding.{has_kids, enters_none, enters_kids}
use Rattle.definitions.proofs.Rooms.{room}
use Rattle.store.specs.Store.{store}
use native.Mathlib.Omega.{arith}
use borrow.Author.Rules.{rules}
use Rattle.definitions.proofs.add_entry.Goals as goal

pub put_entry-requires : goal.put_entry-requires
put_entry-requires c = let a = c.args in let h = c.requires.2 in let m = room a.job.now a.p.now c.requires.1 in (search rules, omega (arith, m.records, h.2.low), omega (arith, m.offsets, h.2.low), omega (arith, m.firsts, h.2.low), omega (arith, m.sizes, h.2.low), m.counts, omega (arith, m.bytes, h.2.stands.past, h.2.stands.within), omega (arith, m.references, h.2.room, c.reference_count-n.ensures h.0 h.1 h.2.stands))

pub take_references-first-requires : goal.take_references-first-requires
take_references-first-requires c = let a = c.args in let h = c.requires.2 in let m = room a.job.now a.p.now c.requires.1 in (search rules, m.counts, rw c.put_entry.ensures (omega (arith, m.references, h.2.room, c.reference_count-n.ensures h.0 h.1 h.2.stands)))

pub after_literal-requires : goal.after_literal-requires
after_literal-requires c = let a = c.args in let h = c.requires.2 in let m = room a.job.now a.p.now c.requires.1 in ((h.0, h.1, h.2.stands, omega (arith, c.if-n-eq0.true, c.reference_count-n.ensures h.0 h.1 h.2.stands)), m.bytes)

pub returns-then-n-eq0 : goal.returns-then-n-eq0
returns-then-n-eq0 c = let a = c.args in λ x next can. let n = c.reference_count-n.ensures x next can.stands in rw (c.take_references-first.ensures.1, c.take_references-first.ensures.0, c.put_entry.ensures) (enters_none a.job.now (store a.p.now a.w.now) a.at a.e c.reference_count-n.result x next can n c.after_literal.result c.if-n-eq0.true (c.after_literal.ensures x next can.stands (omega (arith, n, c.if-n-eq0.true))))

pub read_references-requires : goal.read_references-requires
read_references-requires c = let a = c.args in let h = c.requires.2 in let m = room a.job.now a.p.now c.requires.1 in let n = c.reference_count-n.ensures h.0 h.1 h.2.stands in (search rules, c.requires.1, (h.0, h.1, has_kids a.job.now (store a.p.now a.w.now) a.at a.e c.reference_count-n.result h.0 h.1 h.2 n), omega (arith, c.if-n-eq0.false), rw (c.take_references-first.ensures.0, c.put_entry.ensures) (omega (arith, m.goals, h.2.room, n)))

pub returns : goal.returns
returns c = let a = c.args in λ x next can. let n = c.reference_count-n.ensures x next can.stands in enters_kids a.job.now (store a.p.now a.w.now) a.at a.e c.reference_count-n.result x next can n _ c.read_references.result (rw (c.take_references-first.ensures.1, c.take_references-first.ensures.0, c.put_entry.ensures) at c.read_references.ensures)
