-- `definitions::add_counted` meets its contract. Assumes nothing.
use Rattle.definitions.proofs.Adding.{can_counted}
use Rattle.definitions.proofs.Rooms.{room}
use Rattle.store.specs.Store.{store}
use native.Mathlib.Omega.{arith}
use borrow.Author.Rules.{rules}
use Rattle.definitions.proofs.add_counted.Goals as goal

pub next_count-i-requires : goal.next_count-i-requires
next_count-i-requires c = let a = c.args in let h = c.requires.4 in let m = room a.job.now a.p.now c.requires.1 in (search rules, omega (arith, m.counts, c.requires.3), omega (arith, m.entries, h.2.low))

pub overflow_add-base : goal.overflow_add-base
overflow_add-base c = let a = c.args in let h = c.requires.4 in let m = room a.job.now a.p.now c.requires.1 in rw c.next_count-i.ensures.0 (omega (arith, m.entries, h.2.low))

pub add_entry-requires : goal.add_entry-requires
add_entry-requires c = let a = c.args in let h = c.requires.4 in (search rules, c.requires.1, (h.0, h.1, rw (c.next_count-i.ensures.1, c.next_count-i.ensures.0) (can_counted a.job.now (store a.p.now a.w.now) a.c a.at _ h.0 h.1 c.requires.2 c.requires.3 h.2)))

pub returns : goal.returns
returns c = let a = c.args in λ x next can. let k = can_counted a.job.now (store a.p.now a.w.now) a.c a.at _ x next c.requires.2 c.requires.3 can in (rw (c.next_count-i.ensures.1, c.next_count-i.ensures.0) at c.add_entry.ensures) x next k
