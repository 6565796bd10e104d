-- `sym_refs::first_goal` meets its contract. Assumes nothing.
use native.Mathlib.Omega.{arith}
use mathlib.Core.Path.{refl}
use Rattle.store.specs.Store.{store}
use Rattle.sym_refs.proofs.Rooms.{room}
use Rattle.sym_refs.proofs.Firsts.{first_inside, first_name_stands, first_reference-stands, first_is, first_small, first_undefined, first_named}
use Rattle.sym_refs.proofs.first_goal.Goals as goal

pub load-at-requires : goal.load-at-requires
load-at-requires c = let a = c.args in let m = room a.job.now a.p.now c.requires.1 in (c.requires.0, omega (arith, m.places, m.name_goals, c.requires.3))

pub bounds-job-at : goal.bounds-job-at
bounds-job-at c = let a = c.args in omega (arith, first_inside a.job.now a.p.now (store a.p.now a.w.now) c.requires.1 c.requires.2 a.i c.load-at.result c.requires.3 c.load-at.ensures.word)

pub name_at-requires : goal.name_at-requires
name_at-requires c = let a = c.args in first_name_stands a.job.now a.p.now (store a.p.now a.w.now) c.requires.1 c.requires.2 a.i c.load-at.result c.requires.3 c.load-at.ensures.word

pub reference_word-target-requires : goal.reference_word-target-requires
reference_word-target-requires c = let a = c.args in (c.requires.1, first_reference-stands a.job.now a.p.now (store a.p.now a.w.now) c.requires.1 c.requires.2 a.i c.load-at.result c.requires.3 c.load-at.ensures.word c.name_at.result c.name_at.ensures)

pub returns-then-target-lt-SYM : goal.returns-then-target-lt-SYM
returns-then-target-lt-SYM c = let a = c.args in first_small a.job.now a.p.now (store a.p.now a.w.now) c.requires.1 c.requires.2 a.i c.load-at.result c.requires.3 c.load-at.ensures.word c.name_at.result c.name_at.ensures _ refl c.reference_word-target.result c.reference_word-target.ensures c.if-target-lt-SYM.true

pub find_symbol-requires : goal.find_symbol-requires
find_symbol-requires c = let a = c.args in (c.requires.0, c.requires.1, c.requires.2.0, first_is a.job.now a.p.now (store a.p.now a.w.now) c.requires.1 c.requires.2 a.i c.load-at.result c.requires.3 c.load-at.ensures.word c.name_at.result c.name_at.ensures _ refl c.reference_word-target.result c.reference_word-target.ensures, c.if-target-lt-SYM.false)

pub overflow_add-result : goal.overflow_add-result
overflow_add-result c = let a = c.args in let m = room a.job.now a.p.now c.requires.1 in omega (arith, c.in-Some.ensures.low, c.requires.2.1, m.names)

pub returns-in-None : goal.returns-in-None
returns-in-None c = let a = c.args in first_undefined a.job.now a.p.now (store a.p.now a.w.now) c.requires.1 c.requires.2 a.i c.load-at.result c.requires.3 c.load-at.ensures.word c.name_at.result c.name_at.ensures _ refl c.reference_word-target.result c.reference_word-target.ensures 0 c.in-None.ensures c.if-target-lt-SYM.false refl

pub returns-in-Some : goal.returns-in-Some
returns-in-Some c = let a = c.args in first_named a.job.now a.p.now (store a.p.now a.w.now) c.requires.1 c.requires.2 a.i c.load-at.result c.requires.3 c.load-at.ensures.word c.name_at.result c.name_at.ensures _ refl c.reference_word-target.result c.reference_word-target.ensures _ c.in-Some.ensures c.in-Some.next refl
