-- `sym_refs::goal_of` meets its contract. Assumes nothing.
use native.Mathlib.Omega.{arith}
use mathlib.Core.Path.{refl}
use Rattle.store.specs.Regions.{NAME-HEADS, NAME-LINKS, NAME-PLACES, NAME-GOALS}
use Rattle.store.specs.Store.{store, size}
use Rattle.sym_refs.specs.Names.{name_count}
use Rattle.sym_refs.proofs.Rooms.{room}
use Rattle.sym_refs.proofs.Ends.{goes_low, goes_none, goes_name}
use Rattle.sym_refs.proofs.goal_of.Goals as goal

pub returns-then-reference-lt-SYM : goal.returns-then-reference-lt-SYM
returns-then-reference-lt-SYM c = let a = c.args in (goes_low a.job.now a.reference c.requires.4 c.if-reference-lt-SYM.true, omega arith)

pub load-requires : goal.load-requires
load-requires c = let a = c.args in let m = room a.job.now a.p.now c.requires.1 in (c.requires.0, omega (arith, m.name_goals, c.requires.2.1, c.in-Some.ensures.low))

pub returns-in-None : goal.returns-in-None
returns-in-None c = let a = c.args in let t = store a.p.now a.w.now in let m = room a.job.now a.p.now c.requires.1 in
    (goes_none (size a.p.now NAME-HEADS) a.job.now (t NAME-PLACES) (t NAME-HEADS) (t NAME-LINKS) (name_count t) c.requires.2.1 c.requires.2.0 a.reference 0 c.in-None.ensures (omega (arith, m.both, m.entries)) c.if-reference-lt-SYM.false refl, omega arith)

pub returns-in-Some : goal.returns-in-Some
returns-in-Some c = let a = c.args in let t = store a.p.now a.w.now in
    (rw c.load.ensures.word (goes_name (size a.p.now NAME-HEADS) a.job.now (t NAME-PLACES) (t NAME-HEADS) (t NAME-LINKS) (name_count t) c.requires.2.1 c.requires.2.0 a.reference _ c.in-Some.ensures (t NAME-GOALS) c.requires.3 c.in-Some.i refl), c.load.ensures.small)
