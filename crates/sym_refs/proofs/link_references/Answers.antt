-- `sym_refs::link_references` meets its contract. The loop links the references below i. Assumes nothing.
use native.Mathlib.Omega.{arith}
use mathlib.Core.Path.{refl, ◌∙◌}
use Rattle.store.specs.Regions.{COUNTS, NAME-HEADS, NAME-LINKS, NAME-PLACES, NAME-GOALS, GOALS}
use Rattle.store.specs.Store.{store, size}
use Rattle.store.proofs.Stores.{length-store}
use Rattle.sym_refs.proofs.Rooms.{room}
use Rattle.sym_refs.proofs.Ends.{link_next, link_end}
use borrow.Author.Rules.{rules}
use Rattle.sym_refs.proofs.link_references.Goals as goal

pub load-requires : goal.load-requires
load-requires c = let e = c.loop-i.invariant.0 in (search rules, omega (arith, c.size_of-n.ensures))

pub goal_of-goal-requires : goal.goal_of-goal-requires
goal_of-goal-requires c = let a = c.args in let l = c.loop-i in let k = l.invariant.1.kept in let e = l.invariant.0 in let m = room a.job.now a.p.now c.requires.1 in (
  search rules,
  c.requires.1,
  rw (k NAME-PLACES refl, k NAME-HEADS refl, k NAME-LINKS refl, k COUNTS refl) c.requires.2,
  rw (k NAME-GOALS refl) c.requires.3,
  rw (c.load.ensures.word, l.invariant.1.rest l.i (omega arith)) (c.requires.4 l.i (omega (arith, c.loop-i-test.true, c.size_of-n.ensures, m.goals))),
)

pub loop-i-preserved : goal.loop-i-preserved
loop-i-preserved c = let l = c.loop-i in let a = c.args in (
  c.save.auto.w ∙ l.invariant.0,
  rw c.save.ensures
      (link_next a.job.now (store a.p.now a.w.now) (store a.p.now l.w) (size a.p.now GOALS) l.i c.goal_of-goal.result l.invariant.1
      (omega (arith, c.loop-i-test.true, c.size_of-n.ensures))
      (omega (arith, length-store a.p.now l.w GOALS))
      (rw c.load.ensures.word at c.goal_of-goal.ensures.0)),
)

pub returns : goal.returns
returns c = let a = c.args in let m = room a.job.now a.p.now c.requires.1 in
    link_end _ _ _ (size a.p.now GOALS) c.loop-i.i m.goals (omega (arith, c.loop-i-test.false, c.size_of-n.ensures)) c.loop-i.invariant.1
