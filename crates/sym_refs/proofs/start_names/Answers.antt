-- `sym_refs::start_names` meets its contract. The loop keeps that the names below i lead where they do in a step. Assumes nothing.
use native.Mathlib.Omega.{arith}
use mathlib.Core.Path.{refl, ◌∙◌}
use Rattle.store.specs.Regions.{COUNTS, NAME-HEADS, NAME-LINKS, NAME-PLACES, NAME-GOALS}
use Rattle.store.specs.Store.{store, size}
use Rattle.store.proofs.Stores.{length-store}
use Rattle.sym_refs.proofs.Rooms.{room}
use Rattle.sym_refs.proofs.Rounds.{start_next, start_end}
use borrow.Author.Rules.{rules}
use Rattle.sym_refs.proofs.start_names.Goals as goal

pub first_goal-goal-requires : goal.first_goal-goal-requires
first_goal-goal-requires c = let l = c.loop-i in let k = l.invariant.1.kept in let e = l.invariant.0 in
    (search rules, c.requires.1, rw (k NAME-PLACES refl, k NAME-HEADS refl, k NAME-LINKS refl, k COUNTS refl) c.requires.2, omega (arith, c.loop-i-test.true, c.size_of-n.ensures))

pub save-requires : goal.save-requires
save-requires c = let a = c.args in let e = c.loop-i.invariant.0 in let m = room a.job.now a.p.now c.requires.1 in
    (search rules, omega (arith, c.size_of-n.ensures), omega (arith, c.first_goal-goal.ensures.low, m.name_goals, m.names))

pub loop-i-preserved : goal.loop-i-preserved
loop-i-preserved c = let l = c.loop-i in let a = c.args in (
  c.save.auto.w ∙ l.invariant.0,
  rw c.save.ensures
      (start_next a.job.now (store a.p.now a.w.now) (store a.p.now l.w) (size a.p.now NAME-GOALS) l.i c.first_goal-goal.result l.invariant.1
      (omega (arith, c.loop-i-test.true, c.size_of-n.ensures))
      (omega (arith, length-store a.p.now l.w NAME-GOALS))
      c.first_goal-goal.ensures),
)

pub returns : goal.returns
returns c = start_end _ _ _ _ c.loop-i.i (omega (arith, c.loop-i-test.false, c.size_of-n.ensures)) c.loop-i.invariant.1
