-- `sym_refs::end_names` meets its contract. The loop ends the words below i. Assumes nothing.
use native.Mathlib.Omega.{arith}
use mathlib.Core.Path.{◌∙◌}
use Rattle.store.specs.Regions.{NAME-GOALS}
use Rattle.store.specs.Store.{store, size}
use Rattle.store.proofs.Stores.{length-store}
use Rattle.sym_refs.proofs.Rounds.{finish-next, finish-end}
use borrow.Author.Rules.{rules}
use Rattle.sym_refs.proofs.end_names.Goals as goal

pub load-requires : goal.load-requires
load-requires c = let e = c.loop-i.invariant.0 in (search rules, omega (arith, c.size_of-n.ensures))

pub loop-i-preserved : goal.loop-i-preserved
loop-i-preserved c = let l = c.loop-i in let a = c.args in (
  c.save.auto.w ∙ l.invariant.0,
  rw c.save.ensures
      (finish-next (store a.p.now a.w.now) (store a.p.now l.w) (size a.p.now NAME-GOALS) l.i c.ended-goal.result c.load.result l.invariant.1
      (omega (arith, c.loop-i-test.true, c.size_of-n.ensures))
      (omega (arith, length-store a.p.now l.w NAME-GOALS))
      c.load.ensures.word
      c.ended-goal.ensures.0),
)

pub returns : goal.returns
returns c = finish-end _ _ _ c.loop-i.i (omega (arith, c.loop-i-test.false, c.size_of-n.ensures)) c.loop-i.invariant.1
