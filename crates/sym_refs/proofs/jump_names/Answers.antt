-- `sym_refs::jump_names` meets its contract. The loop keeps that each name leads at least its span, and twice the span below i. Assumes nothing.
use native.Mathlib.Omega.{arith}
use mathlib.Core.Path.{refl, ◌∙◌}
use mathlib.Core.List.{[], ◌∷◌}
use Rattle.store.specs.Regions.{NAME-GOALS}
use Rattle.store.specs.Store.{store, size}
use Rattle.store.proofs.Keeping.{kept_put}
use Rattle.store.proofs.Stores.{length-store}
use Rattle.sym_refs.proofs.Jumping.{turn_to, inner_hop}
use Rattle.sym_refs.proofs.Rounds.{round-end}
use borrow.Author.Rules.{rules}
use Rattle.sym_refs.proofs.jump_names.Goals as goal

pub load-requires : goal.load-requires
load-requires c = let e = c.loop-i.invariant.0 in (search rules, omega (arith, c.size_of-n.ensures))

pub save-requires : goal.save-requires
save-requires c = let l = c.loop-i in let e = l.invariant.0 in let a = c.args in
    (search rules, omega (arith, c.size_of-n.ensures), rw (c.hop-goal.ensures, c.load.ensures.word) (omega (arith, c.requires.1, inner_hop (size a.p.now NAME-GOALS) l.i (store a.p.now l.w NAME-GOALS) l.invariant.1.inner (omega (arith, c.loop-i-test.true, c.size_of-n.ensures)))))

pub loop-i-preserved : goal.loop-i-preserved
loop-i-preserved c = let l = c.loop-i in let a = c.args in let p = a.p.now in let t = store p a.w.now in let u = store p l.w in (
  c.save.auto.w ∙ l.invariant.0,
  rw c.save.ensures
      (turn_to (size p NAME-GOALS) (t NAME-GOALS) (u NAME-GOALS) l.i l.left l.invariant.1
      (omega (arith, c.loop-i-test.true, c.size_of-n.ensures))
      (omega (arith, length-store p l.w NAME-GOALS))
      c.load.result
      c.hop-goal.result
      c.on_name-left.result
      c.load.ensures.word
      c.hop-goal.ensures
      c.on_name-left.ensures.0),
  rw c.save.ensures (kept_put (NAME-GOALS ∷ []) t u NAME-GOALS l.i c.hop-goal.result refl l.invariant.2),
)

pub returns : goal.returns
returns c = round-end _ _ _ c.loop-i.i c.loop-i.left (omega (arith, c.loop-i-test.false, c.size_of-n.ensures)) c.loop-i.invariant.1 c.loop-i.invariant.2
