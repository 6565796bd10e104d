-- `sym_refs::resolve_names` meets its contract. The loop keeps that each name leads at least `span` steps, until that is past the number of names. Assumes nothing.
use native.Mathlib.Omega.{arith}
use Prim.Native.Nat.{ℕ, ◌+◌, ◌<◌}
use mathlib.Core.Path.{refl, ◌∙◌}
use Rattle.store.specs.Regions.{NAME-GOALS}
use Rattle.store.specs.Store.{size, store}
use Rattle.sym_refs.proofs.Rooms.{room}
use Rattle.sym_refs.proofs.Ends.{follow-end}
use Rattle.sym_refs.proofs.Rounds.{Following, follow-begin, follow-next, follow-all}
use borrow.Author.Rules.{rules}
use Rattle.sym_refs.proofs.resolve_names.Goals.{else-loop-span-test, then-loop-span-test+then-jump_names-eq0}
use Rattle.sym_refs.proofs.resolve_names.Goals as goal

pub loop-span-init : goal.loop-span-init
loop-span-init c = (refl, follow-begin _ _ _ _ c.start_names.ensures)

pub jump_names-requires : goal.jump_names-requires
jump_names-requires c = let a = c.args in let e = c.loop-span.invariant.0 in let d = c.start_names.auto.w in let m = room a.job.now a.p.now c.requires.1 in
    (search rules, omega (arith, m.name_goals, m.names), c.loop-span.invariant.1.inner)

pub overflow_add-span : goal.overflow_add-span
overflow_add-span c = let a = c.args in let m = room a.job.now a.p.now c.requires.1 in omega (arith, c.loop-span-test.true, c.size_of-n.ensures, m.name_goals, m.names)

pub loop-span-preserved : goal.loop-span-preserved
loop-span-preserved c = let l = c.loop-span in (c.jump_names.auto.w ∙ l.invariant.0, follow-next _ _ _ _ _ l.span c.jump_names.result l.invariant.1 c.jump_names.ensures)

pub returns : goal.returns
returns c = let a = c.args in let p = a.p.now in let l = c.loop-span in let m = room a.job.now p c.requires.1 in
    let far : (k : ℕ) × (size p NAME-GOALS < k) × Following a.job.now (store p c.start_names.new.w) (store p c.loop-span-test.w) (size p NAME-GOALS) k =
    elim c.loop-span-test.branch [
      | else-loop-span-test w ↦ (l.span, omega (arith, w.loop-span-test.false, c.size_of-n.ensures), rw w.w-is l.invariant.1)
      | then-loop-span-test+then-jump_names-eq0 w ↦ (size p NAME-GOALS + 1, omega arith, rw w.w-is (follow-all _ _ _ _ _ l.span w.jump_names.result l.invariant.1 w.jump_names.ensures w.if-jump_names-eq0.true))
    ] in
    follow-end _ _ _ _ _ (size p NAME-GOALS) far.0 m.name_goals c.start_names.ensures far.1 far.2 c.end_names.ensures
