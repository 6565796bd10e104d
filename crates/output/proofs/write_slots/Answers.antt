-- `output::write_slots` meets its contract: the loop has written the slots before i. Assumes nothing.
use mathlib.Core.Path.{◌≡◌, ap, subst, ◌∙◌}
use Prim.Native.Nat.{◌+◌, ◌*◌}
use native.Mathlib.Omega.{arith}
use lib.ListN.{length}
use Rattle.store.specs.Regions.{GIVEN, CHILDREN}
use Rattle.store.specs.Store.{store}
use Rattle.store.specs.Words.{child_slot}
use Rattle.store.proofs.Stores.{in_words}
use Rattle.raw_const.specs.Entries.{Wrote}
use Rattle.output.specs.Rows.{slots_from}
use Rattle.output.proofs.Rowing.{shorts, slots-none, slots-more}
use Rattle.output.proofs.write_slots.Goals as goal

pub loop-i-init : goal.loop-i-init
loop-i-init c = let a = c.args in let t = store a.p.now a.w.now in let e : a.start ≡ a.start + 0 = omega arith in subst (λ m. Wrote a.out.now a.start (shorts (slots_from (t GIVEN) (t CHILDREN) a.first 0)) a.out.now m) e (slots-none (t GIVEN) (t CHILDREN) a.first a.out.now a.start)

pub overflow_add-first : goal.overflow_add-first
overflow_add-first c = let a = c.args in omega (arith, (in_words a.p.now (length a.w.now) CHILDREN (a.first + c.loop-i.i) c.requires.0 (omega (arith, c.requires.1, c.loop-i-test.true))).1)

pub loop-i-preserved : goal.loop-i-preserved
loop-i-preserved c = let a = c.args in let l = c.loop-i in let t = store a.p.now a.w.now in let e : a.start + 2 * l.i + 2 ≡ a.start + 2 * (l.i + 1) = omega arith in subst (λ m. Wrote a.out.now a.start (shorts (slots_from (t GIVEN) (t CHILDREN) a.first (l.i + 1))) c.put.new.d m) e (slots-more (t GIVEN) (t CHILDREN) a.first l.i c.child_slot-slot.result (omega (arith, c.requires.3, c.loop-i-test.true)) (c.child_slot-slot.ensures.0 ∙ ap (child_slot (t GIVEN)) c.load.ensures.word) l.invariant c.put.ensures)
