-- `resolver::enter` meets its contract: by the entry's mark. Assumes nothing.
use mathlib.Core.Path.{refl}
use native.Mathlib.Omega.{arith}
use Rattle.resolver.proofs.Children.{enters_done, enters_fresh, places_marked}
use Rattle.resolver.proofs.enter.Goals as goal

pub shape_of-w-then-mark-gt-UNDERWAY : goal.shape_of-w-then-mark-gt-UNDERWAY
shape_of-w-then-mark-gt-UNDERWAY c = refl

pub returns-then-mark-gt-UNDERWAY : goal.returns-then-mark-gt-UNDERWAY
returns-then-mark-gt-UNDERWAY c = enters_done _ _ _ (omega (arith, c.if-mark-gt-UNDERWAY.true, c.load-mark.ensures.word))

pub push_children-requires : goal.push_children-requires
push_children-requires c = let z = c.requires.2 (omega (arith, c.if-mark-eq-UNDERWAY.false, c.if-mark-gt-UNDERWAY.false, c.load-mark.ensures.word)) in ((c.requires.0.0, omega (arith, c.save.auto.w, c.requires.0.1)), rw c.save.ensures (places_marked _ _ _ _ _ c.requires.1), rw c.save.ensures z, c.requires.3)

pub returns : goal.returns
returns c = enters_fresh _ _ _ _ _ (omega (arith, c.if-mark-eq-UNDERWAY.false, c.if-mark-gt-UNDERWAY.false, c.load-mark.ensures.word)) (rw c.save.ensures at c.push_children.ensures)
