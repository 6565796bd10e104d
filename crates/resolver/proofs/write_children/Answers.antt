-- `resolver::write_children` meets its contract: the children behind are written, and the other places are as they were. Assumes nothing.
use mathlib.Core.Path.{◌∙◌}
use native.Mathlib.Omega.{arith}
use Rattle.store.specs.Regions.{CHILDREN}
use Rattle.store.proofs.Stores.{length-store}
use Rattle.resolver.proofs.Children.{writing_next, child_ready, child_fits}
use Rattle.resolver.proofs.write_children.Goals as goal

pub child_of-child-requires : goal.child_of-child-requires
child_of-child-requires c = ((c.requires.0.0, omega (arith, c.loop-i.invariant.0, c.requires.0.1)), child_ready _ _ c.args.e _ _ _ c.loop-i.invariant.1 c.load-first.ensures.word (omega (arith, c.load-first.ensures.word, c.load.ensures.word)) c.requires.2 c.loop-i-test.true _ c.load-in-loop-i.ensures.word)

pub save-requires : goal.save-requires
save-requires c = ((c.requires.0.0, omega (arith, c.loop-i.invariant.0, c.requires.0.1)), omega (arith, c.requires.1.children, c.load-first.ensures.word, c.load.ensures.word), child_fits _ _ c.args.e _ _ _ c.loop-i.invariant.1 c.load-first.ensures.word (omega (arith, c.load-first.ensures.word, c.load.ensures.word)) c.requires.2 c.loop-i-test.true c.load-in-loop-i.result _ c.load-in-loop-i.ensures.word c.child_of-child.ensures)

pub loop-i-preserved : goal.loop-i-preserved
loop-i-preserved c = (c.save.auto.w ∙ c.loop-i.invariant.0, rw c.save.ensures (writing_next _ _ c.args.e _ _ _ c.loop-i.invariant.1 _ c.loop-i-test.true (omega (arith, c.requires.1.children, c.load-first.ensures.word, c.load.ensures.word, length-store c.args.p.now c.loop-i.w CHILDREN, c.loop-i-test.true)) c.load-in-loop-i.result c.load-in-loop-i.ensures.word c.child_of-child.ensures))
