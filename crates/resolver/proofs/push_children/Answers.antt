-- `resolver::push_children` meets its contract: the goals behind lie on the stack, from the top down. Assumes nothing.
use mathlib.Core.Path.{◌∙◌}
use Prim.Native.Nat.{◌+◌, ◌<◌}
use native.Mathlib.Omega.{arith}
use lib.ListN.{length}
use Rattle.store.specs.Regions.{STACK}
use Rattle.store.specs.Store.{size}
use Rattle.store.proofs.Stores.{length-store, in_words}
use Rattle.resolver.proofs.Children.{pushing_next, pushing_end}
use Rattle.resolver.proofs.push_children.Goals as goal

pub overflow_add-n : goal.overflow_add-n
overflow_add-n c = let a = c.args in let q = c.requires.2 in let e = c.load-count.ensures.word in let l : a.n + c.load-count.result < size a.p.now STACK = omega arith in omega (arith, (in_words a.p.now (length a.w.now) STACK (a.n + c.load-count.result) c.requires.0 l).1)

pub loop-i-preserved : goal.loop-i-preserved
loop-i-preserved c = (c.save.auto.w ∙ c.loop-i.invariant.0, rw c.save.ensures (pushing_next _ _ c.args.e _ _ _ _ c.loop-i.invariant.1 c.loop-i-test.true (omega (arith, c.requires.2, c.load-count.ensures.word, length-store c.args.p.now c.loop-i.w STACK)) c.load-goal.result c.load-goal.ensures.word))

pub overflow_add-result : goal.overflow_add-result
overflow_add-result c = let a = c.args in let q = c.requires.2 in let e = c.load-count.ensures.word in let l : a.n + c.load-count.result < size a.p.now STACK = omega arith in omega (arith, (in_words a.p.now (length a.w.now) STACK (a.n + c.load-count.result) c.requires.0 l).1)

pub overflow_add-result-2 : goal.overflow_add-result-2
overflow_add-result-2 c = let a = c.args in let q = c.requires.2 in let e = c.load-count.ensures.word in let l : a.n + c.load-count.result < size a.p.now STACK = omega arith in omega (arith, (in_words a.p.now (length a.w.now) STACK (a.n + c.load-count.result) c.requires.0 l).1)

pub returns : goal.returns
returns c = rw c.save-2.ensures (pushing_end _ _ c.args.e _ _ _ _ c.loop-i.invariant.1 (omega arith) (omega (arith, c.requires.2, length-store c.args.p.now c.loop-i.w STACK)) c.load-first.ensures.word c.load-count.ensures.word)
