-- `store::find_number` meets its contract. Assumes nothing.
use Rattle.store.proofs.Searching.{number-falls, number-start, number-on}
use mathlib.Core.Path.{◌∙◌}
use Rattle.store.specs.Store.{store}
use Rattle.store.proofs.Stores.{length-store}
use Rattle.store.proofs.find_number.Goals as goal

pub loop-i-init : goal.loop-i-init
loop-i-init c = let a = c.args in rw c.first_link-link.ensures (number-start a.p.now (store a.p.now a.w.now) a.heads a.keys a.n (length-store a.p.now a.w.now a.heads) c.requires.1.two)

pub loop-i-smaller : goal.loop-i-smaller
loop-i-smaller c = let a = c.args in let z = c.in-Some.ensures in let m = c.requires.3 in
    rw (c.load-link.ensures.word, z.1)
    (number-falls a.p.now (store a.p.now a.w.now) a.heads a.keys a.n c.loop-i.link z.0 c.loop-i.invariant (λ q. c.if-load-n.false (c.load.ensures.word ∙ rw z.1 q)) m.0 m.1)

pub loop-i-preserved : goal.loop-i-preserved
loop-i-preserved c = let a = c.args in let z = c.in-Some.ensures in
    rw (c.load-link.ensures.word, z.1)
    (number-on a.p.now (store a.p.now a.w.now) a.heads a.keys a.n c.loop-i.link z.0 c.loop-i.invariant (λ q. c.if-load-n.false (c.load.ensures.word ∙ rw z.1 q)))
