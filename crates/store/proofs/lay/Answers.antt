-- `store::lay` meets its contract. The loop keeps: the places up to k are laid out. Assumes nothing.
use native.Mathlib.Omega.{arith}
use Rattle.store.proofs.Placing.{lay_begin, lay_fits, lay_next, lay_end}
use Rattle.store.proofs.lay.Goals as goal

pub loop-k-init : goal.loop-k-init
loop-k-init c = lay_begin c.args.p.now c.args.sizes.now c.requires.0

pub overflow_add-p : goal.overflow_add-p
overflow_add-p c = let l = c.loop-k in omega (arith, lay_fits l.p c.args.sizes.now l.k c.requires.1 l.invariant (omega arith), c.requires.2)

pub loop-k-preserved : goal.loop-k-preserved
loop-k-preserved c = let l = c.loop-k in lay_next l.p c.args.sizes.now l.k c.requires.1 l.invariant (omega arith)

pub returns : goal.returns
returns c = let l = c.loop-k in lay_end l.p c.args.sizes.now l.k c.requires.1 l.invariant (omega arith)
