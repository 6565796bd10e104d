-- `store::start` meets its contract. Assumes nothing.
use native.Mathlib.Omega.{arith}
use Rattle.store.proofs.Starting.{lay_asks, zeros-fit, zeros-are, started}
use Rattle.store.proofs.start.Goals as goal

pub lay-requires : goal.lay-requires
lay-requires c = let a = lay_asks c.args.c c.args.n c.sizes_for-sizes.result c.sizes_for-sizes.ensures c.requires.0 c.requires.3 in (c.requires.1, a.0, a.1)

pub slice_bounds-clear_words-end : goal.slice_bounds-clear_words-end
slice_bounds-clear_words-end c = zeros-fit c.args.c c.args.n c.sizes_for-sizes.result c.lay.new.p c.sizes_for-sizes.ensures c.lay.ensures c.args.w.now c.requires.2 _ (omega arith)

pub slice_bounds-clear_words-end-2 : goal.slice_bounds-clear_words-end-2
slice_bounds-clear_words-end-2 c = zeros-are c.args.c c.args.n c.sizes_for-sizes.result c.lay.new.p c.sizes_for-sizes.ensures c.lay.ensures c.args.w.now c.requires.2 _ (omega arith)

pub returns : goal.returns
returns c = started c.args.c c.args.n c.sizes_for-sizes.result c.lay.new.p c.sizes_for-sizes.ensures c.lay.ensures c.args.w.now c.requires.2 _ (omega arith) c.clear_words.new.w c.clear_words.ensures (omega arith)
