-- `store::save` meets its contract. Assumes nothing.
use Rattle.store.proofs.Stores.{in_words, put-store}
use native.Mathlib.Omega.{arith}
use borrow.Author.Rules.{rules}
use Rattle.store.proofs.save.Goals as goal

pub offset_bounds-p-k : goal.offset_bounds-p-k
offset_bounds-p-k c = let a = c.args in let h = in_words a.p.now _ a.k a.i c.requires.0 c.requires.1 in search rules

pub bounds-p-k : goal.bounds-p-k
bounds-p-k c = let a = c.args in let h = in_words a.p.now _ a.k a.i c.requires.0 c.requires.1 in omega arith

pub overflow_add-w : goal.overflow_add-w
overflow_add-w c = let a = c.args in let h = in_words a.p.now _ a.k a.i c.requires.0 c.requires.1 in search rules

pub offset_bounds-w-b : goal.offset_bounds-w-b
offset_bounds-w-b c = let a = c.args in let h = in_words a.p.now _ a.k a.i c.requires.0 c.requires.1 in search rules

pub bounds-w-b : goal.bounds-w-b
bounds-w-b c = let a = c.args in let h = in_words a.p.now _ a.k a.i c.requires.0 c.requires.1 in omega arith

pub returns : goal.returns
returns c = let a = c.args in put-store a.p.now a.w.now a.k a.i a.x c.requires.0 c.requires.1
