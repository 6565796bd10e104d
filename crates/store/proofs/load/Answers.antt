-- `store::load` meets its contract. Assumes nothing.
use Rattle.store.proofs.Stores.{in_words, at_store}
use mathlib.Core.Path.{sym}
use native.Mathlib.Omega.{arith}
use lib.ListN.{get_or}
use Prim.Native.Nat.{◌+◌}
use borrow.Author.Rules.{rules}
use Rattle.store.proofs.load.Goals as goal

pub offset_bounds-p-k : goal.offset_bounds-p-k
offset_bounds-p-k c = let a = c.args in let h = in_words a.p.now _ a.k a.i c.requires.0 c.requires.1 in search rules

pub bounds-p-k : goal.bounds-p-k
bounds-p-k c = let a = c.args in let h = in_words a.p.now _ a.k a.i c.requires.0 c.requires.1 in omega arith

pub overflow_add-result : goal.overflow_add-result
overflow_add-result c = let a = c.args in let h = in_words a.p.now _ a.k a.i c.requires.0 c.requires.1 in search rules

pub offset_bounds-w-b : goal.offset_bounds-w-b
offset_bounds-w-b c = let a = c.args in let h = in_words a.p.now _ a.k a.i c.requires.0 c.requires.1 in search rules

pub bounds-w-b : goal.bounds-w-b
bounds-w-b c = let a = c.args in let h = in_words a.p.now _ a.k a.i c.requires.0 c.requires.1 in omega arith

pub returns : goal.returns
returns c = let a = c.args in record { word = sym (at_store a.p.now a.w.now a.k a.i c.requires.1); small = omega (arith, c.type_inv.w (get_or a.p.now a.k 0 + a.i)) }
