-- `store::size_of` meets its contract. Assumes nothing.
use Rattle.store.proofs.Stores.{in_places, size_is}
use mathlib.Core.Path.{sym}
use native.Mathlib.Omega.{arith}
use borrow.Author.Rules.{rules}
use Rattle.store.proofs.size_of.Goals as goal

pub bounds-p-k : goal.bounds-p-k
bounds-p-k c = let h = in_places c.args.p.now c.args.k c.requires.0 c.requires.1 in omega arith

pub bounds-p-k-2 : goal.bounds-p-k-2
bounds-p-k-2 c = let h = in_places c.args.p.now c.args.k c.requires.0 c.requires.1 in omega arith

pub overflow_sub-result : goal.overflow_sub-result
overflow_sub-result c = let h = in_places c.args.p.now c.args.k c.requires.0 c.requires.1 in search rules

pub returns : goal.returns
returns c = sym (size_is c.args.p.now c.args.k)
