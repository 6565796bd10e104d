-- `rows::inline_index` meets its contract. By the place of the item. Assumes nothing.
use native.Mathlib.Omega.{arith}
use mathlib.Core.Path.{sym, subst}
use Prim.Native.Nat.{ℕ}
use Rattle.std.specs.Prelude.{Option}
use Rattle.store.specs.Chains.{link_of}
use Rattle.store.specs.Regions.{INDEXES}
use Rattle.store.specs.Store.{store}
use Rattle.store.proofs.Stores.{length-store}
use Rattle.rows.specs.Rowed.{inline_count, inline_index, Nth}
use Rattle.rows.proofs.Ending.{inline_past, inline_boot, inline_low_lem, inline_there}
use Rattle.rows.proofs.Listing.{few_room}
use Rattle.rows.proofs.Reading.{some_link, counter}
use Rattle.rows.proofs.inline_index.Goals as goal

pub load-requires : goal.load-requires
load-requires c = let a = c.args in let q = c.requires in (q.0, counter a.p.now q.1 _ (omega arith))

pub returns-then-load-i : goal.returns-then-load-i
returns-then-load-i c = let a = c.args in let q = c.requires in inline_past a.p.now (store a.p.now a.w.now) q.3 a.i c.load.result c.load.ensures.word c.if-load-i.true

pub load-requires-2 : goal.load-requires-2
load-requires-2 c = let a = c.args in let q = c.requires in let t = store a.p.now a.w.now in (q.0, omega (arith, c.load.ensures.word, few_room (t INDEXES) (inline_count t) q.3.inlined.few, length-store a.p.now a.w.now INDEXES, q.1.inline))

pub index_of-requires : goal.index_of-requires
index_of-requires c = let a = c.args in let q = c.requires in (q.0, q.1, q.2, inline_boot a.p.now (store a.p.now a.w.now) q.3 a.i c.load.result c.load.ensures.word c.if-load-i.false c.load-2.result c.load-2.ensures.word)

pub returns : goal.returns
returns c = let a = c.args in let q = c.requires in let t = store a.p.now a.w.now in
    let word = link_of c.index_of.result in
    let low = inline_low_lem a.p.now t q.3 a.i c.load.result c.load.ensures.word c.if-load-i.false c.load-2.result c.load-2.ensures.word word c.index_of.ensures.0 in
    subst (λ (r : Option ℕ). Nth (inline_index a.p.now t) (inline_count t) a.i r) (sym (some_link c.index_of.result low))
    (inline_there a.p.now t q.3 a.i c.load.result c.load.ensures.word c.if-load-i.false c.load-2.result c.load-2.ensures.word word c.index_of.ensures.0)
