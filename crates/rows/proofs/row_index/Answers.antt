-- `rows::row_index` meets its contract. A row that is the same shares its index, and another takes one. Assumes nothing.
use native.Mathlib.Omega.{arith}
use Rattle.store.specs.Regions.{INDEXES}
use Rattle.refusal.specs.Numbers.{code_of}
use Rattle.store.specs.Store.{store}
use Rattle.store.proofs.Stores.{length-store}
use Rattle.rows.specs.Rowed.{inline_count}
use Rattle.rows.proofs.Indexing.{new_row, index-made, old_there, old_boot, index-old}
use Rattle.rows.proofs.Listing.{few_room}
use borrow.Author.Rules.{rules}
use Prim.Native.Nat.{ℕ, ◌+◌, ◌-◌}
use mathlib.Core.List.{List}
use mathlib.Core.Path.{◌≡◌, refl}
use lib.ListN.{get_or}
use Rattle.rows.proofs.row_index.Goals as goal

-- the item behind a link is the one that was found
same_item : (i : ℕ) (l : List ℕ) (x : ℕ) → x ≡ get_or l i 0 → x ≡ get_or l (i + 1 - 1) 0
same_item i l x e = let back : i + 1 - 1 ≡ i = omega arith in rw back e

pub take_index-requires : goal.take_index-requires
take_index-requires c = let a = c.args in let q = c.requires in (search rules, q.1, q.2, q.3, q.4, q.5, new_row a.p.now a.k (store a.p.now a.w.now) 0 c.in-None.ensures refl, c.hash_row-hash.ensures.0, c.hash_row-hash.ensures.1)

pub returns-in-None : goal.returns-in-None
returns-in-None c = let a = c.args in let q = c.requires in let t = store a.p.now a.w.now in index-made a.p.now a.k t (new_row a.p.now a.k t 0 c.in-None.ensures refl) (store a.p.now c.take_index.new.w) (code_of c.take_index.result) c.take_index.ensures

pub load-requires : goal.load-requires
load-requires c = let a = c.args in let q = c.requires in let t = store a.p.now a.w.now in (search rules, omega (arith, old_there a.p.now a.k t q.4 q.5 _ c.in-Some.ensures (λ z. omega arith), few_room (t INDEXES) (inline_count t) q.4.inlined.few, length-store a.p.now a.w.now INDEXES, q.1.inline))

pub index_word-shared-requires : goal.index_word-shared-requires
index_word-shared-requires c = let a = c.args in let q = c.requires in let t = store a.p.now a.w.now in (search rules, q.1, q.2, old_boot a.p.now a.k t q.4 q.5 _ c.in-Some.ensures (λ z. omega arith) c.load.result (same_item c.in-Some.i _ c.load.result c.load.ensures.word))

pub returns-in-Some : goal.returns-in-Some
unfolding code_of
returns-in-Some c = let a = c.args in let q = c.requires in let t = store a.p.now a.w.now in rw c.set_index.ensures (index-old a.p.now a.k t q.4 q.5 _ c.in-Some.ensures (λ z. omega arith) c.load.result c.index_word-shared.result (same_item c.in-Some.i _ c.load.result c.load.ensures.word) c.index_word-shared.ensures.0)
