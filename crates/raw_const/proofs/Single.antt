-- No second result fits a contract of this crate. Assumes nothing.
use mathlib.Core.Path.{◌≡◌, refl, sym, ap, ◌∙◌}
use mathlib.Core.List.{List}
use Prim.Native.Nat.{ℕ}
use Rattle.std.specs.Prelude as code
use lib.ListN.{replicate, length-replicate}
use Rattle.definition.specs.Basics.{lookup}
use Rattle.definition.specs.Shapes.{shapes}
use Rattle.raw_const.specs.Entries.{fields_of, listed, entry_of, Wrote, EntryTakes, RowTakes, ReadAt}
use Rattle.raw_const.specs.declared.Shape.{Shape}
use Rattle.raw_const.specs.declared.Extent.{Extent}
use Rattle.raw_const.proofs.Shaped.{shape_for, shape_back}

pub one-shape : (tag : ℕ) (r r' : code.Option Shape) → fields_of r ≡ lookup tag shapes → fields_of r' ≡ lookup tag shapes → r ≡ r'
one-shape tag r r' h h' = sym (shape_back r) ∙ ap (λ o. shape_for (listed o)) (h ∙ sym h') ∙ shape_back r'

pub one-entry_length : (tag n r r' : ℕ) → EntryTakes tag n r → EntryTakes tag n r' → r ≡ r'
unfolding entry_of
one-entry_length tag n r r' h h' =
    let e = entry_of tag 0 (replicate n 0) 0 0 in
    h e refl (length-replicate n 0) ∙ sym (h' e refl (length-replicate n 0))

pub one-row_length : (count r r' : ℕ) → RowTakes count r → RowTakes count r' → r ≡ r'
one-row_length count r r' h h' =
    let row : List ℕ = replicate count 0 in
    h row (length-replicate count 0) ∙ sym (h' row (length-replicate count 0))

pub one-write :
    {before bytes after after' : List ℕ} {at r r' : ℕ} →
    Wrote before at bytes after r → Wrote before at bytes after' r' → (after ≡ after') × (r ≡ r')
one-write h h' = (h.out ∙ sym h'.out, h.next ∙ sym h'.next)

pub one-extent : {pool : List ℕ} {at : ℕ} {r r' : code.Option Extent} → ReadAt pool at r → ReadAt pool at r' → r ≡ r'
one-extent h h' = h.answer ∙ sym h'.answer
