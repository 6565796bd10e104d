-- What building makes of a formed entry fits the entry's shape: a constant with numbers for its references, and a bootstrap's row.
-- Assumes nothing.
use mathlib.Core.List.{List, []}
use mathlib.Core.Logic.{inl, inr}
use mathlib.Core.Option.{none, some}
use mathlib.Core.Path.{◌≡◌, refl, sym, subst}
use Prim.Native.Nat.{ℕ}
use lib.Dec.{ltb}
use lib.ListN.{length}
use borrow.Author.Tests.{ltb-true}
use Rattle.definition.specs.Basics.{every, lookup}
use Rattle.definition.specs.Ascii.{ascii}
use Rattle.definition.specs.Shapes.{Field, shapes, bootstrap_shape, bootstrap_tag, Entry}
use Rattle.definition.specs.Job.{Reference}
use Rattle.definition.specs.Numbering.{attribute_name}
use Rattle.definition.specs.Building.{Row}
use Rattle.facts.proofs.Lists.{clash, every-at}
use Rattle.facts.proofs.Each.{Each, each_from}
use Rattle.laws.proofs.Form.EntryShapes.{Short, HasShape}
use Rattle.laws.proofs.Form.ParsersYield.{Byte}
use Rattle.laws.proofs.Form.FormedEntries.{ShapeOf, FormedEntry}
use Rattle.laws.proofs.Reading.EntriesReadBack.{IsFor, is_for_like}
use Rattle.laws.proofs.Reading.PoolReadBack.{row_shown, Fits}

-- a bootstrap's tag isn't in the table of shapes
not_in_table : lookup bootstrap_tag shapes ≡ none
unfolding lookup shapes
not_in_table = refl

-- the shape of a constant is the table's
constant_shape : (tag : ℕ) (fields : List Field) → ShapeOf tag fields → (tag ≡ bootstrap_tag → ⊥) → lookup tag shapes ≡ some fields
constant_shape tag fields (inl known) other = known
constant_shape tag fields (inr known) other = absurd (other known.0)

-- and that of a bootstrap is the bootstraps'
row_shape : (tag : ℕ) (fields : List Field) → ShapeOf tag fields → tag ≡ bootstrap_tag → fields ≡ bootstrap_shape
row_shape tag fields (inl known) is =
    clash (cc not_in_table)
row_shape tag fields (inr known) is = known.1

-- a formed constant, with numbers of two bytes for its references
pub fits-formed :
    (x : Entry (List ℕ) Reference) (e : Entry (List ℕ) ℕ) →
    FormedEntry x →
    (x.tag ≡ bootstrap_tag → ⊥) →
    e.tag ≡ x.tag →
    e.literal ≡ x.literal →
    e.byte ≡ x.byte →
    length e.kids ≡ length x.kids →
    Each Short e.kids →
    Fits e
fits-formed x e h other t l b n k =
    record {
      fields = h.fields;
      known = rw t (constant_shape x.tag h.fields h.shape_of other);
      is_for = is_for_like h.fields x e h.shape l b n k;
      literal_bytes = rw l h.literal_bytes;
      kind_byte = rw b h.kind_byte;
    }

-- a formed bootstrap's row, likewise
pub is_for_formed :
    (x : Entry (List ℕ) Reference) (row : Row) →
    FormedEntry x →
    x.tag ≡ bootstrap_tag →
    length row ≡ length x.kids →
    Each Short row →
    IsFor bootstrap_shape (row_shown row)
unfolding bootstrap_shape
is_for_formed x row h is n k =
    let shape = subst (λ fields. HasShape fields x) (row_shape x.tag h.fields h.shape_of is) h.shape in
    is_for_like bootstrap_shape x (row_shown row) shape (sym (shape.no_literal refl)) (sym (shape.no_byte_lem refl)) n k

-- a formed bootstrap has no literal and no kind byte
pub row_plain : (x : Entry (List ℕ) Reference) → FormedEntry x → x.tag ≡ bootstrap_tag → (x.literal ≡ []) × (x.byte ≡ 0)
unfolding bootstrap_shape
row_plain x h is =
    let shape = subst (λ fields. HasShape fields x) (row_shape x.tag h.fields h.shape_of is) h.shape in
    (shape.no_literal refl, shape.no_byte_lem refl)

-- "BootstrapMethods" is bytes
pub attribute-bytes : Each Byte attribute_name
unfolding every attribute_name ascii
attribute-bytes = each_from Byte attribute_name (λ i b e. ltb-true b 256 (every-at (λ b. ltb b 256) attribute_name refl i b e))
