-- The code's shapes beside the definition's table, entries from their parts, and what the writers and the reader say. Assumes nothing.
use Rattle.std.specs.Prelude.{◌≡◌, true, false, ℕ, suc, ◌+◌, ◌-◌, ◌<◌, eqb, length, take, drop}
use mathlib.Core.List.{List, [], ◌∷◌, ◌++◌, tail}
use Rattle.std.proofs.Math.Option.{Option, none, some}
use Rattle.std.specs.Prelude as code
use Rattle.std.specs.Prelude.{None, Some}
use Rattle.std.proofs.Math.Seq.{paste}
use Rattle.definition.specs.Basics.{lookup}
use Rattle.definition.specs.Bytes.{be2}
use Rattle.definition.specs.Shapes.{constant, bootstrap, Field, text, bits, byte, to, to_many, shapes, Entry}
use Rattle.definition.specs.Run.{entry_bytes, row_bytes}
use Rattle.definition.specs.Jvms.{cp_info}
use Rattle.raw_const.specs.declared.Field.{Field as Part}
use Rattle.raw_const.specs.declared.Field.TheVariants.{Text as TextPart, Bits as BitsPart, Kind as KindPart, Index as IndexPart, Bootstrap as BootstrapPart}
use Rattle.raw_const.specs.declared.Shape.{Shape}
use Rattle.raw_const.specs.declared.Shape.TheVariants.{Text, Bits, One, Two, Dynamic, KindOne}
use Rattle.raw_const.specs.declared.Extent.{Extent}

-- a field in the code's table, and the row that a tag has there by its fields: none for a tag that isn't there
abbrev pub code_of : Field → code.Option Part
code_of text = Some TextPart
code_of (bits size) = Some (BitsPart size)
code_of byte = Some KindPart
code_of (to constant) = Some IndexPart
code_of (to bootstrap) = Some BootstrapPart
code_of to_many = None

abbrev pub code_at : List Field → code.Option Part
code_at [] = None
code_at (field ∷ fields) = code_of field

abbrev pub row_of : Option (List Field) → code.Option (Part × code.Option Part)
row_of none = None
row_of (some fields) = elim (code_at fields) [ None ↦ None | Some first ↦ Some (first, code_at (tail fields)) ]

-- the bytes of a field, by the literal, the kind byte and the reference that are to stand in it
abbrev pub field_bytes : Part → ℕ → List ℕ → ℕ → List ℕ
field_bytes TextPart kind literal index = be2 (length literal) ++ literal
field_bytes (BitsPart size) kind literal index = literal
field_bytes KindPart kind literal index = kind ∷ []
field_bytes IndexPart kind literal index = be2 index
field_bytes BootstrapPart kind literal index = be2 index

-- the reference behind the first field: behind a kind byte it is the first one
abbrev pub second_index : Part → ℕ → ℕ → ℕ
second_index KindPart first second = first
second_index TextPart first second = second
second_index (BitsPart size) first second = second
second_index IndexPart first second = second
second_index BootstrapPart first second = second

-- the fields that a shape stands for
abbrev pub shape_fields : Shape → List Field
shape_fields Text = text ∷ []
shape_fields (Bits size) = bits size ∷ []
shape_fields One = to constant ∷ []
shape_fields Two = to constant ∷ to constant ∷ []
shape_fields Dynamic = to bootstrap ∷ to constant ∷ []
shape_fields KindOne = byte ∷ to constant ∷ []

-- those of a tag's shape, none where there is no such tag
abbrev pub fields_of : code.Option Shape → Option (List Field)
fields_of None = none
fields_of (Some shape) = some (shape_fields shape)

-- fields that may not be there
abbrev pub listed : Option (List Field) → List Field
listed none = []
listed (some fields) = fields

-- how many references fields have
abbrev pub references : List Field → ℕ
references [] = 0
references (text ∷ fields) = references fields
references (bits size ∷ fields) = references fields
references (byte ∷ fields) = references fields
references (to kind ∷ fields) = suc (references fields)
references (to_many ∷ fields) = references fields

-- an entry from its parts, with as many of the two references as its shape has
unfoldable pub entry_of : ℕ → ℕ → List ℕ → ℕ → ℕ → Entry (List ℕ) ℕ
entry_of tag kind literal first second =
    record {
      tag = tag;
      literal = literal;
      byte = kind;
      kids = take (references (listed (lookup tag shapes))) (first ∷ second ∷ []);
    }

-- a literal of n bytes is one for these fields: two bytes hold a text's length, and a number has its size
pub record LiteralFits (fields : Option (List Field)) (n : ℕ) : Type 0 where
  pub as_text : fields ≡ some (text ∷ []) → n < 65536
  pub as_bits : (size : ℕ) → fields ≡ some (bits size ∷ []) → n ≡ size

-- bytes were written at a place and nothing else was changed; r is the place behind them
pub record Wrote (before : List ℕ) (at : ℕ) (bytes after : List ℕ) (r : ℕ) : Type 0 where
  pub out : after ≡ paste before at bytes (length bytes)
  pub next : r ≡ at + length bytes

-- r is how many bytes every entry of a tag with a literal of n bytes takes, and every bootstrap row of so many numbers
abbrev pub EntryTakes : ℕ → ℕ → ℕ → Type 0
EntryTakes tag n r = (e : Entry (List ℕ) ℕ) → e.tag ≡ tag → length e.literal ≡ n → r ≡ length (entry_bytes e)

abbrev pub RowTakes : ℕ → ℕ → Type 0
RowTakes count r = (row : List ℕ) → length row ≡ count → r ≡ length (row_bytes row)

-- how many bytes an entry of a shape takes with a literal of n bytes
abbrev pub length_of : Shape → ℕ → ℕ
length_of Text n = 3 + n
length_of (Bits size) n = 1 + size
length_of One n = 3
length_of Two n = 5
length_of Dynamic n = 5
length_of KindOne n = 4

-- the number that was read, and 0 where there was none
abbrev pub short_read : Option (ℕ × List ℕ) → code.Option ℕ
short_read none = None
short_read (some r) = Some r.0

abbrev pub number_read : Option (ℕ × List ℕ) → ℕ
number_read none = 0
number_read (some r) = r.0

-- what a reader of the last bytes of `size` found: an entry's tag and the place behind it
abbrev pub extent_of : ℕ → Option (Entry (List ℕ) ℕ × List ℕ) → code.Option Extent
extent_of size none = None
extent_of size (some r) = Some (record { tag = r.0.tag; next = size - length r.1 })

-- a reader's tag and the bytes that it left, and what an extent says of both
abbrev pub tag_and_rest : Option (Entry (List ℕ) ℕ × List ℕ) → Option (ℕ × List ℕ)
tag_and_rest none = none
tag_and_rest (some r) = some (r.0.tag, r.1)

abbrev pub told : List ℕ → code.Option Extent → Option (ℕ × List ℕ)
told pool None = none
told pool (Some e) = some (e.tag, drop e.next pool)

-- r is the one extent that JVMS's reader finds at a place of a pool, which leaves what stands behind it
pub record ReadAt (pool : List ℕ) (at : ℕ) (r : code.Option Extent) : Type 0 where
  pub answer : r ≡ extent_of (length pool) (cp_info (drop at pool))
  pub rest : tag_and_rest (cp_info (drop at pool)) ≡ told pool r
