-- The pool and the bootstraps of a layout whose entries fit are bytes. Assumes nothing.
use mathlib.Core.Bool.{Bool, true, false}
use mathlib.Core.List.{List, [], ◌∷◌, ◌++◌, map, map-map}
use mathlib.Core.Option.{none, some}
use mathlib.Core.Path.{◌≡◌, refl}
use Prim.Native.Nat.{ℕ, zero, suc}
use native.Mathlib.Omega.{arith}
use lib.Dec.{ltb, lit<}
use lib.ListN.{length}
use borrow.Author.Tests.{ltb-true}
use Rattle.definition.specs.Basics.{every, concat}
use Rattle.definition.specs.Bytes.{be2}
use Rattle.definition.specs.Shapes.{Field, text, bits, byte, to, to_many, shapes, bootstrap_shape, Entry, write_fields}
use Rattle.definition.specs.Building.{Row}
use Rattle.definition.specs.Layout.{Layout}
use Rattle.definition.specs.Numbering.{Literal}
use Rattle.definition.specs.Jvms.{Shown}
use Rattle.definition.specs.Run.{shown, entry_bytes, slot_bytes, row_bytes, render}
use Rattle.facts.proofs.Tables.{lookup-every}
use Rattle.facts.proofs.Each.{Each, each_append}
use Rattle.laws.specs.Statements.{IsBytes}
use Rattle.laws.proofs.Form.ParsersYield.{Byte}
use Rattle.laws.proofs.Reading.PoolReadBack.{row_shown, Fits, LaidBehind, Laid}

-- a list of bytes is a byte string
is_bytes : (l : List ℕ) → Each Byte l → IsBytes l
is_bytes [] h = λ i. lit< tt
is_bytes (b ∷ l) h = go (is_bytes l h.1)
  where
    go : IsBytes l → IsBytes (b ∷ l)
    go rest zero = h.0
    go rest (suc i) = rest i

be2-bytes : (n : ℕ) → Each Byte (be2 n)
unfolding be2
be2-bytes n = (omega arith, (omega arith, tt))

-- lists of bytes, joined
concat-bytes : {A : Type 0} (f : A → List ℕ) → ((a : A) → Each Byte (f a)) → (l : List A) → Each Byte (concat (map f l))
unfolding concat
concat-bytes f h [] = tt
concat-bytes f h (a ∷ l) = each_append Byte (f a) _ (h a) (concat-bytes f h l)

-- fields
fields_bytes : (fields : List Field) (e : Entry (List ℕ) ℕ) (kids : List ℕ) → Each Byte e.literal → Byte e.byte → Each Byte (write_fields fields e kids)
unfolding write_fields
fields_bytes [] e kids l b = tt
fields_bytes (text ∷ fields) e kids l b =
    each_append Byte (be2 (length e.literal) ++ e.literal) _ (each_append Byte (be2 (length e.literal)) _ (be2-bytes _) l) (fields_bytes fields e kids l b)
fields_bytes (bits size ∷ fields) e kids l b = each_append Byte e.literal _ l (fields_bytes fields e kids l b)
fields_bytes (byte ∷ fields) e kids l b = (b, fields_bytes fields e kids l b)
fields_bytes (to kind ∷ fields) e kids l b = each_append Byte (be2 _) _ (be2-bytes _) (fields_bytes fields e _ l b)
fields_bytes (to_many ∷ fields) e kids l b =
    each_append Byte (be2 (length kids) ++ concat (map be2 kids)) _ (each_append Byte (be2 (length kids)) _ (be2-bytes _) (concat-bytes be2 be2-bytes kids)) (fields_bytes fields e [] l b)

-- a tag that has a shape is a byte
low_tags : every (λ (s : ℕ × List Field). ltb s.0 256) shapes ≡ true
unfolding every shapes
low_tags = refl

entry_bytes_lem : (e : Entry (List ℕ) ℕ) → Fits e → Each Byte (entry_bytes e)
unfolding entry_bytes
entry_bytes_lem e h =
    rw (h.known, entry_bytes)
    (ltb-true e.tag 256 (lookup-every (λ (s : ℕ × List Field). ltb s.0 256) shapes low_tags e.tag h.fields h.known), fields_bytes h.fields e e.kids h.literal_bytes h.kind_byte)

-- slots
slots-bytes : (cs : List Shown) (w : Bool) → LaidBehind cs w → Each Byte (concat (map slot_bytes cs))
unfolding concat slot_bytes
slots-bytes [] w h = tt
slots-bytes (none ∷ cs) false h = absurd h
slots-bytes (none ∷ cs) true h = slots-bytes cs false h
slots-bytes (some e ∷ cs) false h = each_append Byte (entry_bytes e) _ (entry_bytes_lem e h.0) (slots-bytes cs _ h.1)
slots-bytes (some e ∷ cs) true h = absurd h

row_bytes_lem : (row : Row) → Each Byte (row_bytes row)
unfolding row_bytes
row_bytes_lem row = fields_bytes bootstrap_shape (row_shown row) row tt (lit< tt)

pub layout-bytes : (all : List Literal) (l : Layout) → Laid (map (shown all) l.contents) → IsBytes (render all l).pool × IsBytes (render all l).bootstraps
unfolding render
layout-bytes all l laid =
    let entries = concat (map (λ c. slot_bytes (shown all c)) l.contents) in
    let are_bytes : Each Byte entries = rw (← (map-map slot_bytes (shown all) l.contents)) (slots-bytes (map (shown all) l.contents) false laid) in
    (is_bytes (be2 l.count ++ entries) (each_append Byte (be2 l.count) entries (be2-bytes l.count) are_bytes), is_bytes (concat (map row_bytes l.rows)) (concat-bytes row_bytes row_bytes_lem l.rows))
