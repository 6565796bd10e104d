-- The one table of entry shapes, tag by tag as JVMS 4.4 lists them, and how an entry of a shape is read and written. Assumes nothing.
use Rattle.std.specs.Prelude.{Bool, ◌||◌, ℕ, eqb, length, get_or}
use mathlib.Core.List.{List, [], ◌∷◌, ◌++◌, map, tail}
use Rattle.definition.specs.Basics.{concat}
use Rattle.definition.specs.Bytes.{Parser, return, ◌>>=◌, one, two, many, be2}

-- constants and bootstraps are numbered and named apart
pub data Kind : Type 0 where
  constant bootstrap : Kind

-- a field of an entry behind its tag
pub data Field : Type 0 where
  -- two bytes of length, then the text's bytes
  text : Field
  -- a number's bits, so many bytes
  bits : ℕ → Field
  -- the kind byte of a method handle
  byte : Field
  -- a reference
  to : Kind → Field
  -- two bytes of count, then that many references to constants
  to_many : Field

-- JVMS 4.4.1 to 4.4.12, by tag
unfoldable pub shapes : List (ℕ × List Field)
shapes =
    (1, text ∷ [])  -- Utf8: length, bytes
    ∷ (3, bits 4 ∷ [])  -- Integer: bytes
    ∷ (4, bits 4 ∷ [])  -- Float: bytes
    ∷ (5, bits 8 ∷ [])  -- Long: high_bytes, low_bytes
    ∷ (6, bits 8 ∷ [])  -- Double: high_bytes, low_bytes
    ∷ (7, to constant ∷ [])  -- Class: name_index
    ∷ (8, to constant ∷ [])  -- String: string_index
    ∷ (9, to constant ∷ to constant ∷ [])  -- Fieldref: class_index, name_and_type_index
    ∷ (10, to constant ∷ to constant ∷ [])  -- Methodref: class_index, name_and_type_index
    ∷ (11, to constant ∷ to constant ∷ [])  -- InterfaceMethodref: class_index, name_and_type_index
    ∷ (12, to constant ∷ to constant ∷ [])  -- NameAndType: name_index, descriptor_index
    ∷ (15, byte ∷ to constant ∷ [])  -- MethodHandle: reference_kind, reference_index
    ∷ (16, to constant ∷ [])  -- MethodType: descriptor_index
    ∷ (17, to bootstrap ∷ to constant ∷ [])  -- Dynamic: bootstrap_method_attr_index, name_and_type_index
    ∷ (18, to bootstrap ∷ to constant ∷ [])  -- InvokeDynamic: bootstrap_method_attr_index, name_and_type_index
    ∷ (19, to constant ∷ [])  -- Module: name_index
    ∷ (20, to constant ∷ [])  -- Package: name_index
    ∷ []

-- JVMS 4.7.23: bootstrap_method_ref, num_bootstrap_arguments, bootstrap_arguments
unfoldable pub bootstrap_shape : List Field
bootstrap_shape = to constant ∷ to_many ∷ []

-- in a job a bootstrap is an entry with this for its tag
abbrev pub bootstrap_tag : ℕ
bootstrap_tag = 0x40

-- JVMS 4.4.5: a Long or a Double takes two slots
unfoldable pub is_wide : ℕ → Bool
is_wide tag = eqb tag 5 || eqb tag 6

-- An entry, `FlatConst` of the Rust: its tag, its literal, its kind byte (0 if it has none) and what it refers to, in field order.
-- L is how the literal is given and R how a reference is.
pub record Entry (L R : Type 0) : Type 0 where
  pub tag : ℕ
  pub literal : L
  pub byte : ℕ
  pub kids : List R

-- an entry with other references
unfoldable pub with_kids : {L R S : Type 0} → List S → Entry L R → Entry L S
with_kids kids e = record { tag = e.tag; literal = e.literal; byte = e.byte; kids = kids }

-- an entry with its literal in another form
unfoldable pub with_literal : {L M R : Type 0} → M → Entry L R → Entry M R
with_literal literal e = record { tag = e.tag; literal = literal; byte = e.byte; kids = e.kids }

unfoldable pub with_byte : {L R : Type 0} → ℕ → Entry L R → Entry L R
with_byte b e = record { tag = e.tag; literal = e.literal; byte = b; kids = e.kids }

-- reads the fields of a shape, where `kid` reads a reference, into an entry that has none of them yet
unfoldable pub read_fields : {R : Type 0} → (Kind → Parser R) → List Field → Entry (List ℕ) R → Parser (Entry (List ℕ) R)
read_fields kid [] e = return e
read_fields kid (text ∷ fields) e = do
  size ← two
  s ← many size one
  read_fields kid fields (with_literal s e)
read_fields kid (bits size ∷ fields) e = do
  s ← many size one
  read_fields kid fields (with_literal s e)
read_fields kid (byte ∷ fields) e = do
  b ← one
  read_fields kid fields (with_byte b e)
read_fields kid (to kind ∷ fields) e = do
  r ← kid kind
  read_fields kid fields (with_kids (e.kids ++ r ∷ []) e)
read_fields kid (to_many ∷ fields) e = do
  size ← two
  rs ← many size (kid constant)
  read_fields kid fields (with_kids (e.kids ++ rs) e)

-- an entry of a tag, read by its shape
unfoldable pub read_entry : {R : Type 0} → (Kind → Parser R) → ℕ → List Field → Parser (Entry (List ℕ) R)
read_entry kid tag fields = read_fields kid fields (record { tag = tag; literal = []; byte = 0; kids = [] })

-- the bytes of an entry's fields, by its shape: the reader's other side
unfoldable pub write_fields : List Field → Entry (List ℕ) ℕ → List ℕ → List ℕ
write_fields [] e kids = []
write_fields (text ∷ fields) e kids = be2 (length e.literal) ++ e.literal ++ write_fields fields e kids
write_fields (bits size ∷ fields) e kids = e.literal ++ write_fields fields e kids
write_fields (byte ∷ fields) e kids = e.byte ∷ write_fields fields e kids
write_fields (to kind ∷ fields) e kids = be2 (get_or kids 0 0) ++ write_fields fields e (tail kids)
write_fields (to_many ∷ fields) e kids = be2 (length kids) ++ concat (map be2 kids) ++ write_fields fields e []
