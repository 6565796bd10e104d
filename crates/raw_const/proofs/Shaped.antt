-- The bytes of an entry by the code's shapes. Assumes nothing.
use mathlib.Core.Path.{◌≡◌, refl, ◌∙◌}
use mathlib.Core.List.{List, [], ◌∷◌, ◌++◌, append-nil, tail}
use mathlib.Core.Option.{none, some}
use Prim.Native.Nat.{ℕ}
use native.Mathlib.Omega.{arith}
use lib.ListN.{length, get_or, take}
use Rattle.definition.specs.Basics.{lookup}
use Rattle.definition.specs.Bytes.{be2}
use Rattle.definition.specs.Shapes.{constant, bootstrap, Field, text, bits, byte, to, to_many, shapes, Entry, write_fields}
use Rattle.definition.specs.Run.{entry_bytes}
use Rattle.std.specs.Prelude as code
use Rattle.std.specs.Prelude.{None, Some}
use Rattle.raw_const.specs.Entries.{shape_fields, fields_of, listed, references, entry_of, LiteralFits, length_of}
use Rattle.raw_const.specs.declared.Shape.{Shape}
use Rattle.raw_const.specs.declared.Shape.TheVariants.{Text, Bits, One, Two, Dynamic, KindOne}
use Rattle.facts.proofs.Tables.{looked_up}

-- the bytes of an entry of a shape
abbrev shape_bytes : Shape → ℕ → ℕ → List ℕ → ℕ → ℕ → List ℕ
shape_bytes Text tag kind literal first second = tag ∷ be2 (length literal) ++ literal
shape_bytes (Bits size) tag kind literal first second = tag ∷ literal
shape_bytes One tag kind literal first second = tag ∷ be2 first
shape_bytes Two tag kind literal first second = tag ∷ be2 first ++ be2 second
shape_bytes Dynamic tag kind literal first second = tag ∷ be2 first ++ be2 second
shape_bytes KindOne tag kind literal first second = tag ∷ kind ∷ be2 first

-- of a tag that isn't there there are none
pub no_entry : (e : Entry (List ℕ) ℕ) → none ≡ lookup e.tag shapes → entry_bytes e ≡ []
unfolding entry_bytes
no_entry e known = rw (← known, entry_bytes)

-- those of an entry whose tag has that shape
entry_bytes_lem :
    (s : Shape) (e : Entry (List ℕ) ℕ) → some (shape_fields s) ≡ lookup e.tag shapes →
    entry_bytes e ≡ shape_bytes s e.tag e.byte e.literal (get_or e.kids 0 0) (get_or (tail e.kids) 0 0)
unfolding entry_bytes write_fields be2
entry_bytes_lem Text e known = rw (← known, entry_bytes) (rw append-nil)
entry_bytes_lem (Bits size) e known = rw (← known, entry_bytes) (rw append-nil)
entry_bytes_lem One e known = rw (← known, entry_bytes)
entry_bytes_lem Two e known = rw (← known, entry_bytes)
entry_bytes_lem Dynamic e known = rw (← known, entry_bytes)
entry_bytes_lem KindOne e known = rw (← known, entry_bytes)

-- how many they are
shape_size :
    (s : Shape) (tag kind : ℕ) (literal : List ℕ) (first second : ℕ) → LiteralFits (some (shape_fields s)) (length literal) →
    length_of s (length literal) ≡ length (shape_bytes s tag kind literal first second)
unfolding be2
shape_size Text tag kind literal first second fits = omega arith
shape_size (Bits size) tag kind literal first second fits = omega (arith, fits.as_bits size refl)
shape_size One tag kind literal first second fits = refl
shape_size Two tag kind literal first second fits = refl
shape_size Dynamic tag kind literal first second fits = refl
shape_size KindOne tag kind literal first second fits = refl

pub entry_size :
    (s : Shape) (e : Entry (List ℕ) ℕ) → some (shape_fields s) ≡ lookup e.tag shapes → LiteralFits (some (shape_fields s)) (length e.literal) →
    length_of s (length e.literal) ≡ length (entry_bytes e)
entry_size s e known fits = rw (entry_bytes_lem s e known) (shape_size s e.tag e.byte e.literal _ _ fits)

-- an entry from its parts
module _ (tag kind : ℕ) (literal : List ℕ) (first second : ℕ) where
  -- a shape's bytes go by as many references as it has
  kids_taken :
      (s : Shape) →
      let kids = take (references (shape_fields s)) (first ∷ second ∷ []) in
      shape_bytes s tag kind literal (get_or kids 0 0) (get_or (tail kids) 0 0) ≡ shape_bytes s tag kind literal first second
  kids_taken Text = refl
  kids_taken (Bits size) = refl
  kids_taken One = refl
  kids_taken Two = refl
  kids_taken Dynamic = refl
  kids_taken KindOne = refl

  parts-bytes :
      (s : Shape) → some (shape_fields s) ≡ lookup tag shapes →
      entry_bytes (entry_of tag kind literal first second) ≡ shape_bytes s tag kind literal first second
  unfolding entry_of
  parts-bytes s known = entry_bytes_lem s (entry_of tag kind literal first second) known ∙ rw (← known) (kids_taken s)

-- the shape that fields are of
abbrev pub shape_for : List Field → code.Option Shape
shape_for [] = None
shape_for (text ∷ fields) = Some Text
shape_for (bits size ∷ fields) = Some (Bits size)
shape_for (byte ∷ fields) = Some KindOne
shape_for (to kind ∷ []) = Some One
shape_for (to constant ∷ field ∷ fields) = Some Two
shape_for (to bootstrap ∷ field ∷ fields) = Some Dynamic
shape_for (to_many ∷ fields) = None

-- every tag has one, or isn't there
shape_known : (tag : ℕ) → fields_of (shape_for (listed (lookup tag shapes))) ≡ lookup tag shapes
unfolding shapes
shape_known tag = looked_up (λ o. fields_of (shape_for (listed o)) ≡ o) tag shapes
    (refl, (refl, (refl, (refl, (refl, (refl, (refl, (refl, (refl, (refl, (refl, (refl, (refl, (refl, (refl, (refl, (refl, refl)))))))))))))))))

-- and fields are of one shape
pub shape_back : (s : code.Option Shape) → shape_for (listed (fields_of s)) ≡ s
shape_back None = refl
shape_back (Some Text) = refl
shape_back (Some (Bits size)) = refl
shape_back (Some One) = refl
shape_back (Some Two) = refl
shape_back (Some Dynamic) = refl
shape_back (Some KindOne) = refl

second-kid : (kids : List ℕ) → get_or kids 1 0 ≡ get_or (tail kids) 0 0
second-kid [] = refl
second-kid (x ∷ kids) = refl

-- the bytes of any entry are those of its parts
parts_of :
    (s : code.Option Shape) (e : Entry (List ℕ) ℕ) → fields_of s ≡ lookup e.tag shapes →
    entry_bytes (entry_of e.tag e.byte e.literal (get_or e.kids 0 0) (get_or e.kids 1 0)) ≡ entry_bytes e
unfolding entry_of
parts_of None e known =
    rw (no_entry (entry_of e.tag e.byte e.literal (get_or e.kids 0 0) (get_or e.kids 1 0)) known, no_entry e known)
parts_of (Some s) e known =
    rw (second-kid e.kids, entry_bytes_lem s e known)
    (parts-bytes e.tag e.byte e.literal (get_or e.kids 0 0) (get_or (tail e.kids) 0 0) s known)

pub entry_parts :
    (e : Entry (List ℕ) ℕ) → entry_bytes (entry_of e.tag e.byte e.literal (get_or e.kids 0 0) (get_or e.kids 1 0)) ≡ entry_bytes e
entry_parts e = parts_of (shape_for (listed (lookup e.tag shapes))) e (shape_known e.tag)
