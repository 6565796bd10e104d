-- An entry that fits its shape is read back from the bytes that the shape writes: fields, entries with their tags, and bootstraps.
-- Assumes nothing.
use mathlib.Core.Bool.{false}
use mathlib.Core.List.{List, [], ◌∷◌, ◌++◌, map, append-nil, append_assoc}
use mathlib.Core.Option.{some}
use mathlib.Core.Path.{◌≡◌, refl, ap, ◌∙◌}
use Prim.Native.Nat.{ℕ, ◌+◌, ◌*◌, ◌/◌, ◌%◌}
use native.Mathlib.Omega.{arith}
use lib.ListN.{length}
use Rattle.definition.specs.Basics.{concat, lookup}
use Rattle.definition.specs.Bytes.{one, two, many, be2}
use Rattle.definition.specs.Shapes.{Kind, Field, text, bits, byte, to, to_many, shapes, Entry, with_kids, with_literal, with_byte, read_fields, read_entry, write_fields, constant}
use Rattle.definition.specs.Run.{entry_bytes}
use Rattle.definition.specs.Jvms.{index, of_tag, cp_info}
use Rattle.facts.proofs.Each.{Each}
use Rattle.laws.proofs.Form.EntryShapes.{Short, Filled, shows_literal, shows_byte, HasShape}

-- an entry fits a shape: two bytes hold each of its references
pub record IsFor (fields : List Field) (e : Entry (List ℕ) ℕ) : Type 0 where
  pub shape : HasShape fields e
  pub short_kids : Each Short e.kids

-- a number of two bytes is read back
pub two-be2 : (n : ℕ) (rest : List ℕ) → Short n → two (be2 n ++ rest) ≡ some (n, rest)
unfolding two one be2
two-be2 n rest h =
    let e : 256 * (n / 256 % 256) + n % 256 ≡ n = omega arith in
    ap (λ m. some (m, rest)) e

-- so many bytes are read back
pub many-one : (s rest : List ℕ) → many (length s) one (s ++ rest) ≡ some (s, rest)
unfolding many one
many-one [] rest = refl
many-one (b ∷ s) rest = rw (many-one s rest)

-- so are indexes
pub many-index : (kind : Kind) (ns rest : List ℕ) → Each Short ns → many (length ns) (index kind) (concat (map be2 ns) ++ rest) ≡ some (ns, rest)
unfolding many index concat
many-index kind [] rest h = refl
many-index kind (n ∷ ns) rest h = rw (append_assoc, two-be2 n _ h.0, many-index kind ns rest h.1)

-- fields are read back into an entry that has all that came before them
pub read_fields-write_fields :
    (fields : List Field) (e before : Entry (List ℕ) ℕ) (kids rest : List ℕ) →
    Filled fields e.literal (length kids) →
    Each Short kids →
    (shows_literal fields ≡ false → e.literal ≡ before.literal) →
    (shows_byte fields ≡ false → e.byte ≡ before.byte) →
    read_fields index fields before (write_fields fields e kids ++ rest)
    ≡ some (record { tag = before.tag; literal = e.literal; byte = e.byte; kids = before.kids ++ kids }, rest)
unfolding read_fields write_fields with_kids with_literal with_byte index one
read_fields-write_fields [] e before [] rest f k l b = rw (l refl, b refl, append-nil)
read_fields-write_fields [] e before (n ∷ kids) rest f k l b = absurd (omega arith)
read_fields-write_fields (text ∷ fields) e before kids rest f k l b =
    simp append_assoc (rw (two-be2 (length e.literal) _ f.0, many-one e.literal _)
    (read_fields-write_fields fields e (with_literal e.literal before) kids rest f.1 k (λ _. refl) b))
read_fields-write_fields (bits size ∷ fields) e before kids rest f k l b =
    rw (append_assoc, ← f.0, many-one e.literal _)
    (read_fields-write_fields fields e (with_literal e.literal before) kids rest f.1 k (λ _. refl) b)
read_fields-write_fields (byte ∷ fields) e before kids rest f k l b =
    read_fields-write_fields fields e (with_byte e.byte before) kids rest f k l (λ _. refl)
read_fields-write_fields (to kind ∷ fields) e before [] rest f k l b = absurd f
read_fields-write_fields (to kind ∷ fields) e before (n ∷ kids) rest f k l b =
    rw (append_assoc, two-be2 n _ k.0)
    (rw append_assoc at (read_fields-write_fields fields e (with_kids (before.kids ++ n ∷ []) before) kids rest f k.1 l b))
read_fields-write_fields (to_many ∷ fields) e before kids rest f k l b =
    simp append_assoc (rw (two-be2 (length kids) _ f.0, many-index constant kids _ k)
    (rw append-nil at (read_fields-write_fields fields e (with_kids (before.kids ++ kids) before) [] rest f.1 tt l b)))

-- an entry is read back, its tag given
pub read_entry-write_fields :
    (fields : List Field) (e : Entry (List ℕ) ℕ) (rest : List ℕ) →
    IsFor fields e →
    read_entry index e.tag fields (write_fields fields e e.kids ++ rest) ≡ some (e, rest)
unfolding read_entry
read_entry-write_fields fields e rest h =
    read_fields-write_fields fields e _ e.kids rest h.shape.filled h.short_kids h.shape.no_literal h.shape.no_byte_lem

-- an entry is read back, its tag in front
pub cp_info-entry_bytes :
    (fields : List Field) (e : Entry (List ℕ) ℕ) (rest : List ℕ) →
    lookup e.tag shapes ≡ some fields →
    IsFor fields e →
    cp_info (entry_bytes e ++ rest) ≡ some (e, rest)
unfolding cp_info entry_bytes one of_tag
cp_info-entry_bytes fields e rest known h = rw (known, entry_bytes) (rw known (read_entry-write_fields fields e rest h))

-- an entry fits the shape of another that is like it, whatever the other's references are, if two bytes hold each of its own
pub is_for_like :
    {R : Type 0} (fields : List Field) (x : Entry (List ℕ) R) (e : Entry (List ℕ) ℕ) →
    HasShape fields x →
    e.literal ≡ x.literal →
    e.byte ≡ x.byte →
    length e.kids ≡ length x.kids →
    Each Short e.kids →
    IsFor fields e
is_for_like fields x e h l b n k =
    record {
      shape = record { filled = rw (l, n) h.filled; no_literal = λ z. l ∙ h.no_literal z; no_byte_lem = λ z. b ∙ h.no_byte_lem z };
      short_kids = k;
    }
