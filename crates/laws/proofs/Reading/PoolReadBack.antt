-- A whole pool and whole bootstraps are read back from their bytes, under JVMS 4.4 and 4.7.23, with nothing left over. Assumes nothing.
use mathlib.Core.Bool.{Bool, true, false}
use mathlib.Core.List.{List, [], ◌∷◌, ◌++◌, map, map-map, append-nil, append_assoc}
use mathlib.Core.Option.{none, some}
use mathlib.Core.Path.{◌≡◌, refl}
use Prim.Native.Nat.{ℕ, suc}
use lib.Dec.{lit<}
use lib.ListN.{length, length-map}
use Rattle.definition.specs.Basics.{concat, lookup}
use Rattle.definition.specs.Bytes.{Parser, return, ◌>>=◌, fail, and_then, many, be2}
use Rattle.definition.specs.Shapes.{Field, text, shapes, bootstrap_shape, bootstrap_tag, is_wide, Entry, read_entry}
use Rattle.definition.specs.Building.{Row}
use Rattle.definition.specs.Layout.{Layout}
use Rattle.definition.specs.Numbering.{Literal}
use Rattle.definition.specs.Jvms.{Shown, index, cp_info, read_slots, below_count, wholly, read_pool, read_bootstraps}
use Rattle.definition.specs.Run.{shown, entry_bytes, slot_bytes, row_bytes, render}
use Rattle.facts.proofs.Each.{Each}
use Rattle.laws.proofs.Form.EntryShapes.{Short}
use Rattle.laws.proofs.Form.ParsersYield.{Byte}
use Rattle.laws.proofs.Reading.EntriesReadBack.{IsFor, two-be2, read_entry-write_fields, cp_info-entry_bytes}

-- a row as the reader of bootstraps shows it
abbrev pub row_shown : Row → Entry (List ℕ) ℕ
row_shown row = record { tag = bootstrap_tag; literal = []; byte = 0; kids = row }

-- an entry that fits the shape that its tag has, all of it bytes
pub record Fits (e : Entry (List ℕ) ℕ) : Type 0 where
  pub fields : List Field
  pub known : lookup e.tag shapes ≡ some fields
  pub is_for : IsFor fields e
  pub literal_bytes : Each Byte e.literal
  pub kind_byte : Byte e.byte

-- slots as a pool has them, behind a Long or a Double or not: an entry each, and behind a Long or a Double a slot that shows none
abbrev pub LaidBehind : List Shown → Bool → Type 0
LaidBehind [] false = Unit {0}
LaidBehind [] true = ⊥
LaidBehind (none ∷ cs) false = ⊥
LaidBehind (none ∷ cs) true = LaidBehind cs false
LaidBehind (some e ∷ cs) false = Fits e × LaidBehind cs (is_wide e.tag)
LaidBehind (some e ∷ cs) true = ⊥

-- slots as a pool has them from 1 on
abbrev pub Laid : List Shown → Type 0
Laid cs = LaidBehind cs false

-- nothing stands behind a narrow entry alone, a slot that shows none behind a wide one, an entry behind a narrow one
at_end : (b : Bool) → LaidBehind [] b → b ≡ false
at_end false h = refl
at_end true h = absurd h

at_none : (cs : List Shown) (b : Bool) → LaidBehind (none ∷ cs) b → (b ≡ true) × Laid cs
at_none cs false h = absurd h
at_none cs true h = (refl, h)

at_some : (e : Entry (List ℕ) ℕ) (cs : List Shown) (b : Bool) → LaidBehind (some e ∷ cs) b → (b ≡ false) × Laid (some e ∷ cs)
at_some e cs false h = (refl, h)
at_some e cs true h = absurd h

-- what reading goes on with behind an entry, wide or not: the last slot's, or where more slots are left
unfoldable last_entry : Bool → Entry (List ℕ) ℕ → Parser (List Shown)
last_entry wide e = elim wide [ true ↦ fail | false ↦ return (some e ∷ []) ]

unfoldable next_entry : Bool → ℕ → Entry (List ℕ) ℕ → Parser (List Shown)
next_entry wide n e =
    elim wide [
      | true ↦ (do
        rest ← read_slots n
        return (some e ∷ none ∷ rest))
      | false ↦ (do
        rest ← read_slots (suc n)
        return (some e ∷ rest))
    ]

read_slots-one : (bytes : List ℕ) → read_slots 1 bytes ≡ and_then (cp_info bytes) (λ e. last_entry (is_wide e.tag) e)
unfolding read_slots last_entry
read_slots-one bytes = refl

read_slots-more : (n : ℕ) (bytes : List ℕ) → read_slots (suc (suc n)) bytes ≡ and_then (cp_info bytes) (λ e. next_entry (is_wide e.tag) n e)
unfolding read_slots next_entry
read_slots-more n bytes = refl

-- reading slots, an entry at a time
read_nothing : (rest : List ℕ) → read_slots 0 rest ≡ some ([], rest)
unfolding read_slots
read_nothing rest = refl

read_last :
    (e : Entry (List ℕ) ℕ) (bytes rest : List ℕ) →
    cp_info bytes ≡ some (e, rest) →
    is_wide e.tag ≡ false →
    read_slots 1 bytes ≡ some (some e ∷ [], rest)
unfolding last_entry
read_last e bytes rest c w = rw (read_slots-one, c, w)

read_wide :
    (n : ℕ) (e : Entry (List ℕ) ℕ) (cs : List Shown) (bytes mid rest : List ℕ) →
    cp_info bytes ≡ some (e, mid) →
    is_wide e.tag ≡ true →
    read_slots n mid ≡ some (cs, rest) →
    read_slots (suc (suc n)) bytes ≡ some (some e ∷ none ∷ cs, rest)
unfolding next_entry
read_wide n e cs bytes mid rest c w r = rw (read_slots-more, c, w, r)

read_narrow :
    (n : ℕ) (e : Entry (List ℕ) ℕ) (cs : List Shown) (bytes mid rest : List ℕ) →
    cp_info bytes ≡ some (e, mid) →
    is_wide e.tag ≡ false →
    read_slots (suc n) mid ≡ some (cs, rest) →
    read_slots (suc (suc n)) bytes ≡ some (some e ∷ cs, rest)
unfolding next_entry
read_narrow n e cs bytes mid rest c w r = rw (read_slots-more, c, w, r)

-- an entry of a slot is read back
cp_info-fits : (e : Entry (List ℕ) ℕ) (rest : List ℕ) → Fits e → cp_info (entry_bytes e ++ rest) ≡ some (e, rest)
cp_info-fits e rest h = cp_info-entry_bytes h.fields e rest h.known h.is_for

-- the slots are read back
pub read_slots-slot_bytes :
    (cs : List Shown) (rest : List ℕ) → Laid cs → read_slots (length cs) (concat (map slot_bytes cs) ++ rest) ≡ some (cs, rest)
unfolding concat slot_bytes
read_slots-slot_bytes [] rest h = read_nothing rest
read_slots-slot_bytes (none ∷ cs) rest h = absurd h
read_slots-slot_bytes (some e ∷ []) rest h = rw append_assoc (read_last e _ rest (cp_info-fits e _ h.0) (at_end _ h.1))
read_slots-slot_bytes (some e ∷ none ∷ cs) rest h =
    let k = at_none cs _ h.1 in
    rw append_assoc (read_wide (length cs) e cs _ _ rest (cp_info-fits e _ h.0) k.0 (read_slots-slot_bytes cs rest k.1))
read_slots-slot_bytes (some e ∷ some e' ∷ cs) rest h =
    let k = at_some e' cs _ h.1 in
    rw append_assoc
    (read_narrow (length cs) e (some e' ∷ cs) _ _ rest (cp_info-fits e _ h.0) k.0 (read_slots-slot_bytes (some e' ∷ cs) rest k.1))

-- a pool is read back, with nothing left over
pub read_pool-slot_bytes :
    (cs : List Shown) → Short (suc (length cs)) → Laid cs → read_pool (be2 (suc (length cs)) ++ concat (map slot_bytes cs)) ≡ some cs
unfolding read_pool below_count wholly
read_pool-slot_bytes cs short h =
    rw (two-be2 (suc (length cs)) _ short) (rw (← (append-nil (concat (map slot_bytes cs)))) (rw (read_slots-slot_bytes cs [] h)))

-- so many bootstraps are read back
many-row_bytes :
    (rows : List Row) (rest : List ℕ) →
    Each (λ row. IsFor bootstrap_shape (row_shown row)) rows →
    many (length rows) (read_entry index bootstrap_tag bootstrap_shape) (concat (map row_bytes rows) ++ rest) ≡ some (map row_shown rows, rest)
unfolding many concat row_bytes
many-row_bytes [] rest h = refl
many-row_bytes (row ∷ rows) rest h =
    rw (append_assoc, read_entry-write_fields bootstrap_shape (row_shown row) _ h.0, many-row_bytes rows rest h.1)

-- bootstraps are read back, with nothing left over
pub read_bootstraps-row_bytes :
    (rows : List Row) →
    Each (λ row. IsFor bootstrap_shape (row_shown row)) rows →
    read_bootstraps (length rows) (concat (map row_bytes rows)) ≡ some (map row_shown rows)
unfolding read_bootstraps wholly
read_bootstraps-row_bytes rows h = rw (← (append-nil (concat (map row_bytes rows)))) (rw (many-row_bytes rows [] h))

-- a text of bytes fits its shape if two bytes hold its length
pub fits-text : (s : List ℕ) → Short (length s) → Each Byte s → Fits (record { tag = 1; literal = s; byte = 0; kids = [] })
unfolding shapes lookup
fits-text s h b =
    record {
      fields = text ∷ [];
      known = refl;
      is_for = record { shape = record { filled = (h, refl); no_literal = λ z. cc; no_byte_lem = λ z. refl }; short_kids = tt };
      literal_bytes = b;
      kind_byte = lit< tt;
    }

-- the law READS, from what it takes of a layout: the contents are below the count, laid as slots are, and the rows fit their shape
pub reads_layout :
    (all : List Literal) (l : Layout) →
    l.count ≡ suc (length l.contents) →
    Short l.count →
    Laid (map (shown all) l.contents) →
    Each (λ row. IsFor bootstrap_shape (row_shown row)) l.rows →
    (read_pool (render all l).pool ≡ some (map (shown all) l.contents))
    × (read_bootstraps (render all l).bootstrap_count (render all l).bootstraps ≡ some (map row_shown l.rows))
unfolding render
reads_layout all l count short laid rows =
    let cs = map (shown all) l.contents in
    let e : l.count ≡ suc (length cs) = rw (length-map l.contents (shown all)) count in
    (rw (e, ← (map-map slot_bytes (shown all) l.contents)) (read_pool-slot_bytes cs (rw e at short) laid), read_bootstraps-row_bytes l.rows rows)
