-- What the code writes of a node and of a content are the bytes of what it shows. Assumes nothing.
use mathlib.Core.List.{List, [], ◌∷◌, map}
use mathlib.Core.Option.{Option, none, some}
use mathlib.Core.Path.{◌≡◌, refl, sym}
use Prim.Native.Nat.{ℕ, ◌+◌, ◌-◌, ◌≤◌, ◌<◌}
use native.Mathlib.Omega.{arith}
use lib.ListN.{length, get_or, set, take, drop, length-append}
use lib.Seq.{paste}
use Rattle.definition.specs.Ascii.{ascii}
use Rattle.definition.specs.Basics.{lookup}
use Rattle.definition.specs.Bytes.{be2}
use Rattle.definition.specs.Shapes.{Field, text, bits, shapes, Entry, write_fields}
use Rattle.definition.specs.Numbering.{attribute_name}
use Rattle.definition.specs.Run.{entry_bytes, slot_bytes}
use Rattle.facts.proofs.Lists.{clash}
use Rattle.facts.proofs.Tables.{looked_up}
use Rattle.laws.specs.Statements.{IsBytes}
use Rattle.raw_const.specs.Entries.{LiteralFits, entry_of, Wrote}
use Rattle.raw_const.proofs.Shaped.{entry_parts}
use Rattle.raw_const.proofs.Writes.{wrote_then, wrote_byte, wrote_short}
use Rattle.job.specs.Stored.{Spans}
use Rattle.job.specs.declared.Stretch.{Stretch}
use Rattle.store.specs.Store.{Store, size}
use Rattle.store.specs.Regions.{MARKS, GIVEN, INDEXES, OFFSETS, FIRSTS, SIZES, CHILDREN, NODES, Work}
use Rattle.store.specs.Words.{cut}
use Rattle.store.proofs.Laying.{work-sizes}
use Rattle.store.proofs.Bounds.{work-constants}
use Rattle.interner.specs.Nodes.{node_count}
use Rattle.output.specs.declared.Content.{Content}
use Rattle.output.specs.declared.Content.TheVariants as content
use Rattle.output.specs.Contents.{child_number, ShortChild, finished_in, Made, KidsNumbered, text_entry, shown_word, shown_in, IsContent}
use Rattle.output.proofs.Numbers.{short_child}
use Rattle.output.proofs.Showing.{entry_known, found, shown-kids, shown-fits, has_kids, no_kids}

-- an entry from its parts
pub parts_are :
    (e : Entry (List ℕ) ℕ) (tag kind : ℕ) (literal : List ℕ) (first second : ℕ) → tag ≡ e.tag → kind ≡ e.byte → literal ≡ e.literal →
    first ≡ get_or e.kids 0 0 → second ≡ get_or e.kids 1 0 → entry_bytes (entry_of tag kind literal first second) ≡ entry_bytes e
parts_are e tag kind literal first second t k l f g = rw (t, k, l, f, g) (entry_parts e)

-- A NODE

module _ (s p : List ℕ) (t : Store) (k : ℕ) (work : Work s p) (made : Made s t) (low : k < node_count t) where
  abbrev fin : Entry (List ℕ) ℕ
  fin = finished_in s t k

  -- its place is in the job
  pub place_inside : (at : ℕ) → at ≡ get_or (t OFFSETS) (get_or (t NODES) k 0) 0 → at + 0 ≤ length s
  place_inside at is = let f = found s t k made low at is in omega (arith, f.past, f.within)

  module _ (children n : ℕ) (first_is : children ≡ get_or (t FIRSTS) (get_or (t NODES) k 0) 0) (size_is : n ≡ get_or (t SIZES) (get_or (t NODES) k 0) 0) where
    pub kids_room : children + n ≤ size p CHILDREN
    kids_room = omega (arith, (entry_known s t k made low).at.room, (work-sizes s p work).children)

    pub kid_ready : KidsNumbered s t k → (i : ℕ) → i < n → ShortChild p t (get_or (t CHILDREN) (children + i) 0)
    kid_ready kids i h =
        rw first_is (short_child s p t work made (get_or (t CHILDREN) (get_or (t FIRSTS) (get_or (t NODES) k 0) 0 + i) 0) (kids i (omega (arith, size_is))))

    pub kid_number : (i r : ℕ) →
        r ≡ get_or (map (child_number (size p MARKS - size p INDEXES) (t GIVEN) (t INDEXES) (t NODES)) (cut (t CHILDREN) children n)) i 0 →
        r ≡ get_or fin.kids i 0
    kid_number i r h = rw (shown-kids s t k made low, ← first_is, ← size_is) (rw (work-constants s p work).1 at h)

    -- with children it is written from those
    module _ (some-kids : 0 < n) (tag kind from first second : ℕ) (tag_is : tag ≡ fin.tag) (kind-is : kind ≡ fin.byte) where
      pub references-bytes :
          first ≡ get_or (map (child_number (size p MARKS - size p INDEXES) (t GIVEN) (t INDEXES) (t NODES)) (cut (t CHILDREN) children n)) 0 0 →
          second ≡ get_or (map (child_number (size p MARKS - size p INDEXES) (t GIVEN) (t INDEXES) (t NODES)) (cut (t CHILDREN) children n)) 1 0 →
          entry_bytes (entry_of tag kind (take 0 (drop from s)) first second) ≡ entry_bytes fin
      references-bytes f g =
          parts_are fin tag kind (take 0 (drop from s)) first second tag_is kind-is (sym (has_kids s t k made low n size_is some-kids)) (kid_number 0 first f) (kid_number 1 second g)

      pub references-fit : IsBytes s → LiteralFits (lookup tag shapes) 0
      references-fit b = rw tag_is (rw (has_kids s t k made low n size_is some-kids) at (shown-fits s t k made low b))

  -- without, from its literal
  pub literal_bytes_lem :
      (n : ℕ) → n ≡ get_or (t SIZES) (get_or (t NODES) k 0) 0 → n ≤ 0 → (tag : ℕ) (st : Stretch) → tag ≡ fin.tag → Spans s st fin.literal →
      entry_bytes (entry_of tag 0 (take (st.end - st.start) (drop st.start s)) 0 0) ≡ entry_bytes fin
  literal_bytes_lem n size_is none_left tag st tag_is spans =
      let z = no_kids s t k made low n size_is none_left in
      parts_are fin tag 0 (take (st.end - st.start) (drop st.start s)) 0 0 tag_is (sym z.0) spans.are
      (rw z.1) (rw z.1)

-- A CONTENT

module _ (node : ℕ → Entry (List ℕ) ℕ) (c : Content) where
  pub shown-node : (k : ℕ) → c ≡ content.Node k → shown_word node c ≡ some (node k)
  unfolding shown_word
  shown-node k h = rw h

  pub shown-nothing : c ≡ content.Nothing → shown_word node c ≡ none
  unfolding shown_word
  shown-nothing h = rw h

  pub shown-empty : c ≡ content.Empty → shown_word node c ≡ some (text_entry [])
  unfolding shown_word
  shown-empty h = rw h

  pub shown-attribute : c ≡ content.Attribute → shown_word node c ≡ some (text_entry attribute_name)
  unfolding shown_word
  shown-attribute h = rw h

-- the bytes of what it shows
pub slot-some : (o : Option (Entry (List ℕ) ℕ)) (e : Entry (List ℕ) ℕ) → o ≡ some e → slot_bytes o ≡ entry_bytes e
unfolding slot_bytes
slot-some o e h = rw h

pub slot-none : (o : Option (Entry (List ℕ) ℕ)) → o ≡ none → slot_bytes o ≡ []
unfolding slot_bytes
slot-none o h = rw h

pub empty_length : length (entry_bytes (text_entry [])) ≡ 3
unfolding entry_bytes lookup shapes write_fields be2
empty_length = refl

pub attribute-length : length (entry_bytes (text_entry attribute_name)) ≡ 19
unfolding entry_bytes lookup shapes write_fields be2 attribute_name ascii
attribute-length = refl

pub text_fits : (n : ℕ) → n < 65536 → LiteralFits (lookup 1 shapes) n
unfolding lookup shapes
text_fits n h = record { as_text = λ _. h; as_bits = λ size q. clash (text_bits size q) }
  where
    text_bits : (size : ℕ) → ◌≡◌ {A = Option (List Field)} (some (text ∷ [])) (some (bits size ∷ [])) → ◌≡◌ {A = ℕ} 0 1
    text_bits size q = cc

pub wrote_empty :
    (d d₁ d₂ : List ℕ) (at : ℕ) → at + 3 ≤ length d → d₁ ≡ set d at 1 → d₂ ≡ paste d₁ (at + 1) (be2 0) 2 → Wrote d at (entry_bytes (text_entry [])) d₂ (at + 3)
unfolding entry_bytes lookup shapes write_fields be2
wrote_empty d d₁ d₂ at room a b =
    let e : at + 3 ≡ at + 1 + 2 = omega arith in
    rw e (wrote_then (wrote_byte d at 1 (omega arith) a) (omega arith) (wrote_short d₁ (at + 1) 0 b))

pub name_whole : take 16 (drop 0 attribute_name) ≡ attribute_name
unfolding attribute_name ascii
name_whole = refl

pub name_length : length attribute_name ≡ 16
unfolding attribute_name ascii
name_length = refl

pub attribute-bytes : (name : List ℕ) → name ≡ attribute_name → entry_bytes (entry_of 1 0 name 0 0) ≡ entry_bytes (text_entry attribute_name)
attribute-bytes name h = parts_are (text_entry attribute_name) 1 0 name 0 0 refl refl h refl refl

-- NO ENTRY IS LONGER than the longest text

pub entry_bound : (e : Entry (List ℕ) ℕ) → LiteralFits (lookup e.tag shapes) (length e.literal) → length (entry_bytes e) ≤ 65538
unfolding entry_bytes shapes write_fields be2
entry_bound e =
    looked_up
    (λ o. LiteralFits o (length e.literal) → length {A = ℕ} (elim o [ none ↦ [] | some fields ↦ e.tag ∷ write_fields fields e e.kids ]) ≤ 65538)
    e.tag
    shapes (
      λ f. simp length-append (omega (arith, f.as_text refl)),
      (
        λ f. simp length-append (omega (arith, f.as_bits 4 refl)),
        (
          λ f. simp length-append (omega (arith, f.as_bits 4 refl)),
          (
            λ f. simp length-append (omega (arith, f.as_bits 8 refl)),
            (
              λ f. simp length-append (omega (arith, f.as_bits 8 refl)),
              (
                λ f. omega arith,
                (
                  λ f. omega arith,
                  (
                    λ f. omega arith,
                    (
                      λ f. omega arith,
                      (
                        λ f. omega arith,
                        (
                          λ f. omega arith,
                          (
                            λ f. omega arith,
                            (λ f. omega arith, (λ f. omega arith, (λ f. omega arith, (λ f. omega arith, (λ f. omega arith, λ f. omega arith))))),
                          ),
                        ),
                      ),
                    ),
                  ),
                ),
              ),
            ),
          ),
        ),
      ),
    )

pub content_bound : (s : List ℕ) (t : Store) (c : Content) → IsBytes s → Made s t → IsContent s t c → length (slot_bytes (shown_in s t c)) ≤ 65538
content_bound s t (content.Node k) b made is =
    rw (slot-some (shown_in s t (content.Node k)) (finished_in s t k) (shown-node (finished_in s t) (content.Node k) k refl))
    (entry_bound (finished_in s t k) (shown-fits s t k made is.0 b))
content_bound s t content.Nothing b made is =
    rw (slot-none (shown_in s t content.Nothing) (shown-nothing (finished_in s t) content.Nothing refl)) (omega arith)
content_bound s t content.Empty b made is =
    rw (slot-some (shown_in s t content.Empty) (text_entry []) (shown-empty (finished_in s t) content.Empty refl)) (omega (arith, empty_length))
content_bound s t content.Attribute b made is =
    rw (slot-some (shown_in s t content.Attribute) (text_entry attribute_name) (shown-attribute (finished_in s t) content.Attribute refl))
    (omega (arith, attribute-length))
