-- A node's entry as it is shown: what the code reads of it at its place in the job. Assumes nothing.
use mathlib.Core.List.{List, [], ◌∷◌, map}
use mathlib.Core.Logic.{inl, inr, ⊎_elim}
use mathlib.Core.Option.{none, some}
use mathlib.Core.Path.{◌≡◌, refl, sym, ap, subst, ◌∙◌}
use Prim.Native.Nat.{ℕ, ◌+◌, ◌-◌, ◌≤◌, ◌<◌}
use native.Mathlib.Omega.{arith}
use lib.ListN.{length, get_or, drop}
use Rattle.definition.specs.Basics.{lookup}
use Rattle.definition.specs.Shapes.{Field, text, bits, shapes, bootstrap_tag, Entry, with_kids}
use Rattle.definition.specs.Job.{Reference, define}
use Rattle.definition.specs.Run.{entry_bytes}
use Rattle.facts.proofs.Lists.{none≢some, some_inj, found_read, place_drop}
use Rattle.facts.proofs.Each.{Each, each_from}
use Rattle.facts.proofs.Copies.{part_length}
use Rattle.laws.specs.Statements.{IsBytes}
use Rattle.laws.proofs.Form.EntryShapes.{HasShape}
use Rattle.laws.proofs.Form.FormedEntries.{ShapeOf, FormedEntry, yields_definition}
use Rattle.raw_const.specs.Entries.{LiteralFits, EntryTakes}
use Rattle.job.specs.Stored.{Found, EntryStands, WhatEntry, Spans, any_definition}
use Rattle.job.specs.declared.Stretch.{Stretch}
use Rattle.job.proofs.Standing.{definition_read}
use Rattle.store.specs.Store.{Store, size}
use Rattle.store.specs.Regions.{OFFSETS, FIRSTS, SIZES, CHILDREN, NODES, Work}
use Rattle.store.specs.Words.{cut}
use Rattle.store.proofs.Laying.{work-sizes, entries-counted}
use Rattle.interner.specs.Nodes.{node_count}
use Rattle.interner.proofs.Children.{cut-length}
use Rattle.interner.proofs.Shaped.{Known, known}
use Rattle.interner.proofs.Alike.{stands_at}
use Rattle.output.specs.Contents.{finished, finished_in, number_in, Made}

-- AN ENTRY that was found fits its shape

bytes-each : (s : List ℕ) (at : ℕ) → IsBytes s → Each (λ x. x < 256) (drop at s)
bytes-each s at b =
    each_from (λ x. x < 256) (drop at s) λ i a h.
    let q : get_or s (at + i) 0 ≡ a = found_read s (at + i) a 0 (sym (place_drop s at i) ∙ h) in
    subst (λ x. x < 256) q (b (at + i))

pub entry_formed : (s : List ℕ) (at : ℕ) (x : Entry (List ℕ) Reference) (next : ℕ) → IsBytes s → Found any_definition s at (define x) next → FormedEntry x
entry_formed s at x next b f =
    (yields_definition (get_or s at 0) (drop (at + 1) s) (bytes-each s (at + 1) b) (define x) (drop next s)
    (definition_read s at (define x) next f).2).is

no_bootstrap : lookup bootstrap_tag shapes ≡ none
unfolding shapes lookup
no_bootstrap = refl

-- the shape that a tag of the table has is the entry's
shape_is : (tag : ℕ) (fields found : List Field) → ShapeOf tag fields → lookup tag shapes ≡ some found → fields ≡ found
shape_is tag fields found (inl h) q = some_inj (sym h ∙ q)
shape_is tag fields found (inr h) q = none≢some (sym no_bootstrap ∙ sym (ap (λ x. lookup x shapes) h.0) ∙ q)

pub literal_fits : (x : Entry (List ℕ) Reference) → FormedEntry x → LiteralFits (lookup x.tag shapes) (length x.literal)
literal_fits x f =
    record {
      as_text = λ q. (subst (λ fields. HasShape fields x) (shape_is x.tag f.fields (text ∷ []) f.shape_of q) f.shape).filled.0;
      as_bits = λ n q. (subst (λ fields. HasShape fields x) (shape_is x.tag f.fields (bits n ∷ []) f.shape_of q) f.shape).filled.0;
    }

pub span_length : (s : List ℕ) (st : Stretch) (l : List ℕ) → Spans s st l → length l ≡ st.end - st.start
span_length s st l f = sym (ap length f.are) ∙ part_length s st.start (st.end - st.start) (omega (arith, f.rising, f.within))

-- A NODE

-- its places in the regions
pub record NodePlaces (p nodes : List ℕ) (k : ℕ) : Type 0 where
  pub node : k < size p NODES
  pub offset : get_or nodes k 0 < size p OFFSETS
  pub count : get_or nodes k 0 < size p SIZES
  pub first : get_or nodes k 0 < size p FIRSTS

module _ (s : List ℕ) (t : Store) (k : ℕ) (made : Made s t) (low : k < node_count t) where
  pub node_places : (p : List ℕ) → Work s p → NodePlaces p (t NODES) k
  node_places p work =
      let z = work-sizes s p work in
      let c = entries-counted s in
      let l = made.inside k low in
      record {
        node = omega (arith, made.few, z.nodes);
        offset = omega (arith, z.offsets);
        count = omega (arith, z.sizes);
        first = omega (arith, z.firsts);
      }

  abbrev pub entry_known : Known s (t OFFSETS) (t FIRSTS) (t SIZES) (get_or (t NODES) k 0)
  entry_known = known s (t OFFSETS) (t FIRSTS) (t SIZES) (get_or (t NODES) k 0) made.entered (made.inside k low)

  abbrev kids_cut : List ℕ
  kids_cut = cut (t CHILDREN) (get_or (t FIRSTS) (get_or (t NODES) k 0) 0) (get_or (t SIZES) (get_or (t NODES) k 0) 0)

  pub finished-is : finished_in s t k ≡ with_kids (map (number_in s t) kids_cut) entry_known.entry
  unfolding finished
  finished-is = rw (entry_known.is, finished)

  pub shown-tag : (finished_in s t k).tag ≡ entry_known.entry.tag
  unfolding with_kids
  shown-tag = ap (λ (x : Entry (List ℕ) ℕ). x.tag) finished-is

  pub shown-literal : (finished_in s t k).literal ≡ entry_known.entry.literal
  unfolding with_kids
  shown-literal = ap (λ (x : Entry (List ℕ) ℕ). x.literal) finished-is

  pub shown-byte : (finished_in s t k).byte ≡ entry_known.entry.byte
  unfolding with_kids
  shown-byte = ap (λ (x : Entry (List ℕ) ℕ). x.byte) finished-is

  pub shown-kids : (finished_in s t k).kids ≡ map (number_in s t) kids_cut
  unfolding with_kids
  shown-kids = ap (λ (x : Entry (List ℕ) ℕ). x.kids) finished-is

  -- what is read at its place
  module _ (at : ℕ) (is : at ≡ get_or (t OFFSETS) (get_or (t NODES) k 0) 0) where
    pub found : Found any_definition s at (define entry_known.entry) entry_known.at.next
    found = stands_at s (t OFFSETS) (t FIRSTS) (t SIZES) (t CHILDREN) (get_or (t NODES) k 0) entry_known at is

    pub node_stands : EntryStands s at
    node_stands = (entry_known.entry, entry_known.at.next, found)

    pub tag_read : (tag : ℕ) → WhatEntry s at (λ x. tag ≡ x.tag) → tag ≡ (finished_in s t k).tag
    tag_read tag h = h entry_known.entry entry_known.at.next found ∙ sym shown-tag

    pub byte_read : (byte : ℕ) → WhatEntry s at (λ x. byte ≡ x.byte) → byte ≡ (finished_in s t k).byte
    byte_read byte h = h entry_known.entry entry_known.at.next found ∙ sym shown-byte

    pub size-read : (n : ℕ) → WhatEntry s at (λ x. n ≡ length x.literal) → n ≡ length (finished_in s t k).literal
    size-read n h = h entry_known.entry entry_known.at.next found ∙ ap length (sym shown-literal)

    pub literal_read : (st : Stretch) → WhatEntry s at (λ x. Spans s st x.literal) → Spans s st (finished_in s t k).literal
    literal_read st h = rw shown-literal (h entry_known.entry entry_known.at.next found)

  pub shown-fits : IsBytes s → LiteralFits (lookup (finished_in s t k).tag shapes) (length (finished_in s t k).literal)
  shown-fits b =
      rw (shown-tag, shown-literal)
      (literal_fits entry_known.entry
      (entry_formed s (get_or (t OFFSETS) (get_or (t NODES) k 0) 0) entry_known.entry entry_known.at.next b (found (get_or (t OFFSETS) (get_or (t NODES) k 0) 0) refl)))

  module _ (n : ℕ) (size_is : n ≡ get_or (t SIZES) (get_or (t NODES) k 0) 0) where
    pub has_kids : 0 < n → (finished_in s t k).literal ≡ []
    has_kids h =
        ⊎_elim
        (λ (a : (length entry_known.entry.kids ≡ 0) × (entry_known.entry.byte ≡ 0)). absurd (omega (arith, a.0, entry_known.at.count)))
        (λ (a : (0 < length entry_known.entry.kids) × (entry_known.entry.literal ≡ [])). shown-literal ∙ a.1)
        entry_known.shaped

    pub no_kids : n ≤ 0 → ((finished_in s t k).byte ≡ 0) × ((finished_in s t k).kids ≡ [])
    no_kids h =
        ⊎_elim
        (λ (a : (length entry_known.entry.kids ≡ 0) × (entry_known.entry.byte ≡ 0)). (shown-byte ∙ a.1, shown-kids ∙ nil))
        (λ (a : (0 < length entry_known.entry.kids) × (entry_known.entry.literal ≡ [])). absurd (omega (arith, a.0, entry_known.at.count)))
        entry_known.shaped
      where
        none_left : (l : List ℕ) → length l ≡ 0 → map (number_in s t) l ≡ []
        none_left [] z = refl
        none_left (x ∷ l) z = absurd (omega arith)

        nil : map (number_in s t) kids_cut ≡ []
        nil = none_left kids_cut (omega (arith, cut-length (t CHILDREN) (get_or (t FIRSTS) (get_or (t NODES) k 0) 0) (get_or (t SIZES) (get_or (t NODES) k 0) 0)))

  -- HOW LONG its bytes are
  pub length-kids :
      (n tag r : ℕ) → n ≡ get_or (t SIZES) (get_or (t NODES) k 0) 0 → 0 < n → tag ≡ (finished_in s t k).tag → EntryTakes tag 0 r →
      r ≡ length (entry_bytes (finished_in s t k))
  length-kids n tag r size_is h q takes = takes (finished_in s t k) (sym q) (ap length (has_kids n size_is h))

  pub length-literal :
      (tag r n : ℕ) → tag ≡ (finished_in s t k).tag → n ≡ length (finished_in s t k).literal → EntryTakes tag n r → r ≡ length (entry_bytes (finished_in s t k))
  length-literal tag r n q long takes = takes (finished_in s t k) (sym q) (sym long)
