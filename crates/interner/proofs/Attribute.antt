-- The text "BootstrapMethods" among entries and nodes: the code's comparison, its hash, and where its node stands. Assumes nothing.
use mathlib.Core.Bool.{Bool, true, false}
use mathlib.Core.List.{List, [], map}
use mathlib.Core.Logic.{⊎_elim}
use mathlib.Core.Path.{◌≡◌, refl, sym, ap, ◌∙◌}
use Prim.Native.Nat.{ℕ, ◌+◌, ◌-◌, ◌≤◌, ◌<◌}
use native.Mathlib.Omega.{arith}
use lib.ListN.{length, get_or}
use Rattle.definition.specs.Ascii.{ascii}
use Rattle.definition.specs.Basics.{position, from}
use Rattle.definition.specs.Shapes.{with_kids, with_literal}
use Rattle.definition.specs.Numbering.{Literal, same_literal, attribute_name, literals, number_of, numbered_entry, entries}
use Rattle.definition.specs.Resolving.{Node, same_node}
use Rattle.definition.specs.Building.{attribute_text}
use Rattle.facts.specs.Lists.{Among}
use Rattle.facts.proofs.Lists.{tests_agree, position_here}
use Rattle.laws.proofs.Numbering.Numbering.{same_literal-true, same_literal-refl, number_of-inj}
use Rattle.laws.proofs.Resolving.Interning.{same_node-equal}
use Rattle.laws.proofs.Form.EmptyLiterals.{lit_of}
use Rattle.job.specs.declared.Stretch.{Stretch}
use Rattle.job.specs.Stored.{Spans, WhatEntry}
use Rattle.store.specs.Store.{Store, size, store}
use Rattle.store.specs.JobIn.{job_in, entries_in}
use lib.Dec.{eqb}
use Rattle.std.specs.Cmp.Lexicographic.{pointwise}
use Rattle.std.specs.Prelude.{None, Some}
use Rattle.store.specs.Chains.{link_of, Sought}
use Rattle.store.specs.Regions.{NODE-HEADS, NODE-LINKS, OFFSETS, FIRSTS, SIZES, CHILDREN, NODES, Work}
use Rattle.store.specs.Words.{cut}
use Rattle.store.proofs.Laying.{work-sizes, entries-counted}
use Rattle.store.proofs.Stores.{length-store}
use Rattle.interner.specs.Nodes.{hash_bytes, hash_node, hash_at, node_at_lem, node_in_lem, nodes_in, node_count, EnteredIn, NodesIn}
use Rattle.interner.proofs.Runs.{run, same_slices, spans_long}
use Rattle.interner.proofs.Shaped.{Known, known, node_is, hash_is}
use Rattle.interner.proofs.Alike.{node_same, stands_at}
use Rattle.interner.proofs.Listed.{position-old, position-new}
use Rattle.interner.proofs.Finding.{Is, Keyed}

abbrev name_literal : Literal
name_literal = (1, attribute_name)

name_length : length attribute_name ≡ 16
unfolding attribute_name ascii
name_length = refl

-- all of it, as a run
name_run : run attribute_name 0 16 ≡ attribute_name
unfolding attribute_name ascii
name_run = refl

-- what the code hashes
pub name_hash : (name : List ℕ) (r : ℕ) → name ≡ attribute_name → r ≡ hash_bytes 1 name → r ≡ hash_bytes 1 attribute_name
name_hash name r e q = q ∙ rw e

pub name_fits : (name : List ℕ) → name ≡ attribute_name → length name ≡ 16
name_fits name e = ap length e ∙ name_length

-- THE CODE'S COMPARISON at an entry

module _ (tag : ℕ) (x : List ℕ) where
  other : (tag ≡ 1 → x ≡ attribute_name → ⊥) → false ≡ same_literal (tag, x) name_literal
  other f = ways (same_literal (tag, x) name_literal) refl
    where
      ways : (b : Bool) → same_literal (tag, x) name_literal ≡ b → false ≡ b
      ways true h = let e = same_literal-true (tag, x) name_literal h in absurd (f (ap (λ (l : Literal). l.0) e) (ap (λ (l : Literal). l.1) e))
      ways false h = refl

  pub other_tag : (u : ℕ) → u ≡ tag → (u ≡ 1 → ⊥) → false ≡ same_literal (tag, x) name_literal
  other_tag u is f = other (λ t e. f (is ∙ t))

  module _ (s : List ℕ) (a : Stretch) (there : Spans s a x) where
    pub other_length : (a.end - a.start ≡ 16 → ⊥) → false ≡ same_literal (tag, x) name_literal
    other_length f = other (λ t e. f (sym (spans_long s a x there) ∙ ap length e ∙ name_length))

    pub by_bytes :
        (u : ℕ) → u ≡ tag → u ≡ 1 → (name : List ℕ) → name ≡ attribute_name →
        (r : Bool) → r ≡ pointwise eqb (run s a.start (a.end - a.start)) name → r ≡ same_literal (tag, x) name_literal
    unfolding same_literal
    by_bytes u is one name e r q =
        let t : tag ≡ 1 = sym is ∙ one in
        q ∙ same_slices (run s a.start (a.end - a.start)) name ∙ rw (e, there.are, t)

-- AN ENTRY'S NODE

module _ (s offsets firsts sizes children : List ℕ) (e : ℕ) (k : Known s offsets firsts sizes e) where
  abbrev all : List Literal
  all = literals (job_in s)

  abbrev kids : List ℕ
  kids = cut children (get_or firsts e 0) (get_or sizes e 0)

  first_among : Among name_literal all
  unfolding literals
  first_among = (0, refl)

  first_number : number_of all name_literal ≡ 0
  unfolding number_of literals
  first_number =
      position_here (same_literal name_literal) name_literal (map (λ e. (e.tag, e.literal)) (entries (job_in s).definitions)) (same_literal-refl name_literal)

  -- an entry with a literal has neither children nor a kind byte
  bare : k.entry.literal ≡ attribute_name → (get_or sizes e 0 ≡ 0) × (k.entry.byte ≡ 0)
  bare q =
      ⊎_elim
      (λ l. (k.at.count ∙ l.0, l.1))
      (λ l. absurd (omega (arith, ap length (sym q ∙ l.1), name_length)))
      k.shaped

  to_text : lit_of k.entry ≡ name_literal → same_node attribute_text (node_at_lem s firsts sizes children e) ≡ true
  unfolding attribute_text with_kids with_literal numbered_entry from
  to_text h =
      let (nil, byte) = bare (ap (λ (l : Literal). l.1) h) in
      let number : number_of all (lit_of k.entry) ≡ 0 = ap (number_of all) h ∙ first_number in
      let none : kids ≡ [] = rw nil in
      let n : with_kids kids (numbered_entry all k.entry) ≡ attribute_text =
      λ i. record { tag = (h i).0; literal = number i; byte = byte i; kids = none i }
      in
      rw (node_is s offsets firsts sizes children e k, n) (node_same attribute_text)

  from-text : same_node attribute_text (node_at_lem s firsts sizes children e) ≡ true → (lit_of k.entry ≡ name_literal) × (kids ≡ [])
  unfolding attribute_text with_kids with_literal numbered_entry
  from-text h =
      let n : attribute_text ≡ with_kids kids (numbered_entry all k.entry) =
      same_node-equal attribute_text (node_at_lem s firsts sizes children e) h ∙ node_is s offsets firsts sizes children e k
      in (
        number_of-inj all (lit_of k.entry) name_literal k.among first_among (sym (ap (λ (n : Node). n.literal) n) ∙ sym first_number),
        sym (ap (λ (n : Node). n.kids) n),
      )

  text_told : same_literal (lit_of k.entry) name_literal ≡ same_node attribute_text (node_at_lem s firsts sizes children e)
  text_told =
      tests_agree (same_literal (lit_of k.entry) name_literal) (same_node attribute_text (node_at_lem s firsts sizes children e))
      (λ h. to_text (same_literal-true (lit_of k.entry) name_literal h))
      (λ h. rw (from-text h).0 (same_literal-refl name_literal))

  text_hash : same_node attribute_text (node_at_lem s firsts sizes children e) ≡ true → hash_at s firsts sizes children e ≡ hash_bytes 1 attribute_name
  unfolding hash_node
  text_hash h =
      let (lit, none) = from-text h in
      hash_is s offsets firsts sizes children e k
      ∙ ap (hash_node k.entry) none
      ∙ ap (λ (l : Literal). hash_bytes l.0 l.1) lit

-- OVER THE STORE

pub attribute-keyed : (h : ℕ) (s : List ℕ) (t : Store) → EnteredIn s t → NodesIn h s t → Keyed s t attribute_text (hash_bytes 1 attribute_name)
attribute-keyed h s t all g i less =
    let x = get_or (t NODES) i 0 in
    text_hash s (t OFFSETS) (t FIRSTS) (t SIZES) (t CHILDREN) x (known s (t OFFSETS) (t FIRSTS) (t SIZES) x all (g.inside i less))

pub attribute-told :
    (s : List ℕ) (t : Store) (e : ℕ) → EnteredIn s t → e < entries_in s → (at : ℕ) → at ≡ get_or (t OFFSETS) e 0 →
    (r : Bool) → WhatEntry s at (λ x. r ≡ same_literal (x.tag, x.literal) name_literal) →
    r ≡ same_node attribute_text (node_in_lem s t e)
attribute-told s t e all low at is r h =
    let k = known s (t OFFSETS) (t FIRSTS) (t SIZES) e all low in
    h k.entry k.at.next (stands_at s (t OFFSETS) (t FIRSTS) (t SIZES) (t CHILDREN) e k at is)
    ∙ text_told s (t OFFSETS) (t FIRSTS) (t SIZES) (t CHILDREN) e k

module _ (s p w : List ℕ) (work : Work s p) (g : NodesIn (size p NODE-HEADS) s (store p w)) where
  room : node_count (store p w) ≤ length (store p w NODES)
  room = omega (arith, g.few, length-store p w NODES, (work-sizes s p work).nodes, entries-counted s)

  pub attribute-found :
      (k : ℕ) → Sought (Is s (store p w) attribute_text) (node_count (store p w)) (link_of (Some k)) →
      k ≡ position (same_node attribute_text) (nodes_in s (store p w))
  attribute-found k sought =
      let t = store p w in
      let z : k + 1 - 1 ≡ k = omega arith in
      rw z at (position-old (size p NODE-HEADS) s (t FIRSTS) (t SIZES) (t CHILDREN) (t NODES) (t NODE-HEADS) (t NODE-LINKS) (node_count t) attribute_text g room (k + 1) sought (omega arith))

  pub attribute-missing :
      Sought (Is s (store p w) attribute_text) (node_count (store p w)) (link_of None) → (r : ℕ) → r ≡ node_count (store p w) →
      r ≡ position (same_node attribute_text) (nodes_in s (store p w))
  attribute-missing miss r q =
      let t = store p w in
      q ∙ position-new (size p NODE-HEADS) s (t FIRSTS) (t SIZES) (t CHILDREN) (t NODES) (t NODE-HEADS) (t NODE-LINKS) (node_count t) attribute_text g room miss
