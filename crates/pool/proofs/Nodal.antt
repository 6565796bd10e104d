-- A node's words: where its entry stands, its tag, and its children. Assumes nothing.
use mathlib.Core.List.{List}
use mathlib.Core.Option.{some}
use mathlib.Core.Path.{◌≡◌, ap, ◌∙◌}
use Prim.Native.Nat.{ℕ, ◌+◌, ◌≤◌, ◌<◌}
use native.Mathlib.Omega.{arith}
use lib.ListN.{length, get_or, get_elem?, take, length-take}
use lib.Seq.{get_or-take, get_or-set_same}
use Rattle.definition.specs.Shapes.{with_kids, with_literal}
use Rattle.definition.specs.Numbering.{numbered_entry}
use Rattle.definition.specs.Definitions.{tag_at}
use Rattle.definition.specs.Building.{kids_of}
use Rattle.facts.proofs.Lists.{read_found, map_at}
use Rattle.job.specs.Stored.{EntryStands, WhatEntry}
use Rattle.store.specs.Store.{Store, size, put}
use Rattle.store.specs.JobIn.{entries_in}
use Rattle.store.specs.Regions.{COUNTS, RECORDS, OFFSETS, FIRSTS, SIZES, CHILDREN, NODES, PLACE}
use Rattle.store.specs.Words.{cut}
use Rattle.interner.specs.Nodes.{node_in_lem, node_count, nodes_in, record_in}
use Rattle.interner.proofs.Shaped.{Known, known, node_is}
use Rattle.interner.proofs.Alike.{stands_at}
use Rattle.interner.proofs.Reading.{Places, places, stands, kids_fit}
use Rattle.store.proofs.Laying.{work-sizes, entries-counted}
use Rattle.pool.specs.Pooled.{NodesThere, place_count}

-- PLACE was set to the record of node k, which is that of entry e
pub place_told :
    (t u : Store) (k e place : ℕ) → PLACE < length (t COUNTS) → e ≡ get_or (t NODES) k 0 → place ≡ get_or (t RECORDS) e 0 →
    u ≡ put t COUNTS PLACE place → place_count u ≡ record_in t k
place_told t u k e place room entry record' is = rw (is, get_or-set_same (t COUNTS) PLACE place 0 room, record', entry)

module _ (s p : List ℕ) (t : Store) (there : NodesThere s p t) (k : ℕ) (low : k < node_count t) where
  -- the entry that it was made from
  abbrev pub entry_of : ℕ
  entry_of = get_or (t NODES) k 0

  pub entry_low : entry_of < entries_in s
  entry_low = there.2.inside k low

  pub entry_places : Places p entry_of
  entry_places = places s p there.0 entry_of entry_low

  pub node_place_lem : k < size p NODES
  node_place_lem = omega (arith, there.2.few, (work-sizes s p there.0).nodes, entries-counted s)

  -- what is asked to tell its record
  pub record_asks : (PLACE < size p COUNTS) × (k < size p NODES) × (entry_of < size p RECORDS)
  record_asks =
      let z = work-sizes s p there.0 in
      (omega (arith, z.counts), node_place_lem, omega (arith, entry_low, z.records, entries-counted s))

  pub node_stands : (at : ℕ) → at ≡ get_or (t OFFSETS) entry_of 0 → EntryStands s at
  node_stands = stands s t entry_of there.1 entry_low

  pub node_kids_fit :
      (first n : ℕ) → first ≡ get_or (t FIRSTS) entry_of 0 → n ≡ get_or (t SIZES) entry_of 0 → first + n ≤ size p CHILDREN
  node_kids_fit = kids_fit s t entry_of there.1 entry_low p there.0

  abbrev the : Known s (t OFFSETS) (t FIRSTS) (t SIZES) entry_of
  the = known s (t OFFSETS) (t FIRSTS) (t SIZES) entry_of there.1 entry_low

  module _ (long : length (t NODES) ≡ size p NODES) where
    pub node_found : get_elem? (nodes_in s t) k ≡ some (node_in_lem s t entry_of)
    node_found =
        let h : k < length (take (node_count t) (t NODES)) = omega (arith, length-take (node_count t) (t NODES), node_place_lem) in
        map_at (node_in_lem s t) (take (node_count t) (t NODES)) k entry_of
        (read_found (take (node_count t) (t NODES)) k 0 h ∙ ap some (get_or-take (node_count t) (t NODES) k 0 low))

    pub node_tag : (at tag : ℕ) → at ≡ get_or (t OFFSETS) entry_of 0 → WhatEntry s at (λ x. tag ≡ x.tag) → tag ≡ tag_at (nodes_in s t) k
    unfolding tag_at with_kids numbered_entry with_literal
    node_tag at tag is h =
        rw (
          node_found,
          tag_at,
          node_is s (t OFFSETS) (t FIRSTS) (t SIZES) (t CHILDREN) entry_of the,
          h the.entry the.at.next (stands_at s (t OFFSETS) (t FIRSTS) (t SIZES) (t CHILDREN) entry_of the at is),
        )

    pub node_kids :
        (first n : ℕ) → first ≡ get_or (t FIRSTS) entry_of 0 → n ≡ get_or (t SIZES) entry_of 0 →
        kids_of (nodes_in s t) k ≡ cut (t CHILDREN) first n
    unfolding kids_of with_kids
    node_kids first n f m =
        rw (node_found, kids_of, node_is s (t OFFSETS) (t FIRSTS) (t SIZES) (t CHILDREN) entry_of the, f, m)
