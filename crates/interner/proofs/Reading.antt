-- What the code reads of an entry is what its hash and its comparison go by; and the places that it reads at are there. Assumes nothing.
use mathlib.Core.Bool.{Bool, false}
use mathlib.Core.List.{List}
use mathlib.Core.Path.{◌≡◌, sym, ◌∙◌}
use Prim.Native.Nat.{ℕ, ◌+◌, ◌*◌, ◌≤◌, ◌<◌}
use native.Mathlib.Omega.{arith}
use lib.ListN.{length, get_or}
use Rattle.definition.specs.Basics.{same}
use Rattle.definition.specs.Job.{define}
use Rattle.definition.specs.Resolving.{same_node}
use Rattle.job.specs.Stored.{Found, EntryStands, WhatEntry, any_definition}
use Rattle.store.specs.Store.{Store, size, IsWord}
use Rattle.store.specs.Chains.{Heads}
use Rattle.store.specs.JobIn.{entries_in}
use Rattle.store.specs.Regions.{COUNTS, NODE-HEADS, NODE-LINKS, OFFSETS, FIRSTS, SIZES, CHILDREN, NODES, VALUES, NODE-COUNT, Work}
use Rattle.store.specs.Entries.{WordsAt}
use Rattle.store.specs.Words.{cut}
use Rattle.store.proofs.Bounds.{small}
use Rattle.store.proofs.Laying.{work-sizes, work-formed, entries-counted}
use Rattle.interner.specs.Nodes.{hash_bytes, hash_words, hash_in, node_in_lem, EnteredIn}
use Rattle.interner.proofs.Shaped.{Known, known}
use Rattle.interner.proofs.Alike.{stands_at, hash_literal, hash_children, unlike-tags, unlike-sizes, unlike-bytes, like_literals, like_children}

-- PLACES

-- an entry, or a node, has its place in each region of entries
pub record Places (p : List ℕ) (e : ℕ) : Type 0 where
  pub offsets : e < size p OFFSETS
  pub firsts : e < size p FIRSTS
  pub sizes : e < size p SIZES
  pub nodes : e < size p NODES
  pub links : e < size p NODE-LINKS
  pub small : IsWord (e + 1)

module _ (s p : List ℕ) (work : Work s p) where
  pub places : (e : ℕ) → e < entries_in s → Places p e
  places e h =
      let z = work-sizes s p work in
      let n = entries-counted s in
      let b = small s (work-formed s p work) in
      record {
        offsets = omega (arith, z.offsets);
        firsts = omega (arith, z.firsts);
        sizes = omega (arith, z.sizes);
        nodes = omega (arith, z.nodes);
        links = omega (arith, z.node_links);
        small = omega (arith, b.entries);
      }

  pub short_job : IsWord (length s)
  short_job = omega (arith, (small s (work-formed s p work)).bytes)

  pub node_heads : Heads p NODE-HEADS
  node_heads =
      let z = work-sizes s p work in
      let n = entries-counted s in
      let b = small s (work-formed s p work) in
      record { real = omega arith; two = omega (arith, z.node_heads); few = omega (arith, z.node_heads, b.entries) }

  pub counter_there : NODE-COUNT < size p COUNTS
  counter_there = omega (arith, (work-sizes s p work).counts)

module _ (s : List ℕ) (t : Store) (e : ℕ) (all : EnteredIn s t) (low : e < entries_in s) where
  abbrev the : Known s (t OFFSETS) (t FIRSTS) (t SIZES) e
  the = known s (t OFFSETS) (t FIRSTS) (t SIZES) e all low

  -- an entry stands at its place, and its children have room
  pub stands : (at : ℕ) → at ≡ get_or (t OFFSETS) e 0 → EntryStands s at
  stands at is = (the.entry, the.at.next, stands_at s (t OFFSETS) (t FIRSTS) (t SIZES) (t CHILDREN) e the at is)

  pub words_at : (at : ℕ) → at ≡ get_or (t OFFSETS) e 0 → WordsAt s (t VALUES) at
  words_at at is = rw is (all.worked e low)

  pub kids_fit : (p : List ℕ) → Work s p → (first n : ℕ) → first ≡ get_or (t FIRSTS) e 0 → n ≡ get_or (t SIZES) e 0 → first + n ≤ size p CHILDREN
  kids_fit p work first n is size = omega (arith, the.at.room, (work-sizes s p work).children)

  -- as many as another has
  pub kids_fit_too :
      (p : List ℕ) → Work s p → (first m n : ℕ) → first ≡ get_or (t FIRSTS) e 0 → m ≡ get_or (t SIZES) e 0 → m ≡ n → first + n ≤ size p CHILDREN
  kids_fit_too p work first m n is size even = kids_fit p work first n is (sym even ∙ size)

  module _ (at : ℕ) (is : at ≡ get_or (t OFFSETS) e 0) where
    found : Found any_definition s at (define the.entry) the.at.next
    found = stands_at s (t OFFSETS) (t FIRSTS) (t SIZES) (t CHILDREN) e the at is

    -- ITS HASH

    pub hashed_literal : (r n : ℕ) → n ≡ get_or (t SIZES) e 0 → n ≡ 0 → WhatEntry s at (λ x. r ≡ hash_bytes x.tag x.literal) → r ≡ hash_in s t e
    hashed_literal r n size nil h =
        hash_literal s (t OFFSETS) (t FIRSTS) (t SIZES) (t CHILDREN) e the r n size nil (h the.entry the.at.next found)

    pub hashed_children :
        (r n first tag byte : ℕ) → n ≡ get_or (t SIZES) e 0 → (n ≡ 0 → ⊥) → first ≡ get_or (t FIRSTS) e 0 →
        WhatEntry s at (λ x. tag ≡ x.tag) → WhatEntry s at (λ x. byte ≡ x.byte) →
        r ≡ hash_words (tag * 256 + byte) (cut (t CHILDREN) first n) →
        r ≡ hash_in s t e
    hashed_children r n first tag byte size some from h b =
        hash_children s (t OFFSETS) (t FIRSTS) (t SIZES) (t CHILDREN) e the r n first tag byte size some from
        (h the.entry the.at.next found)
        (b the.entry the.at.next found)

-- THE COMPARISON of two

module _
    (s : List ℕ) (t : Store) (a b : ℕ) (all : EnteredIn s t) (la : a < entries_in s) (lb : b < entries_in s)
    (at other : ℕ) (is : at ≡ get_or (t OFFSETS) a 0) (there : other ≡ get_or (t OFFSETS) b 0) where
  abbrev ka : Known s (t OFFSETS) (t FIRSTS) (t SIZES) a
  ka = known s (t OFFSETS) (t FIRSTS) (t SIZES) a all la

  abbrev kb : Known s (t OFFSETS) (t FIRSTS) (t SIZES) b
  kb = known s (t OFFSETS) (t FIRSTS) (t SIZES) b all lb

  fa : Found any_definition s at (define ka.entry) ka.at.next
  fa = stands_at s (t OFFSETS) (t FIRSTS) (t SIZES) (t CHILDREN) a ka at is

  fb : Found any_definition s other (define kb.entry) kb.at.next
  fb = stands_at s (t OFFSETS) (t FIRSTS) (t SIZES) (t CHILDREN) b kb other there

  pub tags_differ : (u v : ℕ) → WhatEntry s at (λ x. u ≡ x.tag) → WhatEntry s other (λ y. v ≡ y.tag) → (u ≡ v → ⊥) → false ≡ same_node (node_in_lem s t a) (node_in_lem s t b)
  tags_differ u v hu hv =
      unlike-tags s (t OFFSETS) (t FIRSTS) (t SIZES) (t CHILDREN) a b ka kb u v (hu ka.entry ka.at.next fa) (hv kb.entry kb.at.next fb)

  pub sizes_differ : (m n : ℕ) → n ≡ get_or (t SIZES) a 0 → m ≡ get_or (t SIZES) b 0 → (m ≡ n → ⊥) → false ≡ same_node (node_in_lem s t a) (node_in_lem s t b)
  sizes_differ m n = unlike-sizes s (t OFFSETS) (t FIRSTS) (t SIZES) (t CHILDREN) a b ka kb m n

  pub bytes-differ : (u v : ℕ) → WhatEntry s at (λ x. u ≡ x.byte) → WhatEntry s other (λ y. v ≡ y.byte) → (u ≡ v → ⊥) → false ≡ same_node (node_in_lem s t a) (node_in_lem s t b)
  bytes-differ u v hu hv =
      unlike-bytes s (t OFFSETS) (t FIRSTS) (t SIZES) (t CHILDREN) a b ka kb u v (hu ka.entry ka.at.next fa) (hv kb.entry kb.at.next fb)

  -- where tags and sizes are the same
  module _
      (u v m n : ℕ) (hu : WhatEntry s at (λ x. u ≡ x.tag)) (hv : WhatEntry s other (λ y. v ≡ y.tag)) (tags : u ≡ v)
      (size : n ≡ get_or (t SIZES) a 0) (size' : m ≡ get_or (t SIZES) b 0) (even : m ≡ n) where
    pub by_literals : n ≡ 0 → (r : Bool) → WhatEntry s at (λ x. WhatEntry s other (λ y. r ≡ same x.literal y.literal)) → r ≡ same_node (node_in_lem s t a) (node_in_lem s t b)
    by_literals nil r h =
        like_literals s (t OFFSETS) (t FIRSTS) (t SIZES) (t CHILDREN) a b ka kb u v m n
        (hu ka.entry ka.at.next fa) (hv kb.entry kb.at.next fb) tags size size' even nil r
        (h ka.entry ka.at.next fa kb.entry kb.at.next fb)

    pub by_children :
        (n ≡ 0 → ⊥) → (f g : ℕ) → WhatEntry s at (λ x. f ≡ x.byte) → WhatEntry s other (λ y. g ≡ y.byte) → f ≡ g →
        (i j : ℕ) → i ≡ get_or (t FIRSTS) a 0 → j ≡ get_or (t FIRSTS) b 0 →
        (r : Bool) → r ≡ same (cut (t CHILDREN) i n) (cut (t CHILDREN) j n) → r ≡ same_node (node_in_lem s t a) (node_in_lem s t b)
    by_children some f g hf hg =
        like_children s (t OFFSETS) (t FIRSTS) (t SIZES) (t CHILDREN) a b ka kb u v m n
        (hu ka.entry ka.at.next fa) (hv kb.entry kb.at.next fb) tags size size' even some f g
        (hf ka.entry ka.at.next fa) (hg kb.entry kb.at.next fb)
