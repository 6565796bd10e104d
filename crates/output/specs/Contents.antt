-- What the finished words say: the number of a child, a node's entry as it is shown, and what a slot holds. Assumes nothing.
use Rattle.std.specs.Prelude.{Bool, true, false, List, [], ◌∷◌, ◌++◌, map, ◌⊎◌, ◌≡◌, ℕ, zero, suc, ◌+◌, ◌-◌, ◌≤◌, ◌<◌, eqb, ltb, get_or, unwrap_or}
use Rattle.std.proofs.Math.Option.{Option, none, some}
use Rattle.std.proofs.Math.ListN.{get_elem?}
use Rattle.definition.specs.Basics.{from, concat}
use Rattle.definition.specs.Bytes.{be2}
use Rattle.definition.specs.Shapes.{Entry, with_kids, is_wide}
use Rattle.definition.specs.Numbering.{attribute_name}
use Rattle.definition.specs.Run.{slot_bytes}
use Rattle.store.specs.Store.{Store, size, Kept}
use Rattle.store.specs.Chains.{last, Heads, NumbersIn}
use Rattle.store.specs.JobIn.{table_in, entries_in, constants_in}
use Rattle.store.specs.Regions.{COUNTS, MARKS, GIVEN, INDEXES, RAW-HEADS, OWNER-HEADS, OWNER-LINKS, FIRSTS, SIZES, CHILDREN, RAW-KEYS, RAW-ENTRIES, ORDER, NODES, HELD-COUNT, NAME-SLOT, POOL-COUNT}
use Rattle.store.specs.Words.{ENTRY, HALF, cut}
use Rattle.interner.specs.Nodes.{node_count, EnteredIn}
use Rattle.raws.specs.Raws.{raw_count, held_count}
use Rattle.output.specs.declared.Content.{Content}
use Rattle.output.specs.declared.Content.TheVariants as content
use Rattle.output.specs.declared.SlotWalk.{SlotWalk}

-- CHILDREN

-- the number of a child: of a bootstrap its index, of anything else its slot
unfoldable pub child_number : ℕ → List ℕ → List ℕ → List ℕ → ℕ → ℕ
child_number constants given indexes nodes x =
    elim (ltb x ENTRY) [
      | true ↦ x
      | false ↦
          elim (ltb (get_or nodes (x - ENTRY) 0) constants) [
            | true ↦ get_or given (x - ENTRY) 0
            | false ↦ get_or indexes (get_or nodes (x - ENTRY) 0 - constants) 0 - 1
          ]
    ]

-- what the code asks of a child whose number it reads, by the sizes of the regions
pub record ChildThere (p : List ℕ) (nodes indexes : List ℕ) (x : ℕ) : Type 0 where
  pub given : x < ENTRY + size p GIVEN
  pub nodes_there : x < ENTRY + size p NODES
  pub fewer : size p INDEXES ≤ size p MARKS
  pub inside : ENTRY ≤ x → get_or nodes (x - ENTRY) 0 < size p MARKS
  pub indexed :
      ENTRY ≤ x → size p MARKS - size p INDEXES ≤ get_or nodes (x - ENTRY) 0 →
      0 < get_or indexes (get_or nodes (x - ENTRY) 0 - (size p MARKS - size p INDEXES)) 0

-- a child that the code may ask for, whose number is one of two bytes
pub record ShortChild (p : List ℕ) (t : Store) (x : ℕ) : Type 0 where
  pub there : ChildThere p (t NODES) (t INDEXES) x
  pub small : child_number (size p MARKS - size p INDEXES) (t GIVEN) (t INDEXES) (t NODES) x < 65536

-- NODES

-- the number of node k's child i, and how many it has
abbrev pub child_at : List ℕ → List ℕ → List ℕ → ℕ → ℕ → ℕ
child_at firsts children nodes k i = get_or children (get_or firsts (get_or nodes k 0) 0 + i) 0

abbrev pub child_count : List ℕ → List ℕ → ℕ → ℕ
child_count sizes nodes k = get_or sizes (get_or nodes k 0) 0

-- the entry that node k is shown as: tag, literal and kind byte of the entry that it was made from, and its children's numbers
unfoldable pub finished : List ℕ → List ℕ → List ℕ → List ℕ → List ℕ → List ℕ → List ℕ → ℕ → Entry (List ℕ) ℕ
finished s firsts sizes children nodes given indexes k =
    elim (get_elem? (table_in s) (get_or nodes k 0)) [
      | none ↦ record { tag = 0; literal = []; byte = 0; kids = [] }
      | some x ↦
          with_kids
          (map
          (child_number (constants_in s) given indexes nodes)
          (cut children (get_or firsts (get_or nodes k 0) 0) (get_or sizes (get_or nodes k 0) 0)))
          x
    ]

abbrev pub finished_in : List ℕ → Store → ℕ → Entry (List ℕ) ℕ
finished_in s t k = finished s (t FIRSTS) (t SIZES) (t CHILDREN) (t NODES) (t GIVEN) (t INDEXES) k

abbrev pub number_in : List ℕ → Store → ℕ → ℕ
number_in s t x = child_number (constants_in s) (t GIVEN) (t INDEXES) (t NODES) x

-- nodes were made from entries of the job
pub record Made (s : List ℕ) (t : Store) : Type 0 where
  pub entered : EnteredIn s t
  pub few : node_count t ≤ entries_in s
  pub inside : (k : ℕ) → k < node_count t → get_or (t NODES) k 0 < entries_in s

-- a child has a number, of two bytes
pub record Numbered (constants count : ℕ) (given indexes nodes : List ℕ) (x : ℕ) : Type 0 where
  pub low : x < ENTRY + count
  pub indexed : ENTRY ≤ x → constants ≤ get_or nodes (x - ENTRY) 0 → 0 < get_or indexes (get_or nodes (x - ENTRY) 0 - constants) 0
  pub small : child_number constants given indexes nodes x < 65536

-- every child of node k has one
abbrev pub KidsNumbered : List ℕ → Store → ℕ → Type 0
KidsNumbered s t k =
    (i : ℕ) → i < child_count (t SIZES) (t NODES) k →
    Numbered (constants_in s) (node_count t) (t GIVEN) (t INDEXES) (t NODES) (child_at (t FIRSTS) (t CHILDREN) (t NODES) k i)

-- CONTENTS of slots

-- a text, as an entry
abbrev pub text_entry : List ℕ → Entry (List ℕ) ℕ
text_entry l = record { tag = 1; literal = l; byte = 0; kids = [] }

-- what a content shows, where `node` shows the nodes
unfoldable pub shown_word : (ℕ → Entry (List ℕ) ℕ) → Content → Option (Entry (List ℕ) ℕ)
shown_word node (content.Node k) = some (node k)
shown_word node content.Nothing = none
shown_word node content.Empty = some (text_entry [])
shown_word node content.Attribute = some (text_entry attribute_name)

abbrev pub shown_in : List ℕ → Store → Content → Option (Entry (List ℕ) ℕ)
shown_in s t c = shown_word (finished_in s t) c

-- a content is a node, and wide
unfoldable pub wide_word : (ℕ → Entry (List ℕ) ℕ) → Content → Bool
wide_word node (content.Node k) = is_wide (node k).tag
wide_word node content.Nothing = false
wide_word node content.Empty = false
wide_word node content.Attribute = false

abbrev pub wide_in : List ℕ → Store → Content → Bool
wide_in s t c = wide_word (finished_in s t) c

-- WHAT A SLOT HOLDS

-- a raw slot, by its entry
unfoldable pub raw_word_lem : List ℕ → ℕ → Content
raw_word_lem marks e = elim (eqb e HALF) [ true ↦ content.Nothing | false ↦ content.Node (get_or marks e 0 - 2) ]

-- by the link that a search for its raw item gave, else what it holds otherwise
unfoldable pub raw_or : List ℕ → List ℕ → ℕ → Content → Content
raw_or marks entries zero other = other
raw_or marks entries (suc i) other = raw_word_lem marks (get_or entries i 0)

-- by the link that a search for its node gave: that node, else nothing behind a wide one, else the empty text
unfoldable pub link_word : Bool → ℕ → Content
link_word wide zero = elim wide [ true ↦ content.Nothing | false ↦ content.Empty ]
link_word wide (suc k) = content.Node k

-- one more than the last of the first n places that has this number; 0 where there is none
abbrev pub link_of : List ℕ → ℕ → ℕ → ℕ
link_of keys n key = last (λ i. eqb (get_or keys i 0) key) n

-- none of the first n numbers is above this one
abbrev pub NoneAbove : List ℕ → ℕ → ℕ → Type 0
NoneAbove keys n top = (i : ℕ) → i < n → get_or keys i 0 ≤ top

-- a slot above 0, where `wide` tells whether the slot before holds a wide constant
unfoldable pub owner_word : ℕ → List ℕ → List ℕ → List ℕ → List ℕ → ℕ → ℕ → ℕ → Bool → Content
owner_word name marks given keys entries raws nodes slot wide =
    elim (eqb slot name) [
      | true ↦ content.Attribute
      | false ↦ raw_or marks entries (link_of keys raws slot) (link_word wide (link_of given nodes slot))
    ]

abbrev pub name_slot : Store → ℕ
name_slot t = get_or (t COUNTS) NAME-SLOT 0

abbrev pub pool_count : Store → ℕ
pool_count t = get_or (t COUNTS) POOL-COUNT 0

abbrev pub owner_in : Store → ℕ → Bool → Content
owner_in t slot wide = owner_word (name_slot t) (t MARKS) (t GIVEN) (t RAW-KEYS) (t RAW-ENTRIES) (raw_count t) (node_count t) slot wide

-- any slot, where `own` tells what those above 0 hold, and `wide` which contents are wide
unfoldable pub wide_at : (ℕ → Bool → Content) → (Content → Bool) → ℕ → Bool
wide_at own wide zero = false
wide_at own wide (suc n) = wide (own (suc n) false)

unfoldable pub content_word : (ℕ → Bool → Content) → (Content → Bool) → ℕ → Content
content_word own wide zero = content.Nothing
content_word own wide (suc n) = own (suc n) (wide_at own wide n)

abbrev pub content_in : List ℕ → Store → ℕ → Content
content_in s t slot = content_word (owner_in t) (wide_in s t) slot

-- the bytes of a slot
abbrev pub slot_in : List ℕ → Store → ℕ → List ℕ
slot_in s t slot = slot_bytes (shown_in s t (content_in s t slot))

-- the pool: its count, then what the slots from 1 to below it hold
abbrev pub pool_in : List ℕ → Store → List ℕ
pool_in s t = be2 (pool_count t) ++ concat (from (slot_in s t) 1 (pool_count t - 1))

-- a content that stands for something
abbrev pub IsContent : List ℕ → Store → Content → Type 0
IsContent s t (content.Node k) = (k < node_count t) × KidsNumbered s t k
IsContent s t content.Nothing = Unit {0}
IsContent s t content.Empty = Unit {0}
IsContent s t content.Attribute = Unit {0}

-- what the searches ask: the chains of raw items and of nodes, in which a number stands once, and the nodes of the raw items
pub record Searched (p : List ℕ) (t : Store) : Type 0 where
  pub named : NAME-SLOT < size p COUNTS
  pub raw_heads : Heads p RAW-HEADS
  pub raws : NumbersIn p t RAW-HEADS RAW-KEYS (raw_count t)
  pub raw_room : size p RAW-KEYS ≤ size p RAW-ENTRIES
  pub raw_alone : (i j : ℕ) → i < j → j < raw_count t → get_or (t RAW-KEYS) i 0 ≡ get_or (t RAW-KEYS) j 0 → ⊥
  pub raw_done :
      (i : ℕ) → i < raw_count t →
      (get_or (t RAW-ENTRIES) i 0 ≡ HALF) ⊎ ((get_or (t RAW-ENTRIES) i 0 < size p MARKS) × (1 < get_or (t MARKS) (get_or (t RAW-ENTRIES) i 0) 0))
  pub owner_heads : Heads p OWNER-HEADS
  pub owners : NumbersIn p t OWNER-HEADS GIVEN (node_count t)
  pub owner_alone : (j k : ℕ) → j < k → k < node_count t → 0 < get_or (t GIVEN) j 0 → get_or (t GIVEN) j 0 ≡ get_or (t GIVEN) k 0 → ⊥

-- the nodes that slots hold: those of raw items, and those with a slot; their children have numbers
pub record Owned (s : List ℕ) (t : Store) : Type 0 where
  pub made : Made s t
  pub raw_nodes :
      (i : ℕ) → i < raw_count t → (get_or (t RAW-ENTRIES) i 0 ≡ HALF → ⊥) →
      (get_or (t MARKS) (get_or (t RAW-ENTRIES) i 0) 0 < node_count t + 2) × KidsNumbered s t (get_or (t MARKS) (get_or (t RAW-ENTRIES) i 0) 0 - 2)
  pub given_nodes : (k : ℕ) → k < node_count t → 0 < get_or (t GIVEN) k 0 → KidsNumbered s t k

-- RAW SLOTS IN THEIR ORDER

-- the raw slot i by rising slot; past every slot where there is none
unfoldable pub held_at : List ℕ → List ℕ → ℕ → ℕ → ℕ
held_at keys order n i = elim (ltb i n) [ true ↦ get_or keys (get_or order i 0) 0 | false ↦ 65536 ]

abbrev pub held_in_lem : Store → ℕ → ℕ
held_in_lem t i = held_at (t RAW-KEYS) (t ORDER) (held_count t) i

-- the order has all raw slots, rising
pub record HeldOrder (p : List ℕ) (t : Store) : Type 0 where
  pub counted : HELD-COUNT < size p COUNTS
  pub room : held_count t ≤ size p ORDER
  pub keys_room : raw_count t ≤ size p RAW-KEYS
  pub entries_room : raw_count t ≤ size p RAW-ENTRIES
  pub inside : (j : ℕ) → j < held_count t → get_or (t ORDER) j 0 < raw_count t
  pub rise : (i j : ℕ) → i < j → j < held_count t → get_or (t RAW-KEYS) (get_or (t ORDER) i 0) 0 < get_or (t RAW-KEYS) (get_or (t ORDER) j 0) 0
  pub low : (j : ℕ) → j < held_count t → 1 ≤ get_or (t RAW-KEYS) (get_or (t ORDER) j 0) 0
  pub high : (j : ℕ) → j < held_count t → get_or (t RAW-KEYS) (get_or (t ORDER) j 0) 0 < 65536
  pub whole : (i : ℕ) → i < raw_count t → get_or (t RAW-KEYS) i 0 < 65536 → (j : ℕ) × (j < held_count t) × (get_or (t ORDER) j 0 ≡ i)

-- a walk over the slots, at one of them: so many raw slots are below it, and `held` is the next one
pub record Sweep (t : Store) (slot raws held : ℕ) : Type 0 where
  pub is : held ≡ held_in_lem t raws
  pub below : (j : ℕ) → j < raws → j < held_count t → get_or (t RAW-KEYS) (get_or (t ORDER) j 0) 0 < slot
  pub above : (j : ℕ) → raws ≤ j → j < held_count t → slot ≤ get_or (t RAW-KEYS) (get_or (t ORDER) j 0) 0

-- the same walk: what it has at the slot in turn
pub record Walked (s : List ℕ) (t : Store) (slot raws held : ℕ) (wide : Bool) : Type 0 where
  pub low : 1 ≤ slot
  pub high : slot ≤ pool_count t
  pub sweep : Sweep t slot raws held
  pub before : wide ≡ wide_at (owner_in t) (wide_in s t) (slot - 1)

-- the code's
pub record Walks (s : List ℕ) (t : Store) (slot : ℕ) (walk : SlotWalk) : Type 0 where
  pub name : walk.name ≡ name_slot t
  pub last : NoneAbove (t GIVEN) (node_count t) walk.last
  pub walked : Walked s t slot walk.raws (unwrap_or walk.held 65536) walk.wide

-- OWNERS

-- every node joined the chain of its slot: t before, u after
pub record OwnersMade (p : List ℕ) (t u : Store) : Type 0 where
  pub owners : NumbersIn p u OWNER-HEADS GIVEN (node_count u)
  pub kept : Kept (OWNER-HEADS ∷ OWNER-LINKS ∷ []) t u

-- ALL THAT IS FINISHED: what the outputs are read from
pub record Finished (s p : List ℕ) (t : Store) : Type 0 where
  pub sought : Searched p t
  pub owned : Owned s t
  pub order : HeldOrder p t
  pub counted : POOL-COUNT < size p COUNTS
  pub low : 1 ≤ pool_count t
  pub high : pool_count t < 65536
