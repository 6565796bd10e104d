-- Building (document 01, "Building"): slots for all constants reached, bootstrap indexes, and what each slot holds. Assumes nothing.
use Rattle.std.specs.Prelude.{Bool, true, false, List, [], ◌∷◌, ◌++◌, reverse, ℕ, zero, suc, ◌+◌, ◌-◌, eqb, ltb, length, get_or, replicate}
use Rattle.std.proofs.Math.Option.{Option, none, some}
use Rattle.std.proofs.Math.ListN.{get_elem?}
use Rattle.definition.specs.Basics.{Result, good, bad, ◌>>=◌, Refusal, at_record, unless, same, position, lookup}
use Rattle.definition.specs.Settings.{known}
use Rattle.definition.specs.Shapes.{bootstrap_tag, Entry, with_kids, is_wide}
use Rattle.definition.specs.Numbering.{attribute_number}
use Rattle.definition.specs.Definitions.{tag_at}
use Rattle.definition.specs.Resolving.{Node, first_node, same_node, intern}
use Rattle.definition.specs.Slots.{Slots, slot_for}

-- the gaps and positions; slots given out, as node and slot; the building stack, its top first, as slot and node; and the version that
-- constants are held to
pub record Pool : Type 0 where
  pub slots : Slots
  pub given : List (ℕ × ℕ)
  pub pending : List (ℕ × ℕ)
  pub version : ℕ

-- 14: no slot, ordinary request; 15: no slot, ldc request
unfoldable pub no_slot : Bool → ℕ
no_slot true = 15
no_slot false = 14

-- a new slot for a node, which goes onto the stack; 14 or 15 if there is none
unfoldable pub give : Bool → ℕ → Pool → Option (ℕ × Slots) → Result ℕ (ℕ × Pool)
give ldc k p none = bad (no_slot ldc)
give ldc k p (some r) = good (r.0, record { slots = r.1; given = (k, r.0) ∷ p.given; pending = (r.0, k) ∷ p.pending; version = p.version })

-- a slot for a node: the one that it has, else a new one
unfoldable pub allocate : List Node → Bool → ℕ → Pool → Result ℕ (ℕ × Pool)
allocate nodes ldc k p =
    elim (lookup k p.given) [
      | none ↦ give ldc k p (slot_for (is_wide (tag_at nodes k)) ldc p.slots)
      | some s ↦ good (s, p)
    ]

-- the slot of a child: a raw number is itself
unfoldable pub slot_of : List Node → Bool → ℕ → Pool → Result ℕ (ℕ × Pool)
slot_of nodes ldc child p = elim (ltb child first_node) [ true ↦ good (child, p) | false ↦ allocate nodes ldc (child - first_node) p ]

-- how a child's slot is come by (document 02, No. 6): it is a raw number, or the node gets a slot now, or has one
pub data Origin : Type 0 where
  raw new old : Origin

unfoldable pub origin_of : ℕ → Pool → Origin
origin_of child p =
    elim (ltb child first_node) [ true ↦ raw | false ↦ elim (lookup (child - first_node) p.given) [ none ↦ new | some s ↦ old ] ]

-- the number that marks it in the outputs
unfoldable pub mark_of : Origin → ℕ
mark_of raw = 0
mark_of new = 1
mark_of old = 2

-- children's slots, left to right; from here on a refusal tells the node that it is met at
unfoldable pub slots_of : List Node → List ℕ → Pool → Result Refusal (List ℕ × Pool)
slots_of nodes [] p = good ([], p)
slots_of nodes (child ∷ children) p =
    at_record (child - first_node) (slot_of nodes false child p) >>= λ r.
    slots_of nodes children r.1 >>= λ rest.
    good (r.0 ∷ rest.0, rest.1)

-- a row of the bootstrap table: the handle's slot, then the arguments'
abbrev pub Row : Type 0
Row = List ℕ

-- rows so far, raw rows that wait for their index, by rising index, and inline rows with theirs
pub record Rows : Type 0 where
  pub written : List Row
  pub waiting : List (ℕ × Row)
  pub inline : List (Row × ℕ)

-- raw rows whose index is next are written
unfoldable pub write_raw : List Row → List (ℕ × Row) → List Row × List (ℕ × Row)
write_raw written [] = (written, [])
write_raw written (r ∷ waiting) =
    elim (eqb r.0 (length written)) [ true ↦ write_raw (written ++ r.1 ∷ []) waiting | false ↦ (written, r ∷ waiting) ]

unfoldable pub index_of : Row → List (Row × ℕ) → Option ℕ
index_of row [] = none
index_of row (r ∷ inline) = elim (same row r.0) [ true ↦ some r.1 | false ↦ index_of row inline ]

-- a row takes the next index: 17 if all 65,535 are used
unfoldable pub take_index : Row → List (Row × ℕ) → List Row × List (ℕ × Row) → Result ℕ (ℕ × Rows)
take_index row inline r =
    elim (ltb (length r.0) 65535) [
      | true ↦ good (length r.0, record { written = r.0 ++ row ∷ []; waiting = r.1; inline = (row, length r.0) ∷ inline })
      | false ↦ bad 17
    ]

-- an inline row with the same numbers as an earlier inline one shares its index
unfoldable pub row_index : Row → Rows → Result ℕ (ℕ × Rows)
row_index row rows =
    elim (index_of row rows.inline) [
      | none ↦ take_index row rows.inline (write_raw rows.written rows.waiting)
      | some i ↦ good (i, rows)
    ]

-- at the end each hole repeats the next raw row above it
unfoldable pub fill_holes : List Row → List (ℕ × Row) → List Row
fill_holes written [] = written
fill_holes written (r ∷ waiting) = fill_holes (written ++ replicate (suc r.0 - length written) r.1) waiting

-- what building has made: slots, bootstrap rows, and the slots that hold a finished entry
pub record Made : Type 0 where
  pub pool : Pool
  pub rows : Rows
  pub owned : List (ℕ × Entry ℕ ℕ)

unfoldable pub kids_of : List Node → ℕ → List ℕ
kids_of nodes k = elim (get_elem? nodes k) [ none ↦ [] | some n ↦ n.kids ]

-- the number that stands for a node in its parent: an inline bootstrap's index, once its children have slots, or a slot
unfoldable pub node_number : List Node → ℕ → Pool → Rows → Result Refusal (ℕ × Pool × Rows)
node_number nodes k p rows =
    elim (eqb (tag_at nodes k) bootstrap_tag) [
      | true ↦
          slots_of nodes (kids_of nodes k) p >>= λ r.
          at_record k (row_index r.0 rows) >>= λ i.
          good (i.0, r.1, i.1)
      | false ↦ at_record k (allocate nodes false k p) >>= λ r. good (r.0, r.1, rows)
    ]

unfoldable pub child_number : List Node → ℕ → Pool → Rows → Result Refusal (ℕ × Pool × Rows)
child_number nodes child p rows =
    elim (ltb child first_node) [ true ↦ good (child, p, rows) | false ↦ node_number nodes (child - first_node) p rows ]

unfoldable pub child_numbers : List Node → List ℕ → Pool → Rows → Result Refusal (List ℕ × Pool × Rows)
child_numbers nodes [] p rows = good ([], p, rows)
child_numbers nodes (child ∷ children) p rows =
    child_number nodes child p rows >>= λ r.
    child_numbers nodes children r.1 r.2 >>= λ rest.
    good (r.0 ∷ rest.0, rest.1, rest.2)

-- a slot's node, taken from the stack: its children in field order, then the slot holds the finished entry
unfoldable pub finish : List Node → ℕ → Made → Option Node → Result Refusal Made
finish nodes s m none = good m
finish nodes s m (some n) =
    child_numbers nodes n.kids m.pool m.rows >>= λ r.
    good (record { pool = r.1; rows = r.2; owned = (s, with_kids r.0 n) ∷ m.owned })

unfoldable pub with_pending : List (ℕ × ℕ) → Made → Made
with_pending pending m =
    record {
      pool = record { slots = m.pool.slots; given = m.pool.given; pending = pending; version = m.pool.version };
      rows = m.rows;
      owned = m.owned;
    }

-- takes from the building stack until it is empty: 24 unless the version has the constant's kind, then its children; 0 would tell that
-- the fuel ran out
unfoldable pub drain : ℕ → List Node → List (ℕ × ℕ) → Made → Result Refusal Made
drain zero nodes [] m = good m
drain zero nodes (top ∷ pending) m = bad (record { code = 0; place = top.1 })
drain (suc fuel) nodes [] m = good m
drain (suc fuel) nodes (top ∷ pending) m =
    at_record top.1 (unless (known m.pool.version (tag_at nodes top.1)) 24) >>= λ _.
    finish nodes top.0 (with_pending pending m) (get_elem? nodes top.1) >>= λ m'.
    drain fuel nodes m'.pool.pending m'

-- raw bootstraps get their children's slots by falling index; given by falling index, the rows come out by rising index
unfoldable pub raw_rows : List Node → List (ℕ × ℕ) → Pool → List (ℕ × Row) → Result Refusal (List (ℕ × Row) × Pool)
raw_rows nodes [] p rows = good (rows, p)
raw_rows nodes (r ∷ falling) p rows =
    slots_of nodes (kids_of nodes r.1) p >>= λ row. raw_rows nodes falling row.1 ((r.0, row.0) ∷ rows)

-- raw bootstraps, then the stack; each node gets at most one slot, so it is taken from no more often than it has items now and there
-- are nodes
unfoldable pub build_all : List Node → List (ℕ × ℕ) → Pool → Result Refusal Made
build_all nodes indexes p =
    raw_rows nodes (reverse indexes) p [] >>= λ r.
    drain
    (length r.1.pending + length nodes)
    nodes
    r.1.pending
    (record { pool = r.1; rows = record { written = []; waiting = r.0; inline = [] }; owned = [] })

-- the text "BootstrapMethods"
unfoldable pub attribute_text : Node
attribute_text = record { tag = 1; literal = attribute_number; byte = 0; kids = [] }

-- is the name wanted: always, if there are bootstraps, never
unfoldable pub name_wanted : ℕ → ℕ → Bool
name_wanted zero bootstraps = true
name_wanted (suc zero) bootstraps = ltb 0 bootstraps
name_wanted (suc (suc n)) bootstraps = false

-- the name, if wanted, gets a slot as an ordinary request; 0: none
unfoldable pub name_slot : Bool → List Node → Made → Result ℕ (ℕ × Made)
name_slot false nodes m = good (0, m)
name_slot true nodes m =
    allocate (intern attribute_text nodes) false (position (same_node attribute_text) nodes) m.pool >>= λ r.
    good (r.0, record { pool = r.1; rows = m.rows; owned = (r.0, attribute_text) ∷ m.owned })

-- what a slot holds: nothing (slot 0, the second half of a wide one), the empty text (nobody owns it), or an entry
pub data Content : Type 0 where
  nothing : Content
  empty_text : Content
  holds : Entry ℕ ℕ → Content

-- a slot with no entry of its own, by what the slot before it holds: nothing behind a wide one, else the empty text
unfoldable pub behind : Option (Entry ℕ ℕ) → Content
behind none = empty_text
behind (some e) = elim (is_wide e.tag) [ true ↦ nothing | false ↦ empty_text ]

-- what a slot holds; nothing is owned at or past the count, so such a slot holds the empty text
unfoldable pub content_of : List (ℕ × Entry ℕ ℕ) → ℕ → Content
content_of owned zero = nothing
content_of owned (suc s) = elim (lookup (suc s) owned) [ none ↦ behind (lookup s owned) | some e ↦ holds e ]

-- a text that a slot holds: none, the empty one, or a literal
unfoldable pub text_in : Content → Option (Option ℕ)
text_in nothing = none
text_in empty_text = some none
text_in (holds e) = elim (eqb e.tag 1) [ true ↦ some (some e.literal) | false ↦ none ]

-- a class name is given if the class slot holds a Class whose slot holds a text
unfoldable pub class_name : List (ℕ × Entry ℕ ℕ) → Content → Option (Option ℕ)
class_name owned nothing = none
class_name owned empty_text = none
class_name owned (holds e) = elim (eqb e.tag 7) [ true ↦ text_in (content_of owned (get_or e.kids 0 0)) | false ↦ none ]
