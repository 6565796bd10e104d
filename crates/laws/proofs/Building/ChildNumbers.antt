-- Numbers that stand for a node's children, a slot or the index of a row, and what slots hold by them; all this stays as more is given.
-- Assumes nothing.
use mathlib.Core.Bool.{Bool, true, false}
use mathlib.Core.List.{List, [], ◌∷◌, ◌++◌}
use mathlib.Core.Logic.{◌⊎◌, inl, inr}
use mathlib.Core.Option.{none, some}
use mathlib.Core.Path.{◌≡◌, refl, sym, ap, ◌∙◌}
use Prim.Native.Nat.{ℕ, ◌-◌, ◌≤◌, ◌<◌}
use lib.Dec.{eqb, ltb}
use lib.ListN.{length, get_elem?}
use borrow.Author.Tests.{eqb-true}
use Rattle.definition.specs.Basics.{good, same, lookup, ◌>>=◌, at_record}
use Rattle.definition.specs.Shapes.{bootstrap_tag, Entry, with_kids}
use Rattle.definition.specs.Definitions.{tag_at}
use Rattle.definition.specs.Resolving.{Node, first_node}
use Rattle.definition.specs.Building.{Pool, allocate, slot_of, slots_of, Row, Rows, index_of, row_index, fill_holes, Made, kids_of, node_number, child_number, child_numbers, finish, with_pending}
use Rattle.facts.specs.Lists.{Among}
use Rattle.facts.proofs.Lists.{clash, none≢some, same_true, same_refl, found_append, among_later}
use Rattle.facts.proofs.Each.{Both, both-map}
use Rattle.facts.proofs.Results.{good_inj, good_first}
use Rattle.laws.proofs.Resolving.NodesAndChildren.{KidsIn}
use Rattle.laws.proofs.Slots.SlotsToHold.{to_hold}

-- ---- what is said

-- the number that stands for a child that is a constant: a raw number itself, or the slot given to its node
abbrev pub SlotFor : List (ℕ × ℕ) → ℕ → ℕ → Type 0
SlotFor given child n = ((child < first_node) × (n ≡ child)) ⊎ ((first_node ≤ child) × (lookup (child - first_node) given ≡ some n))

-- which rows an index is of: a row that stands there, or the inline row that is found with it
abbrev pub Indexing : Type 1
Indexing = ℕ → Row → Type 0

abbrev pub StandsIn : List Row → Indexing
StandsIn rows i row = get_elem? rows i ≡ some row

abbrev pub InlineIn : List (Row × ℕ) → Indexing
InlineIn inline i row = index_of row inline ≡ some i

-- the number that stands for any child: for a bootstrap node the index of a row that has its children's numbers
abbrev pub NumberBy : List Node → List (ℕ × ℕ) → Indexing → ℕ → ℕ → Type 0
NumberBy nodes given At child n =
    ((child < first_node) × (n ≡ child))
    ⊎ ((first_node ≤ child) × (tag_at nodes (child - first_node) ≡ bootstrap_tag → ⊥) × (lookup (child - first_node) given ≡ some n))
    ⊎ ((first_node ≤ child)
    × (tag_at nodes (child - first_node) ≡ bootstrap_tag)
    × (row : Row)
    × At n row
    × Both (SlotFor given) (kids_of nodes (child - first_node)) row)

abbrev pub NumberFor : List Node → List (ℕ × ℕ) → List Row → ℕ → ℕ → Type 0
NumberFor nodes given rows = NumberBy nodes given (StandsIn rows)

-- a slot holds a node of the list, with numbers that stand for its children
abbrev pub FinishedBy : List Node → List (ℕ × ℕ) → Indexing → List (ℕ × Entry ℕ ℕ) → ℕ → ℕ → Type 0
FinishedBy nodes given At owned s k =
    (nd : Node)
    × (ns : List ℕ)
    × (get_elem? nodes k ≡ some nd)
    × Among (s, with_kids ns nd) owned
    × Both (NumberBy nodes given At) nd.kids ns

abbrev pub FinishedAt : List Node → List (ℕ × ℕ) → List Row → List (ℕ × Entry ℕ ℕ) → ℕ → ℕ → Type 0
FinishedAt nodes given rows = FinishedBy nodes given (StandsIn rows)

-- what a slot holds is such a node, and it is to hold it
abbrev pub OwnerBy : List Node → List (ℕ × ℕ) → List (ℕ × ℕ) → Indexing → ℕ → Entry ℕ ℕ → Type 0
OwnerBy nodes given raws At s e =
    (k : ℕ)
    × (nd : Node)
    × (ns : List ℕ)
    × (e ≡ with_kids ns nd)
    × (get_elem? nodes k ≡ some nd)
    × Among (s, k) (to_hold given raws)
    × Both (NumberBy nodes given At) nd.kids ns

abbrev pub OwnerOf : List Node → List (ℕ × ℕ) → List (ℕ × ℕ) → List Row → ℕ → Entry ℕ ℕ → Type 0
OwnerOf nodes given raws rows = OwnerBy nodes given raws (StandsIn rows)

-- a row has the slots of the children of a node, which is that of a raw bootstrap or a bootstrap that was reached
abbrev pub RowFrom : List Node → List (ℕ × ℕ) → List (ℕ × ℕ) → Row → Type 0
RowFrom nodes indexes given row =
    (k : ℕ) × Both (SlotFor given) (kids_of nodes k) row × (((i : ℕ) × Among (i, k) indexes) ⊎ (tag_at nodes k ≡ bootstrap_tag))

-- the rows that building ends with
abbrev pub rows_of : Made → List Row
rows_of m = fill_holes m.rows.written m.rows.waiting

-- nodes on the building stack are nodes of the list
abbrev pub StackIn : List Node → List (ℕ × ℕ) → Type 0
StackIn nodes pending = (s k : ℕ) → Among (s, k) pending → k < length nodes

-- what building starts from: the stack has what is to be held, and nodes lead to nodes
pub record Starts (nodes : List Node) (raws : List (ℕ × ℕ)) (p : Pool) : Type 0 where
  pub kids_in : KidsIn nodes
  pub stack : p.pending ≡ to_hold p.given raws
  pub stack_in : StackIn nodes p.pending

-- what a table has at a key, another has too
pub record SlotsKept (given given' : List (ℕ × ℕ)) : Type 0 where
  pub slot_stays : (k s : ℕ) → lookup k given ≡ some s → lookup k given' ≡ some s

-- the row that an index is of stays that
pub record IndexKept (At At' : Indexing) : Type 0 where
  pub row_stays_lem : (i : ℕ) (row : Row) → At i row → At' i row

abbrev pub RowsKept : List Row → List Row → Type 0
RowsKept rows rows' = IndexKept (StandsIn rows) (StandsIn rows')

abbrev pub InlineKept : List (Row × ℕ) → List (Row × ℕ) → Type 0
InlineKept inline inline' = IndexKept (InlineIn inline) (InlineIn inline')

pub rows_same : {At : Indexing} → IndexKept At At
rows_same = record { row_stays_lem = λ i row e. e }

pub rows_twice : {A B C : Indexing} → IndexKept A B → IndexKept B C → IndexKept A C
rows_twice ab bc = record { row_stays_lem = λ i row e. bc.row_stays_lem i row (ab.row_stays_lem i row e) }

pub rows_append : (written more : List Row) → RowsKept written (written ++ more)
rows_append written more = record { row_stays_lem = found_append written more }

pub slots_same : {given : List (ℕ × ℕ)} → SlotsKept given given
slots_same = record { slot_stays = λ k s e. e }

pub slots_twice : {a b c : List (ℕ × ℕ)} → SlotsKept a b → SlotsKept b c → SlotsKept a c
slots_twice ab bc = record { slot_stays = λ k s e. bc.slot_stays k s (ab.slot_stays k s e) }

-- a slot that is given is to hold its node
pub given-held : (k s : ℕ) (given raws : List (ℕ × ℕ)) → lookup k given ≡ some s → Among (s, k) (to_hold given raws)
unfolding lookup
given-held k s [] raws e = clash (cc)
given-held k s (r ∷ given) raws e = go (eqb k r.0) refl (given-held k s given raws)
  where
    go :
        (b : Bool) →
        eqb k r.0 ≡ b →
        (lookup k given ≡ some s → Among (s, k) (to_hold given raws)) →
        Among (s, k) (to_hold (r ∷ given) raws)
    go true t rest =
        let q = sym (eqb-true k r.0 t) in
        let e' : some r.1 ≡ some s = rw (t, lookup) at e in
        let q' : r.1 ≡ s = cc in
        (0, λ j. some (q' j, q j))
    go false t rest = among_later (s, k) (r.1, r.0) (to_hold given raws) (rest (rw (t, lookup) at e))

-- ---- numbers that stand for children go on standing for them

pub slot_kept : {given given' : List (ℕ × ℕ)} → SlotsKept given given' → (c n : ℕ) → SlotFor given c n → SlotFor given' c n
slot_kept kept c n (inl h) = inl h
slot_kept kept c n (inr h) = inr (h.0, kept.slot_stays (c - first_node) n h.1)

pub slots_kept :
    {given given' : List (ℕ × ℕ)} → SlotsKept given given' → (cs ns : List ℕ) → Both (SlotFor given) cs ns → Both (SlotFor given') cs ns
slots_kept {given} {given'} kept cs ns = both-map {R = SlotFor given} {S = SlotFor given'} cs ns (slot_kept kept)

pub number-kept :
    (nodes : List Node) {given given' : List (ℕ × ℕ)} {At At' : Indexing} →
    SlotsKept given given' →
    IndexKept At At' →
    (c n : ℕ) →
    NumberBy nodes given At c n →
    NumberBy nodes given' At' c n
number-kept nodes kept more c n (inl h) = inl h
number-kept nodes kept more c n (inr (inl h)) = inr (inl (h.0, h.1, kept.slot_stays (c - first_node) n h.2))
number-kept nodes kept more c n (inr (inr h)) =
    inr (inr (h.0, h.1, h.2, more.row_stays_lem n h.2 h.3, slots_kept kept (kids_of nodes (c - first_node)) h.2 h.4))

pub numbers-kept :
    (nodes : List Node) {given given' : List (ℕ × ℕ)} {At At' : Indexing} →
    SlotsKept given given' →
    IndexKept At At' →
    (cs ns : List ℕ) →
    Both (NumberBy nodes given At) cs ns →
    Both (NumberBy nodes given' At') cs ns
numbers-kept nodes {given} {given'} {At} {At'} kept more cs ns =
    both-map {R = NumberBy nodes given At} {S = NumberBy nodes given' At'} cs ns (number-kept nodes {At = At} {At' = At'} kept more)

-- ---- branches of the definition

pub slot_of-raw : (nodes : List Node) (ldc : Bool) (c : ℕ) (p : Pool) → ltb c first_node ≡ true → slot_of nodes ldc c p ≡ good (c, p)
unfolding slot_of
slot_of-raw nodes ldc c p t = rw (t, slot_of)

pub slot_of-node :
    (nodes : List Node) (ldc : Bool) (c : ℕ) (p : Pool) → ltb c first_node ≡ false → slot_of nodes ldc c p ≡ allocate nodes ldc (c - first_node) p
unfolding slot_of
slot_of-node nodes ldc c p t = rw (t, slot_of)

pub node_number-row :
    (nodes : List Node) (k : ℕ) (p : Pool) (rows : Rows) →
    eqb (tag_at nodes k) bootstrap_tag ≡ true →
    node_number nodes k p rows ≡ (slots_of nodes (kids_of nodes k) p >>= λ r. at_record k (row_index r.0 rows) >>= λ i. good (i.0, r.1, i.1))
unfolding node_number
node_number-row nodes k p rows t = rw (t, node_number)

pub node_number-slot :
    (nodes : List Node) (k : ℕ) (p : Pool) (rows : Rows) →
    eqb (tag_at nodes k) bootstrap_tag ≡ false →
    node_number nodes k p rows ≡ (at_record k (allocate nodes false k p) >>= λ r. good (r.0, r.1, rows))
unfolding node_number
node_number-slot nodes k p rows t = rw (t, node_number)

pub child_number-raw : (nodes : List Node) (c : ℕ) (p : Pool) (rows : Rows) → ltb c first_node ≡ true → child_number nodes c p rows ≡ good (c, p, rows)
unfolding child_number
child_number-raw nodes c p rows t = rw (t, child_number)

pub child_number-node :
    (nodes : List Node) (c : ℕ) (p : Pool) (rows : Rows) → ltb c first_node ≡ false → child_number nodes c p rows ≡ node_number nodes (c - first_node) p rows
unfolding child_number
child_number-node nodes c p rows t = rw (t, child_number)

-- ---- inline rows

-- every inline row is written at its index
abbrev pub InlineThere : Rows → Type 0
InlineThere rows = (row : Row) (i : ℕ) → Among (row, i) rows.inline → get_elem? rows.written i ≡ some row

-- an inline row that is found is there
pub index_of-there : (row : Row) (inline : List (Row × ℕ)) (i : ℕ) → index_of row inline ≡ some i → Among (row, i) inline
unfolding index_of
index_of-there row [] i e = clash (cc)
index_of-there row (r ∷ inline) i e = go (same row r.0) refl (index_of-there row inline i)
  where
    go : (b : Bool) → same row r.0 ≡ b → (index_of row inline ≡ some i → Among (row, i) inline) → Among (row, i) (r ∷ inline)
    go true t rest =
        let q = sym (same_true row r.0 t) in
        let e' : some r.1 ≡ some i = rw (t, index_of) at e in
        let q' : r.1 ≡ i = cc in
        (0, λ j. some (q j, q' j))
    go false t rest = among_later (row, i) r inline (rest (rw (t, index_of) at e))

-- and stands at its index
pub inline_stands : (rows : Rows) → InlineThere rows → IndexKept (InlineIn rows.inline) (StandsIn rows.written)
inline_stands rows there = record { row_stays_lem = λ i row e. there row i (index_of-there row rows.inline i e) }

-- a row that isn't found comes in front: it is found, and others as before
pub inline_first : (row : Row) (i : ℕ) (inline : List (Row × ℕ)) → index_of row ((row, i) ∷ inline) ≡ some i
unfolding index_of
inline_first row i inline = rw (same_refl row, index_of)

pub inline_more : (row : Row) (i : ℕ) (inline : List (Row × ℕ)) → index_of row inline ≡ none → InlineKept inline ((row, i) ∷ inline)
unfolding index_of
inline_more row i inline new = record { row_stays_lem = λ j x e. go j x e (same x row) refl }
  where
    go : (j : ℕ) (x : Row) → index_of x inline ≡ some j → (b : Bool) → same x row ≡ b → index_of x ((row, i) ∷ inline) ≡ some j
    go j x e true t =
        let q = same_true x row t in
        none≢some (sym new ∙ ap (λ y. index_of y inline) (sym q) ∙ e)
    go j x e false t = rw (t, index_of) e

-- ---- what is made while building

pub finished-kept :
    (nodes : List Node) {given given' : List (ℕ × ℕ)} {At At' : Indexing} (owned owned' : List (ℕ × Entry ℕ ℕ)) (s k : ℕ) →
    SlotsKept given given' →
    IndexKept At At' →
    ((e : Entry ℕ ℕ) → Among (s, e) owned → Among (s, e) owned') →
    FinishedBy nodes given At owned s k →
    FinishedBy nodes given' At' owned' s k
finished-kept nodes {At = At} {At' = At'} owned owned' s k kept more still f = (
  f.0,
  f.1,
  f.2,
  still (with_kids f.1 f.0) f.3,
  numbers-kept nodes {At = At} {At' = At'} kept more f.0.kids f.1 f.4,
)

pub owner_kept :
    (nodes : List Node) {given given' : List (ℕ × ℕ)} (raws : List (ℕ × ℕ)) {At At' : Indexing} (s : ℕ) (e : Entry ℕ ℕ) →
    SlotsKept given given' →
    IndexKept At At' →
    ((k : ℕ) → Among (s, k) (to_hold given raws) → Among (s, k) (to_hold given' raws)) →
    OwnerBy nodes given raws At s e →
    OwnerBy nodes given' raws At' s e
owner_kept nodes raws {At} {At'} s e kept more still f = (
  f.0,
  f.1,
  f.2,
  f.3,
  f.4,
  still f.0 f.5,
  numbers-kept nodes {At = At} {At' = At'} kept more f.1.kids f.2 f.6,
)

-- while the stack is taken from: what is to be held is on the stack or finished
pub record Building (nodes : List Node) (raws pending : List (ℕ × ℕ)) (m : Made) : Type 0 where
  pub stack_in : StackIn nodes pending
  pub stack_from : (s k : ℕ) → Among (s, k) pending → Among (s, k) (to_hold m.pool.given raws)
  pub done :
      (s k : ℕ) →
      Among (s, k) (to_hold m.pool.given raws) →
      Among (s, k) pending ⊎ FinishedBy nodes m.pool.given (InlineIn m.rows.inline) m.owned s k
  pub owners : (s : ℕ) (e : Entry ℕ ℕ) → Among (s, e) m.owned → OwnerBy nodes m.pool.given raws (InlineIn m.rows.inline) s e
  pub inlined : InlineThere m.rows

-- the pool once the stack is another
abbrev pub taken_pool : List (ℕ × ℕ) → Pool → Pool
taken_pool pending p = record { slots = p.slots; given = p.given; pending = pending; version = p.version }

-- one more is taken from the stack and finished
abbrev pub finished_made : ℕ → Node → Made → List ℕ × Pool × Rows → Made
finished_made s nd m r = record { pool = r.1; rows = r.2; owned = (s, with_kids r.0 nd) ∷ m.owned }

pub finish-some :
    (nodes : List Node) (s : ℕ) (pending : List (ℕ × ℕ)) (m m' : Made) (nd : Node) →
    finish nodes s (with_pending pending m) (some nd) ≡ good m' →
    (r : List ℕ × Pool × Rows) × (child_numbers nodes nd.kids (taken_pool pending m.pool) m.rows ≡ good r) × (finished_made s nd m r ≡ m')
unfolding finish with_pending
finish-some nodes s pending m m' nd e =
    let first = good_first (child_numbers nodes nd.kids (taken_pool pending m.pool) m.rows) (λ r. good (finished_made s nd m r)) m' e in
    (first.0, first.1, good_inj first.2)

-- what building works on once raw bootstraps have their slots
abbrev pub start_made : List (ℕ × Row) × Pool → Made
start_made r = record { pool = r.1; rows = record { written = []; waiting = r.0; inline = [] }; owned = [] }
