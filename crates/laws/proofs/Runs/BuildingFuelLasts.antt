-- The fuel of building lasts: each node is taken from the stack once, so that nothing is refused with 0. Assumes nothing.
use mathlib.Core.Bool.{Bool, true, false}
use mathlib.Core.List.{List, [], ◌∷◌, reverse}
use mathlib.Core.Option.{Option, none, some}
use mathlib.Core.Path.{◌≡◌, refl}
use Prim.Native.Nat.{ℕ, zero, suc, ◌+◌, ◌-◌, ◌≤◌, ◌<◌}
use native.Mathlib.Omega.{arith}
use lib.Dec.{eqb, ltb}
use lib.ListN.{length, get_elem?}
use borrow.Author.Tests.{eqb-true, eqb-false, ltb-false}
use Rattle.definition.specs.Basics.{position, lookup}
use Rattle.definition.specs.Shapes.{bootstrap_tag, is_wide}
use Rattle.definition.specs.Definitions.{tag_at}
use Rattle.definition.specs.Resolving.{Node, first_node, same_node, intern}
use Rattle.definition.specs.Slots.{Slots, slot_for}
use Rattle.definition.specs.Building.{Pool, no_slot, give, allocate, slot_of, slots_of, Row, Rows, write_raw, index_of, take_index, row_index, Made, kids_of, node_number, child_number, child_numbers, finish, with_pending, drain, raw_rows, build_all, attribute_text, name_slot}
use Rattle.facts.proofs.Tables.{lookup-hit, lookup-miss}
use Rattle.facts.proofs.Each.{Each, each_at, each_weaker}
use Rattle.facts.proofs.Outcomes.{Ends, well, refused, next, Anything, unless-ends, at_record-ends}
use Rattle.laws.proofs.Form.RefusalNumbers.{NonZero, non_zero_lem, Coded}
use Rattle.laws.proofs.Resolving.OwedVisits.{Child}
use Rattle.laws.proofs.Runs.UpToBuilding.{allocate-ends}

-- how many of the first n nodes have no slot
vacant : Option ℕ → ℕ
vacant none = 1
vacant (some s) = 0

slotless : List (ℕ × ℕ) → ℕ → ℕ
slotless given zero = 0
slotless given (suc n) = vacant (lookup n given) + slotless given n

vacant-le : (o : Option ℕ) → vacant o ≤ 1
unfolding vacant
vacant-le none = omega arith
vacant-le (some s) = omega arith

slotless_le : (given : List (ℕ × ℕ)) (n : ℕ) → slotless given n ≤ n
unfolding slotless
slotless_le given zero = omega arith
slotless_le given (suc n) =
    let ih = slotless_le given n in
    omega (arith, vacant-le (lookup n given))

-- a slot more is no node without one more
slotless_cons : (k s : ℕ) (given : List (ℕ × ℕ)) (n : ℕ) → slotless ((k, s) ∷ given) n ≤ slotless given n
unfolding slotless vacant
slotless_cons k s given zero = omega arith
slotless_cons k s given (suc n) = go (eqb n k) refl (slotless_cons k s given n)
  where
    go :
        (b : Bool) →
        eqb n k ≡ b →
        slotless ((k, s) ∷ given) n ≤ slotless given n →
        vacant (lookup n ((k, s) ∷ given)) + slotless ((k, s) ∷ given) n ≤ vacant (lookup n given) + slotless given n
    go true e ih = rw (lookup-hit n (k, s) given (eqb-true n k e)) (omega arith)
    go false e ih = rw (lookup-miss n (k, s) given (eqb-false n k e)) (omega arith)

-- and a slot for one of them that had none is one less
slotless_give : (k s : ℕ) (given : List (ℕ × ℕ)) (n : ℕ) → k < n → lookup k given ≡ none → suc (slotless ((k, s) ∷ given) n) ≤ slotless given n
unfolding slotless vacant
slotless_give k s given zero less e = absurd (omega arith)
slotless_give k s given (suc n) less e = go (eqb n k) refl (slotless_give k s given n)
  where
    go :
        (b : Bool) →
        eqb n k ≡ b →
        (k < n → lookup k given ≡ none → suc (slotless ((k, s) ∷ given) n) ≤ slotless given n) →
        suc (vacant (lookup n ((k, s) ∷ given)) + slotless ((k, s) ∷ given) n) ≤ vacant (lookup n given) + slotless given n
    go true t ih =
        let same : n ≡ k = eqb-true n k t in
        let none' : lookup n given ≡ none = rw same e in
        let less' = slotless_cons k s given n in
        rw (lookup-hit n (k, s) given (eqb-true n k t), none') (omega arith)
    go false t ih =
        let other = eqb-false n k t in
        let less' : k < n = omega arith in
        let ih' = ih less' e in
        rw (lookup-miss n (k, s) given (eqb-false n k t)) (omega arith)

-- what building may still take from its stack: what waits there, and a node for each that has no slot
debt : List Node → Pool → ℕ
debt nodes p = length p.pending + slotless p.given (length nodes)

-- a pool that owes no more than another
NoMore : List Node → Pool → Pool → Type 0
NoMore nodes p p' = debt nodes p' ≤ debt nodes p

-- a raw number, or a node that there is
abbrev There : List Node → ℕ → Type 0
There nodes c = c < first_node + length nodes

pub AllThere : List Node → Type 0
AllThere nodes = Each (λ n. Each (There nodes) n.kids) nodes

pub all_there : (nodes : List Node) → Each (λ n. Each (Child nodes) n.kids) nodes → AllThere nodes
unfolding AllThere
all_there [] h = tt
all_there (x ∷ l) h =
    each_weaker
    (λ n. Each (Child (x ∷ l)) n.kids)
    (λ n. Each (There (x ∷ l)) n.kids)
    (λ n. each_weaker (Child (x ∷ l)) (There (x ∷ l)) (λ c k. omega arith) n.kids)
    (x ∷ l)
    h

kids_of-there : (nodes : List Node) (k : ℕ) → AllThere nodes → Each (There nodes) (kids_of nodes k)
unfolding kids_of AllThere
kids_of-there nodes k h = go (get_elem? nodes k) refl
  where
    go : (o : Option Node) → get_elem? nodes k ≡ o → Each (There nodes) (kids_of nodes k)
    go none e = rw (e, kids_of) tt
    go (some n) e = rw (e, kids_of) (each_at (λ x. Each (There nodes) x.kids) nodes k n h e)

give-pays :
    (nodes : List Node) (ldc : Bool) (k : ℕ) (p : Pool) (o : Option (ℕ × Slots)) →
    k < length nodes →
    lookup k p.given ≡ none →
    Ends NonZero (λ r. NoMore nodes p r.1) (give ldc k p o)
unfolding give no_slot NoMore debt
give-pays nodes true k p none less e = refused (non_zero_lem 15 tt)
give-pays nodes false k p none less e = refused (non_zero_lem 14 tt)
give-pays nodes ldc k p (some r) less e =
    let h : suc (length p.pending) + slotless ((k, r.0) ∷ p.given) (length nodes) ≤ debt nodes p =
    omega (arith, slotless_give k r.0 p.given (length nodes) less e) in
    well h

allocate-pays :
    (nodes : List Node) (ldc : Bool) (k : ℕ) (p : Pool) → k < length nodes → Ends NonZero (λ r. NoMore nodes p r.1) (allocate nodes ldc k p)
unfolding allocate NoMore
allocate-pays nodes ldc k p less = go (lookup k p.given) refl
  where
    go : (o : Option ℕ) → lookup k p.given ≡ o → Ends NonZero (λ r. NoMore nodes p r.1) (allocate nodes ldc k p)
    go none e = rw (e, allocate) (give-pays nodes ldc k p (slot_for (is_wide (tag_at nodes k)) ldc p.slots) less e)
    go (some s) e = rw (e, allocate) (well {a = (s, p)} (omega arith))

slot_of-pays :
    (nodes : List Node) (ldc : Bool) (child : ℕ) (p : Pool) → There nodes child → Ends NonZero (λ r. NoMore nodes p r.1) (slot_of nodes ldc child p)
unfolding slot_of NoMore
slot_of-pays nodes ldc child p less = go (ltb child first_node) refl
  where
    go : (b : Bool) → ltb child first_node ≡ b → Ends NonZero (λ r. NoMore nodes p r.1) (slot_of nodes ldc child p)
    go true e = rw (e, slot_of) (well {a = (child, p)} (omega arith))
    go false e =
        let high = ltb-false child first_node e in
        let less' : child - first_node < length nodes = omega arith in
        rw (e, slot_of) (allocate-pays nodes ldc (child - first_node) p less')

slots_of-pays :
    (nodes : List Node) (children : List ℕ) (p : Pool) → Each (There nodes) children → Ends Coded (λ r. NoMore nodes p r.1) (slots_of nodes children p)
unfolding slots_of NoMore
slots_of-pays nodes [] p there = well {a = ([], p)} (omega arith)
slots_of-pays nodes (child ∷ children) p there =
    next _ (at_record-ends _ (slot_of-pays nodes false child p there.0)) λ r h.
    next _ (slots_of-pays nodes children r.1 there.1) λ rest k.
    well {a = (r.0 ∷ rest.0, rest.1)} (omega arith)

take_index-ends : (row : Row) (inline : List (Row × ℕ)) (r : List Row × List (ℕ × Row)) → Ends NonZero Anything (take_index row inline r)
unfolding take_index
take_index-ends row inline r = go (ltb (length r.0) 65535) refl
  where
    go : (b : Bool) → ltb (length r.0) 65535 ≡ b → Ends NonZero Anything (take_index row inline r)
    go true e = rw (e, take_index) (well tt)
    go false e = rw (e, take_index) (refused (non_zero_lem 17 tt))

row_index-ends : (row : Row) (rows : Rows) → Ends NonZero Anything (row_index row rows)
unfolding row_index
row_index-ends row rows = go (index_of row rows.inline) refl
  where
    go : (o : Option ℕ) → index_of row rows.inline ≡ o → Ends NonZero Anything (row_index row rows)
    go none e = rw (e, row_index) (take_index-ends row rows.inline (write_raw rows.written rows.waiting))
    go (some i) e = rw (e, row_index) (well tt)

node_number-pays :
    (nodes : List Node) (k : ℕ) (p : Pool) (rows : Rows) →
    AllThere nodes →
    k < length nodes →
    Ends Coded (λ r. NoMore nodes p r.1) (node_number nodes k p rows)
unfolding node_number
node_number-pays nodes k p rows there less = go (eqb (tag_at nodes k) bootstrap_tag) refl
  where
    go : (b : Bool) → eqb (tag_at nodes k) bootstrap_tag ≡ b → Ends Coded (λ r. NoMore nodes p r.1) (node_number nodes k p rows)
    go true e =
        rw
        (e, node_number)
        (next _ (slots_of-pays nodes (kids_of nodes k) p (kids_of-there nodes k there)) λ r h.
        next _ (at_record-ends k (row_index-ends r.0 rows)) λ i _. well {a = (i.0, r.1, i.1)} h)
    go false e = rw (e, node_number) (next _ (at_record-ends k (allocate-pays nodes false k p less)) λ r h. well {a = (r.0, r.1, rows)} h)

child_number-pays :
    (nodes : List Node) (child : ℕ) (p : Pool) (rows : Rows) →
    AllThere nodes →
    There nodes child →
    Ends Coded (λ r. NoMore nodes p r.1) (child_number nodes child p rows)
unfolding child_number NoMore
child_number-pays nodes child p rows there less = go (ltb child first_node) refl
  where
    go : (b : Bool) → ltb child first_node ≡ b → Ends Coded (λ r. NoMore nodes p r.1) (child_number nodes child p rows)
    go true e = rw (e, child_number) (well {a = (child, p, rows)} (omega arith))
    go false e =
        let high = ltb-false child first_node e in
        let less' : child - first_node < length nodes = omega arith in
        rw (e, child_number) (node_number-pays nodes (child - first_node) p rows there less')

child_numbers-pay :
    (nodes : List Node) (children : List ℕ) (p : Pool) (rows : Rows) →
    AllThere nodes →
    Each (There nodes) children →
    Ends Coded (λ r. NoMore nodes p r.1) (child_numbers nodes children p rows)
unfolding child_numbers NoMore
child_numbers-pay nodes [] p rows there less = well {a = ([], p, rows)} (omega arith)
child_numbers-pay nodes (child ∷ children) p rows there less =
    next _ (child_number-pays nodes child p rows there less.0) λ r h.
    next _ (child_numbers-pay nodes children r.1 r.2 there less.1) λ rest k.
    well {a = (r.0 ∷ rest.0, rest.1, rest.2)} (omega arith)

finish-pays :
    (nodes : List Node) (s k : ℕ) (m : Made) (o : Option Node) →
    AllThere nodes →
    get_elem? nodes k ≡ o →
    Ends Coded (λ m'. NoMore nodes m.pool m'.pool) (finish nodes s m o)
unfolding finish NoMore AllThere
finish-pays nodes s k m none there e = well {a = m} (omega arith)
finish-pays nodes s k m (some n) there e =
    next
    _
    (child_numbers-pay nodes n.kids m.pool m.rows there (each_at (λ x. Each (There nodes) x.kids) nodes k n there e))
    λ r h. well h

drain-lasts :
    (fuel : ℕ) (nodes : List Node) (pending : List (ℕ × ℕ)) (m : Made) →
    AllThere nodes →
    length pending + slotless m.pool.given (length nodes) ≤ fuel →
    Ends Coded Anything (drain fuel nodes pending m)
unfolding drain with_pending NoMore debt
drain-lasts zero nodes [] m there h = well tt
drain-lasts zero nodes (top ∷ pending) m there h = absurd (omega arith)
drain-lasts (suc fuel) nodes [] m there h = well tt
drain-lasts (suc fuel) nodes (top ∷ pending) m there h =
    next _ (at_record-ends _ (unless-ends _ 24 (non_zero_lem 24 tt))) λ _ _.
    next _ (finish-pays nodes top.0 top.1 (with_pending pending m) (get_elem? nodes top.1) there refl) λ m' k.
    drain-lasts fuel nodes m'.pool.pending m' there (omega arith)

raw_rows-end :
    (nodes : List Node) (falling : List (ℕ × ℕ)) (p : Pool) (rows : List (ℕ × Row)) → AllThere nodes → Ends Coded Anything (raw_rows nodes falling p rows)
unfolding raw_rows
raw_rows-end nodes [] p rows there = well tt
raw_rows-end nodes (r ∷ falling) p rows there =
    next _ (slots_of-pays nodes (kids_of nodes r.1) p (kids_of-there nodes r.1 there)) λ row _.
    raw_rows-end nodes falling row.1 ((r.0, row.0) ∷ rows) there

pub build_all-lasts : (nodes : List Node) (indexes : List (ℕ × ℕ)) (p : Pool) → AllThere nodes → Ends Coded Anything (build_all nodes indexes p)
unfolding build_all
build_all-lasts nodes indexes p there =
    next _ (raw_rows-end nodes (reverse indexes) p [] there) λ r _.
    let less = slotless_le r.1.given (length nodes) in
    drain-lasts (length r.1.pending + length nodes) nodes r.1.pending _ there (omega arith)

pub name_slot-ends : (wanted : Bool) (nodes : List Node) (m : Made) → Ends NonZero Anything (name_slot wanted nodes m)
unfolding name_slot
name_slot-ends false nodes m = well tt
name_slot-ends true nodes m =
    next _ (allocate-ends (intern attribute_text nodes) false (position (same_node attribute_text) nodes) m.pool) λ r _. well tt
