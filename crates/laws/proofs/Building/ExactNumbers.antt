-- What building leaves at a slot, by equations: the slots given out and the inline rows tell each child's number. Assumes nothing.
use mathlib.Core.Bool.{true, false}
use mathlib.Core.List.{List, [], ◌∷◌, map}
use mathlib.Core.Logic.{inl, inr}
use mathlib.Core.Option.{Option, none, some}
use mathlib.Core.Path.{◌≡◌, refl, ap, ◌∙◌}
use Prim.Native.Nat.{ℕ, ◌-◌}
use lib.Dec.{eqb, ltb}
use lib.ListN.{get_elem?}
use borrow.Author.Tests.{eq-eqb, ne_eqb, lt-ltb, le-ltb}
use Rattle.definition.specs.Basics.{good, lookup}
use Rattle.definition.specs.Shapes.{bootstrap_tag, Entry, with_kids}
use Rattle.definition.specs.Definitions.{tag_at}
use Rattle.definition.specs.Resolving.{Node, first_node}
use Rattle.definition.specs.Building.{Pool, Row, index_of, Made, kids_of, build_all}
use Rattle.facts.specs.Lists.{Among}
use Rattle.facts.proofs.Each.{Both}
use Rattle.laws.proofs.Slots.SlotsToHold.{to_hold}
use Rattle.laws.proofs.Building.ChildNumbers.{SlotFor, InlineIn, NumberBy, OwnerBy, Starts}
use Rattle.laws.proofs.Building.SlotsAndRowsBuilt.{inline_owners}

-- what an option holds, else 0
unfoldable pub or_zero : Option ℕ → ℕ
or_zero none = 0
or_zero (some n) = n

-- the slot of a child: a raw number is itself
unfoldable pub slot_given : List (ℕ × ℕ) → ℕ → ℕ
slot_given given child = elim (ltb child first_node) [ true ↦ child | false ↦ or_zero (lookup (child - first_node) given) ]

-- the number of a child: the index of a bootstrap's row, else its slot
unfoldable pub number_given : List Node → List (ℕ × ℕ) → List (Row × ℕ) → ℕ → ℕ
number_given nodes given inline child =
    elim (ltb child first_node) [
      | true ↦ child
      | false ↦
          elim (eqb (tag_at nodes (child - first_node)) bootstrap_tag) [
            | true ↦ or_zero (index_of (map (slot_given given) (kids_of nodes (child - first_node))) inline)
            | false ↦ or_zero (lookup (child - first_node) given)
          ]
    ]

-- what building leaves at a slot is a node that is to be held there, with exactly the numbers that slots given and inline rows tell
abbrev pub ExactOwners : Type 0
ExactOwners =
    (nodes : List Node) (indexes raws : List (ℕ × ℕ)) (p : Pool) (m : Made) → Starts nodes raws p → build_all nodes indexes p ≡ good m →
    (s : ℕ) (e : Entry ℕ ℕ) → Among (s, e) m.owned →
    (k : ℕ) × (nd : Node) × (get_elem? nodes k ≡ some nd) × Among (s, k) (to_hold m.pool.given raws)
    × (e ≡ with_kids (map (number_given nodes m.pool.given m.rows.inline) nd.kids) nd)

-- numbers that a function tells one by one are its images
both-images : (f : ℕ → ℕ) (R : ℕ → ℕ → Type 0) → ((c n : ℕ) → R c n → n ≡ f c) → (cs ns : List ℕ) → Both R cs ns → ns ≡ map f cs
both-images f R tells [] [] h = refl
both-images f R tells [] (n ∷ ns) h = absurd h
both-images f R tells (c ∷ cs) [] h = absurd h
both-images f R tells (c ∷ cs) (n ∷ ns) h =
    let first = tells c n h.0 in
    let rest = both-images f R tells cs ns h.1 in
    λ j. first j ∷ rest j

slot-told : (given : List (ℕ × ℕ)) (c n : ℕ) → SlotFor given c n → n ≡ slot_given given c
unfolding slot_given or_zero
slot-told given c n (inl h) = rw (lt-ltb c first_node h.0, slot_given) h.1
slot-told given c n (inr h) = rw (le-ltb c first_node h.0, slot_given, h.1, or_zero)

-- a row of slots
pub row_told : (given : List (ℕ × ℕ)) (cs : List ℕ) (row : Row) → Both (SlotFor given) cs row → row ≡ map (slot_given given) cs
row_told given cs row h = both-images (slot_given given) (SlotFor given) (slot-told given) cs row h

pub number-told :
    (nodes : List Node) (given : List (ℕ × ℕ)) (inline : List (Row × ℕ)) (c n : ℕ) →
    NumberBy nodes given (InlineIn inline) c n →
    n ≡ number_given nodes given inline c
unfolding number_given or_zero
number-told nodes given inline c n (inl h) = rw (lt-ltb c first_node h.0, number_given) h.1
number-told nodes given inline c n (inr (inl h)) =
    rw (le-ltb c first_node h.0, number_given, ne_eqb (tag_at nodes (c - first_node)) bootstrap_tag h.1, h.2, or_zero)
number-told nodes given inline c n (inr (inr h)) =
    let row = row_told given (kids_of nodes (c - first_node)) h.2 h.4 in
    let found : index_of (map (slot_given given) (kids_of nodes (c - first_node))) inline ≡ some n = rw (← row) h.3 in
    rw (le-ltb c first_node h.0, number_given, eq-eqb (tag_at nodes (c - first_node)) bootstrap_tag h.1, found, or_zero)

-- EXACT OWNERS
pub exact-owners : ExactOwners
exact-owners nodes indexes raws p m starts done s e a =
    exactly (inline_owners nodes indexes raws p m starts done s e a)
  where
    number : ℕ → ℕ
    number = number_given nodes m.pool.given m.rows.inline

    exactly :
        OwnerBy nodes m.pool.given raws (InlineIn m.rows.inline) s e →
        (k : ℕ)
        × (nd : Node)
        × (get_elem? nodes k ≡ some nd)
        × Among (s, k) (to_hold m.pool.given raws)
        × (e ≡ with_kids (map number nd.kids) nd)
    exactly (k, nd, ns, is, at, held, nums) =
        let all =
        both-images
        number
        (NumberBy nodes m.pool.given (InlineIn m.rows.inline))
        (number-told nodes m.pool.given m.rows.inline)
        nd.kids
        ns
        nums in
        (k, nd, at, held, is ∙ ap (λ l. with_kids l nd) all)
