-- Resolving (document 01, "Resolving"; 12 and 13): references lead to goals, and a stack of items turns the entries reached into nodes,
-- equal ones into one. Assumes nothing.
use Rattle.std.specs.Prelude.{Bool, true, false, ◌&&◌, List, [], ◌∷◌, ◌++◌, map, ℕ, zero, suc, ◌+◌, eqb, ltb, length, get_or, set, replicate}
use Rattle.std.proofs.Math.Option.{none, some}
use Rattle.std.proofs.Math.ListN.{get_elem?}
use Rattle.definition.specs.Basics.{Result, good, bad, ◌>>=◌, same, position}
use Rattle.definition.specs.Shapes.{Kind, constant, bootstrap, Entry, with_kids}
use Rattle.definition.specs.Job.{Reference, raw, entry, name}
use Rattle.definition.specs.Definitions.{Naming, name_target}

-- where a reference leads: a raw number, an entry of the one table, or the refusal that reaching it gives
pub data Goal : Type 0 where
  raw_number : ℕ → Goal
  table_entry : ℕ → Goal
  refusal : ℕ → Goal

-- an entry's place in the one table: constant n stands at n, and bootstrap n at the number of constants + n
unfoldable pub place_of : ℕ → Kind → ℕ → ℕ
place_of constants constant n = n
place_of constants bootstrap n = constants + n

-- follows names: 12 where one isn't defined. More steps than there are names mean that one came twice: 13
unfoldable pub follow : ℕ → List Naming → ℕ → Reference → Goal
follow zero names constants (raw n) = raw_number n
follow zero names constants (entry kind n) = table_entry (place_of constants kind n)
follow zero names constants (name kind s) = refusal 13
follow (suc steps) names constants (raw n) = raw_number n
follow (suc steps) names constants (entry kind n) = table_entry (place_of constants kind n)
follow (suc steps) names constants (name kind s) =
    elim (name_target kind s names) [ none ↦ refusal 12 | some r ↦ follow steps names constants r ]

unfoldable pub goal_of : List Naming → ℕ → Reference → Goal
goal_of names constants r = follow (suc (length names)) names constants r

-- a node: an entry resolved. A child below 65,536 is a raw number, and 65,536 + k is node k
abbrev pub Node : Type 0
Node = Entry ℕ ℕ

abbrev pub first_node : ℕ
first_node = 65536

-- an entry is not reached yet, still being resolved, or has become a node
pub data Mark : Type 0 where
  fresh : Mark
  underway : Mark
  done : ℕ → Mark

-- what resolving leaves: a mark for each entry, the nodes, and how many items were taken from the stack
pub record Resolved : Type 0 where
  pub marks : List Mark
  pub nodes : List Node
  pub visits : ℕ

-- an item of the stack
pub data Item : Type 0 where
  enter : Goal → Item
  leave : ℕ → Item

-- same tag, same literal, same kind byte, same children
unfoldable pub same_node : Node → Node → Bool
same_node a b = eqb a.tag b.tag && (eqb a.literal b.literal && (eqb a.byte b.byte && same a.kids b.kids))

-- the nodes with one more, unless an equal one is there
unfoldable pub intern : Node → List Node → List Node
intern n nodes = elim (ltb (position (same_node n) nodes) (length nodes)) [ true ↦ nodes | false ↦ nodes ++ n ∷ [] ]

-- the child that a goal became; it is asked only of what was resolved
unfoldable pub mark_child : Mark → ℕ
mark_child fresh = 0
mark_child underway = 0
mark_child (done k) = first_node + k

unfoldable pub child_of : List Mark → Goal → ℕ
child_of marks (raw_number n) = n
child_of marks (table_entry e) = mark_child (get_or marks e (done 0))
child_of marks (refusal code) = 0

unfoldable pub kids_at : List (Entry ℕ Goal) → ℕ → List Goal
kids_at table e = elim (get_elem? table e) [ none ↦ [] | some x ↦ x.kids ]

-- one more item was taken
unfoldable pub visited : Resolved → Resolved
visited s = record { marks = s.marks; nodes = s.nodes; visits = suc s.visits }

-- leaves an entry: it becomes a node, an old one if there is an equal one
unfoldable pub leave_node : ℕ → Node → Resolved → Resolved
leave_node e n s =
    record { marks = set s.marks e (done (position (same_node n) s.nodes)); nodes = intern n s.nodes; visits = suc s.visits }

unfoldable pub leaving : List (Entry ℕ Goal) → ℕ → Resolved → Resolved
leaving table e s =
    elim (get_elem? table e) [ none ↦ visited s | some x ↦ leave_node e (with_kids (map (child_of s.marks) x.kids) x) s ]

-- enters an entry: its children are pushed, leftmost on top, over its leaving; one still being resolved is 13
unfoldable pub entering : List (Entry ℕ Goal) → ℕ → Mark → Resolved → Result ℕ (List Item × Resolved)
entering table e fresh s =
    good (
      map enter (kids_at table e) ++ leave e ∷ [],
      record { marks = set s.marks e underway; nodes = s.nodes; visits = suc s.visits },
    )
entering table e underway s = bad 13
entering table e (done k) s = good ([], visited s)

-- takes one item; gives what is pushed for it
unfoldable pub step : List (Entry ℕ Goal) → Item → Resolved → Result ℕ (List Item × Resolved)
step table (enter (raw_number n)) s = good ([], visited s)
step table (enter (table_entry e)) s = entering table e (get_or s.marks e (done 0)) s
step table (enter (refusal code)) s = bad code
step table (leave e) s = good ([], leaving table e s)

-- takes items until the stack is empty; 0 would tell that the fuel ran out
unfoldable pub work : ℕ → List (Entry ℕ Goal) → List Item → Resolved → Result ℕ Resolved
work zero table [] s = good s
work zero table (i ∷ stack) s = bad 0
work (suc fuel) table [] s = good s
work (suc fuel) table (i ∷ stack) s = step table i s >>= λ r. work fuel table (r.0 ++ stack) r.1

-- items that resolving can take at most: one, and for each entry its leaving and its children
unfoldable pub fuel_for : List (Entry ℕ Goal) → ℕ
fuel_for [] = 1
fuel_for (x ∷ table) = suc (length x.kids + fuel_for table)

unfoldable pub resolve : List (Entry ℕ Goal) → Goal → Resolved → Result ℕ Resolved
resolve table goal s = work (fuel_for table) table (enter goal ∷ []) s

-- several goals in turn
unfoldable pub resolve_all : List (Entry ℕ Goal) → List Goal → Resolved → Result ℕ Resolved
resolve_all table [] s = good s
resolve_all table (g ∷ goals) s = resolve table g s >>= λ s'. resolve_all table goals s'

-- the entries with their references followed
unfoldable pub linked : List Naming → ℕ → List (Entry ℕ Reference) → List (Entry ℕ Goal)
linked names constants table = map (λ e. with_kids (map (goal_of names constants) e.kids) e) table

unfoldable pub nothing_resolved : List (Entry ℕ Goal) → Resolved
nothing_resolved table = record { marks = replicate (length table) fresh; nodes = []; visits = 0 }
