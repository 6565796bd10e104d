-- What the resolver's functions keep and change, one item at a time. Assumes nothing.
use Rattle.std.specs.Prelude.{List, [], ◌∷◌, map, ◌⊎◌, ◌≡◌, ℕ, zero, suc, ◌+◌, ◌-◌, ◌≤◌, ◌<◌, get_or, Result, Ok, Err}
use Rattle.refusal.specs.Numbers.{number}
use Rattle.refusal.specs.declared.Refusal.{Refusal}
use Rattle.refusal.specs.declared.Refusal.TheVariants.{Circular}
use Rattle.definition.specs.Basics.{bad}
use Rattle.definition.specs.Resolving.{Goal, Resolved, Item, child_of, leaving, work, fuel_for}
use Rattle.laws.specs.Faithful.{owing}
use Rattle.laws.specs.Faithful.{Partial, Now}
use Rattle.store.specs.Store.{Store, size, put, Kept}
use Rattle.store.specs.JobIn.{entries_in, linked_in}
use Rattle.store.specs.Regions.{COUNTS, MARKS, NODE-HEADS, NODE-LINKS, FIRSTS, SIZES, GOALS, CHILDREN, NODES, STACK, NODE-COUNT}
use Rattle.store.specs.Words.{LEAVE, REFUSED, mark_word, goal_word, item_word, IsGoal}
use Rattle.interner.specs.Nodes.{NodesIn, node_count, nodes_in}
use Rattle.resolver.specs.Resolved.{unfinished, lowest_of, Became}

-- the definition's state, with the visits counted apart
abbrev pub state_at : List ℕ → Store → ℕ → Resolved
state_at s t visits = record { marks = map mark_word (t MARKS); nodes = nodes_in s t; visits = visits }

-- the first n words as a stack of items, the last on top
unfoldable pub stack_of : List ℕ → ℕ → List Item
stack_of words zero = []
stack_of words (suc n) = item_word (get_or words n 0) ∷ stack_of words n

-- a word that stands on the stack, in a table of so many entries
abbrev pub IsItem : ℕ → ℕ → Type 0
IsItem entries x = IsGoal entries x ⊎ ((LEAVE ≤ x) × (x < LEAVE + entries))

-- the places of an entry's words
pub record Places (p : List ℕ) (t : Store) (e : ℕ) : Type 0 where
  pub mark : e < size p MARKS
  pub first : e < size p FIRSTS
  pub count : e < size p SIZES
  pub goals : get_or (t FIRSTS) e 0 + get_or (t SIZES) e 0 ≤ size p GOALS
  pub children : get_or (t FIRSTS) e 0 + get_or (t SIZES) e 0 ≤ size p CHILDREN

-- an entry that is left: its goals are done, no mark is high, and each that is done tells of a node
pub record ToLeave (t : Store) (e : ℕ) : Type 0 where
  pub is_underway : get_or (t MARKS) e 0 ≡ 1
  pub became : (i : ℕ) → i < get_or (t SIZES) e 0 → Became (t MARKS) (get_or (t GOALS) (get_or (t FIRSTS) e 0 + i) 0)
  pub low : (d : ℕ) → get_or (t MARKS) d 0 < REFUSED
  pub told : (d : ℕ) → get_or (t MARKS) d 0 < 2 + node_count t

-- its children were written
pub record Written (t u : Store) (e : ℕ) : Type 0 where
  pub is :
      (i : ℕ) → i < get_or (t SIZES) e 0 →
      get_or (u CHILDREN) (get_or (t FIRSTS) e 0 + i) 0 ≡ child_of (map mark_word (t MARKS)) (goal_word (get_or (t GOALS) (get_or (t FIRSTS) e 0 + i) 0))
  pub others :
      (i : ℕ) → (i < get_or (t FIRSTS) e 0) ⊎ (get_or (t FIRSTS) e 0 + get_or (t SIZES) e 0 ≤ i) → get_or (u CHILDREN) i 0 ≡ get_or (t CHILDREN) i 0
  pub kept : Kept (CHILDREN ∷ []) t u

-- an entry's leaving and its goals were put onto n items
pub record Pushed (t u : Store) (e n r : ℕ) : Type 0 where
  pub count : r ≡ n + get_or (t SIZES) e 0 + 1
  pub leaving : get_or (u STACK) n 0 ≡ LEAVE + e
  pub goals :
      (i : ℕ) → i < get_or (t SIZES) e 0 → get_or (u STACK) (n + get_or (t SIZES) e 0 - i) 0 ≡ get_or (t GOALS) (get_or (t FIRSTS) e 0 + i) 0
  pub below : (i : ℕ) → i < n → get_or (u STACK) i 0 ≡ get_or (t STACK) i 0
  pub kept : Kept (STACK ∷ []) t u

-- an entry was entered over n items
pub record Enters (t u : Store) (e n : ℕ) (r : Result ℕ Refusal) : Type 0 where
  pub is_done : 1 < get_or (t MARKS) e 0 → (r ≡ Ok n) × (u ≡ t)
  pub is_underway : get_or (t MARKS) e 0 ≡ 1 → r ≡ Err Circular
  pub is_fresh : get_or (t MARKS) e 0 ≡ 0 → (m : ℕ) × (r ≡ Ok m) × Pushed (put t MARKS e 1) u e n m
  pub kept : Kept (MARKS ∷ STACK ∷ []) t u

-- what holds of the nodes between two items
pub record NodesHold (h : ℕ) (s : List ℕ) (t : Store) : Type 0 where
  pub nodes : NodesIn h s t
  pub made : (i : ℕ) → i < node_count t → 1 < get_or (t MARKS) (get_or (t NODES) i 0) 0
  pub lowest : (k : ℕ) → k < node_count t → get_or (t NODES) k 0 ≡ lowest_of k (t MARKS)
  pub room : node_count t + unfinished (t MARKS) ≤ entries_in s

-- what holds while n items are on the stack
pub record Running (h : ℕ) (s : List ℕ) (t : Store) (n : ℕ) : Type 0 where
  pub hold : NodesHold h s t
  pub words : (i : ℕ) → i < n → IsItem (entries_in s) (get_or (t STACK) i 0)
  pub goal : Goal
  pub partial : Partial (linked_in s) (state_at s t 0)
  pub stacked : Now (linked_in s) goal (state_at s t 0) (stack_of (t STACK) n)
  pub paid : n + owing (linked_in s) (map mark_word (t MARKS)) ≤ fuel_for (linked_in s)

-- the counters but that of nodes are as they were
abbrev pub CountersKept : Store → Store → Type 0
CountersKept t u = (c : ℕ) → (c ≡ NODE-COUNT → ⊥) → get_or (u COUNTS) c 0 ≡ get_or (t COUNTS) c 0

-- an entry was left: it became a node
pub record Leaves (h : ℕ) (s : List ℕ) (t u : Store) (e : ℕ) : Type 0 where
  pub is : (visits : ℕ) → leaving (linked_in s) e (state_at s t visits) ≡ state_at s u (suc visits)
  pub hold : NodesHold h s u
  pub counters : CountersKept t u
  pub kept : Kept (COUNTS ∷ MARKS ∷ NODE-HEADS ∷ NODE-LINKS ∷ CHILDREN ∷ NODES ∷ []) t u

-- the item over n others was taken, and there are m items then
pub record Goes (h : ℕ) (s : List ℕ) (t u : Store) (n m : ℕ) : Type 0 where
  pub is :
      (fuel visits : ℕ) →
      work (suc fuel) (linked_in s) (stack_of (t STACK) (suc n)) (state_at s t visits)
      ≡ work fuel (linked_in s) (stack_of (u STACK) m) (state_at s u (suc visits))
  pub again : Running h s u m
  pub falls : m + owing (linked_in s) (map mark_word (u MARKS)) ≤ n + owing (linked_in s) (map mark_word (t MARKS))

-- or it is refused
abbrev pub Ends : List ℕ → Store → ℕ → Refusal → Type 0
Ends s t n q = (fuel visits : ℕ) → work (suc fuel) (linked_in s) (stack_of (t STACK) (suc n)) (state_at s t visits) ≡ bad (number q)

abbrev pub GoesOrEnds : ℕ → List ℕ → Store → Store → ℕ → Result ℕ Refusal → Type 0
GoesOrEnds h s t u n (Ok m) = Goes h s t u n m
GoesOrEnds h s t u n (Err q) = Ends s t n q

pub record Steps (h : ℕ) (s : List ℕ) (t u : Store) (n : ℕ) (r : Result ℕ Refusal) : Type 0 where
  pub is : GoesOrEnds h s t u n r
  pub counters : CountersKept t u
  pub kept : Kept (COUNTS ∷ MARKS ∷ NODE-HEADS ∷ NODE-LINKS ∷ CHILDREN ∷ NODES ∷ STACK ∷ []) t u
