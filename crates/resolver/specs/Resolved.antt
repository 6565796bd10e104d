-- What is resolved, as it stands in the regions. Assumes nothing.
use Rattle.std.specs.Prelude.{List, [], ◌∷◌, map, ◌≡◌, ℕ, zero, suc, ◌+◌, ◌-◌, ◌≤◌, ◌<◌, ltb, length, get_or}
use Rattle.definition.specs.Basics.{Result, good, bad, only, position}
use Rattle.definition.specs.Resolving.{Resolved, fuel_for, resolve}
use Rattle.definition.specs.Places.{became}
use Rattle.laws.specs.Faithful.{owing}
use Rattle.laws.specs.Faithful.{Faithful}
use Rattle.store.specs.Store.{Store, Kept}
use Rattle.store.specs.JobIn.{entries_in, linked_in}
use Rattle.store.specs.Regions.{COUNTS, MARKS, NODE-HEADS, NODE-LINKS, OFFSETS, FIRSTS, SIZES, GOALS, CHILDREN, NODES, STACK, VALUES, NODE-COUNT, VISITS}
use Rattle.store.specs.Words.{ENTRY, REFUSED, mark_word, goal_word}
use Rattle.store.specs.Entries.{Entered, Linked}
use Rattle.interner.specs.Nodes.{NodesIn, node_count, nodes_in}

-- the definition's state
abbrev pub resolved_in : List ℕ → Store → Resolved
resolved_in s t = record { marks = map mark_word (t MARKS); nodes = nodes_in s t; visits = get_or (t COUNTS) VISITS 0 }

-- a goal's word that became a child: a raw number, or an entry that is done
pub record Became (marks : List ℕ) (x : ℕ) : Type 0 where
  pub low : x < REFUSED
  pub ready : ENTRY ≤ x → 1 < get_or marks (x - ENTRY) 0

-- the entries that haven't become nodes
abbrev pub unfinished : List ℕ → ℕ
unfinished marks = length (only (λ m. ltb m 2) marks)

-- the lowest entry that became node k, past all if none did
abbrev pub lowest_of : ℕ → List ℕ → ℕ
lowest_of k marks = position (became k) (map mark_word marks)

-- what stays while entries are resolved: where they stand, and where their references lead
pub record Table (s : List ℕ) (t : Store) : Type 0 where
  pub entered : Entered s (t OFFSETS) (t FIRSTS) (t SIZES) (t VALUES)
  pub linked : Linked s (t FIRSTS) (t GOALS)

-- what holds between two goals that are resolved: h is the number of heads of the nodes' chains
pub record AtRest (h : ℕ) (s : List ℕ) (t : Store) : Type 0 where
  pub nodes : NodesIn h s t
  -- every node was made from an entry that is done
  pub made : (i : ℕ) → i < node_count t → 1 < get_or (t MARKS) (get_or (t NODES) i 0) 0
  -- and is kept as the lowest that became it
  pub lowest : (k : ℕ) → k < node_count t → get_or (t NODES) k 0 ≡ lowest_of k (t MARKS)
  pub room : node_count t + unfinished (t MARKS) ≤ entries_in s
  pub faithful : Faithful (linked_in s) (resolved_in s t)
  pub owed : suc (owing (linked_in s) (resolved_in s t).marks) ≤ fuel_for (linked_in s)

-- how much more the visits can be, with what is still owed
abbrev pub visits_owed : List ℕ → Store → ℕ
visits_owed s t = get_or (t COUNTS) VISITS 0 + owing (linked_in s) (resolved_in s t).marks

-- a refusal's number, or 0 and the state afterwards
unfoldable pub told : ℕ → Resolved → Result ℕ Resolved
told zero state = good state
told (suc code) state = bad (suc code)

-- a goal was resolved: t before, u after
pub record Resolves (h : ℕ) (s : List ℕ) (t u : Store) (goal r : ℕ) : Type 0 where
  pub is : resolve (linked_in s) (goal_word goal) (resolved_in s t) ≡ told r (resolved_in s u)
  pub again : r ≡ 0 → AtRest h s u
  pub visits : r ≡ 0 → visits_owed s u ≤ visits_owed s t + 1
  pub counters : (c : ℕ) → (c ≡ NODE-COUNT → ⊥) → (c ≡ VISITS → ⊥) → get_or (u COUNTS) c 0 ≡ get_or (t COUNTS) c 0
  pub kept : Kept (COUNTS ∷ MARKS ∷ NODE-HEADS ∷ NODE-LINKS ∷ CHILDREN ∷ NODES ∷ STACK ∷ []) t u
