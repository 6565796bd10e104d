-- What holds while entries are resolved and between two goals that are: marks and nodes are faithful to the entries, what the stack
-- still has to do, and what is still owed. Contracts of the resolver cite it. Assumes nothing.
use Rattle.std.specs.Prelude.{List, [], ◌∷◌, map, ◌⊎◌, ◌≡◌, ℕ, suc, ◌+◌, ◌<◌, length}
use Rattle.std.proofs.Math.Option.{some}
use Rattle.std.proofs.Math.ListN.{get_elem?}
use Rattle.definition.specs.Shapes.{Entry, with_kids}
use Rattle.definition.specs.Resolving.{Goal, raw_number, table_entry, refusal, Mark, fresh, underway, done, Resolved, Item, enter, leave, child_of}
use Rattle.facts.specs.Lists.{Among}

-- a goal is settled: a raw number, or an entry that has become a node
abbrev pub Settled : List Mark → Goal → Type 0
Settled marks (raw_number n) = Unit {0}
Settled marks (table_entry e) = (k : ℕ) × (get_elem? marks e ≡ some (done k))
Settled marks (refusal code) = ⊥

-- a goal cites an entry of a table of this size, if it cites one
abbrev pub InTable : ℕ → Goal → Type 0
InTable size (raw_number n) = Unit {0}
InTable size (table_entry e) = e < size
InTable size (refusal code) = Unit {0}

-- every child of every entry does
abbrev pub Cited : List (Entry ℕ Goal) → Type 0
Cited table = (e : ℕ) (x : Entry ℕ Goal) → get_elem? table e ≡ some x → (g : Goal) → Among g x.kids → InTable (length table) g

-- an entry is node k: that node has its tag, literal and kind byte, its children are what the entry's goals became, and these are settled
abbrev pub IsNode : List (Entry ℕ Goal) → Resolved → ℕ → ℕ → Type 0
IsNode table s e k =
    (x : Entry ℕ Goal)
    × (get_elem? table e ≡ some x)
    × (get_elem? s.nodes k ≡ some (with_kids (map (child_of s.marks) x.kids) x))
    × ((g : Goal) → Among g x.kids → Settled s.marks g)

pub record Faithful (table : List (Entry ℕ Goal)) (s : Resolved) : Type 0 where
  pub marks_length : length s.marks ≡ length table
  -- an entry that became node k is it
  pub node_of : (e k : ℕ) → get_elem? s.marks e ≡ some (done k) → IsNode table s e k
  -- every node came from an entry
  pub from_entry : (k : ℕ) → k < length s.nodes → (e : ℕ) × (get_elem? s.marks e ≡ some (done k))
  -- nothing is left half done
  pub none_underway : (e : ℕ) → get_elem? s.marks e ≡ some underway → ⊥

-- while work is under way: what holds of the marks and nodes
pub record Partial (table : List (Entry ℕ Goal)) (s : Resolved) : Type 0 where
  pub marks_length : length s.marks ≡ length table
  pub node_of : (e k : ℕ) → get_elem? s.marks e ≡ some (done k) → IsNode table s e k
  pub from_entry : (k : ℕ) → k < length s.nodes → (e : ℕ) × (get_elem? s.marks e ≡ some (done k))

-- an entry is still being resolved
abbrev pub Underway : List Mark → ℕ → Type 0
Underway marks e = get_elem? marks e ≡ some underway

-- What holds of the stack, if the entries of U are under way and the goals of P settled: each entry under way has its leaving there, once;
-- where an entry is left its children are settled, as goals are that were entered or left above; and at the end the goal is settled.
abbrev pub Stacked : List (Entry ℕ Goal) → Goal → (ℕ → Type 0) → (Goal → Type 0) → List Item → Type 0
Stacked table goal U P [] = ((e : ℕ) → U e → ⊥) × P goal
Stacked table goal U P (enter g ∷ rest) = InTable (length table) g × Stacked table goal U (λ h. P h ⊎ (h ≡ g)) rest
Stacked table goal U P (leave e ∷ rest) =
    U e
    × ((x : Entry ℕ Goal) → get_elem? table e ≡ some x → (g : Goal) → Among g x.kids → P g)
    × Stacked table goal (λ d. U d × (d ≡ e → ⊥)) (λ h. P h ⊎ (h ≡ table_entry e)) rest

-- the stack with these marks
abbrev pub Now : List (Entry ℕ Goal) → Goal → Resolved → List Item → Type 0
Now table goal s stack = Stacked table goal (Underway s.marks) (Settled s.marks) stack

-- what an entry with a mark and so many children will still push: its children and its leaving
unfoldable pub cost : Mark → ℕ → ℕ
cost fresh n = suc n
cost underway n = 0
cost (done k) n = 0

unfoldable pub owing : List (Entry ℕ Goal) → List Mark → ℕ
owing table [] = 0
owing [] (m ∷ marks) = cost m 0 + owing [] marks
owing (x ∷ table) (m ∷ marks) = cost m (length x.kids) + owing table marks
