-- What record 50 leaves: references lead to goals, and raw definitions are in order and resolved. Assumes nothing.
use Rattle.std.specs.Prelude.{true, false, List, [], ◌∷◌, ◌++◌, map, ◌≡◌, ℕ, zero, suc, ◌+◌, ◌≤◌, ◌<◌, eqb, get_or}
use Rattle.definition.specs.Definitions.{Defined}
use Rattle.definition.specs.Resolving.{Goal, table_entry, fuel_for, resolve_all, nothing_resolved}
use Rattle.definition.specs.Layout.{starters}
use Rattle.store.specs.Store.{Store, size, Kept}
use Rattle.store.specs.JobIn.{constants_in, entries_in, linked_in}
use Rattle.store.specs.Regions.{COUNTS, MARKS, NODE-HEADS, NODE-LINKS, GOALS, CHILDREN, NAME-GOALS, RAW-KEYS, RAW-ENTRIES, ORDER, NODES, STACK, NODE-COUNT, VISITS}
use Rattle.store.specs.Words.{HALF}
use Rattle.interner.specs.Nodes.{node_count}
use Rattle.sym_refs.specs.Names.{Goals}
use Rattle.raws.specs.Raws.{raw_count, Ordered}
use Rattle.resolver.specs.Resolved.{resolved_in, Table, AtRest, visits_owed, told}

-- the goals that record 50 resolves: raw constants by rising slot, then raw bootstraps by rising index
unfoldable pub goals_of : ℕ → Defined → List Goal
goals_of constants d = map (λ r. table_entry r.1) (starters d.held) ++ map (λ r. table_entry (constants + r.1)) d.indexes

-- the goal of a raw definition, by the word of its entry: a second half has none
unfoldable pub raw_goal : ℕ → List Goal
raw_goal e = elim (eqb e HALF) [ true ↦ [] | false ↦ table_entry e ∷ [] ]

-- the entry at place i of the order
abbrev pub raw_at_lem : List ℕ → List ℕ → ℕ → ℕ
raw_at_lem entries order i = get_or entries (get_or order i 0) 0

-- the goals of m places of the order, from place i on
unfoldable pub raw_goals : List ℕ → List ℕ → ℕ → ℕ → List Goal
raw_goals entries order i zero = []
raw_goals entries order i (suc m) = raw_goal (raw_at_lem entries order i) ++ raw_goals entries order (suc i) m

-- every counter but those of resolving is as it was
abbrev pub SameOthers : Store → Store → Type 0
SameOthers t u = (c : ℕ) → (c ≡ NODE-COUNT → ⊥) → (c ≡ VISITS → ⊥) → get_or (u COUNTS) c 0 ≡ get_or (t COUNTS) c 0

abbrev pub resolved_regions : List ℕ
resolved_regions = COUNTS ∷ MARKS ∷ NODE-HEADS ∷ NODE-LINKS ∷ CHILDREN ∷ NODES ∷ STACK ∷ []

-- these goals were resolved in turn, so many at most: t before, u after
pub record ResolvesAll (h : ℕ) (s : List ℕ) (goals : List Goal) (n : ℕ) (t u : Store) (r : ℕ) : Type 0 where
  pub is : resolve_all (linked_in s) goals (resolved_in s t) ≡ told r (resolved_in s u)
  pub again : r ≡ 0 → AtRest h s u
  pub visits : r ≡ 0 → visits_owed s u ≤ visits_owed s t + n
  pub counters : SameOthers t u
  pub kept : Kept resolved_regions t u

-- an entry's word of the order is a second half, or an entry of the table
abbrev pub IsRaw : List ℕ → ℕ → Type 0
IsRaw s e = (e ≡ HALF → ⊥) → e < entries_in s

-- the first n places of the order can be resolved
pub record CanResolve (p s : List ℕ) (t : Store) (n : ℕ) : Type 0 where
  pub room : n ≤ size p ORDER
  pub inside : (i : ℕ) → i < n → get_or (t ORDER) i 0 < size p RAW-ENTRIES
  pub raws : (i : ℕ) → i < n → IsRaw s (raw_at_lem (t RAW-ENTRIES) (t ORDER) i)
  pub few : visits_owed s t + n < 4294967295

-- nothing is resolved. It is shut, so that a search takes it whole from the premises
unfoldable pub Fresh : List ℕ → Store → Type 0
Fresh p t =
    ((i : ℕ) → i < size p MARKS → get_or (t MARKS) i 0 ≡ 0)
    × ((i : ℕ) → i < size p NODE-HEADS → get_or (t NODE-HEADS) i 0 ≡ 0)
    × (node_count t ≡ 0)
    × (get_or (t COUNTS) VISITS 0 ≡ 0)

-- what record 50 writes
abbrev pub ended_regions : List ℕ
ended_regions = COUNTS ∷ MARKS ∷ NODE-HEADS ∷ NODE-LINKS ∷ GOALS ∷ CHILDREN ∷ NAME-GOALS ∷ ORDER ∷ NODES ∷ STACK ∷ []

-- record 50 is through, or refused by number: t before, u after
pub record Ended (p : List ℕ) (top : ℕ) (s : List ℕ) (t u : Store) (d : Defined) (r : ℕ) : Type 0 where
  pub table : Table s u
  pub is : resolve_all (linked_in s) (goals_of (constants_in s) d) (nothing_resolved (linked_in s)) ≡ told r (resolved_in s u)
  pub again : r ≡ 0 → AtRest (size p NODE-HEADS) s u
  pub visits : r ≡ 0 → visits_owed s u ≤ fuel_for (linked_in s) + raw_count t
  pub goals : Goals s (u NAME-GOALS)
  pub ordered : Ordered (constants_in s) top d.held d.indexes (u RAW-KEYS) (u RAW-ENTRIES) (u ORDER) (raw_count u)
  pub counters : SameOthers t u
  pub kept : Kept ended_regions t u
