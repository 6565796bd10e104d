-- Where names lead while they are followed: a word below NAME is settled, and NAME + j leads on to name j. Assumes nothing.
use Rattle.std.specs.Prelude.{Bool, true, false, List, [], ◌∷◌, ◌≡◌, ℕ, ◌+◌, ◌-◌, ◌≤◌, ◌<◌, ltb, length, get_or}
use Rattle.std.proofs.Math.Option.{none, some}
use Rattle.std.proofs.Math.ListN.{get_elem?}
use Rattle.definition.specs.Shapes.{Kind, constant, bootstrap}
use Rattle.definition.specs.Job.{Reference, raw, entry, name}
use Rattle.definition.specs.Definitions.{Naming}
use Rattle.definition.specs.Resolving.{Goal, refusal, follow}
use Rattle.store.specs.Store.{Store, Kept, IsWord}
use Rattle.store.specs.JobIn.{counts_in, entries_in, constants_in, namings_in}
use Rattle.store.specs.Regions.{NAME-GOALS, GOALS}
use Rattle.store.specs.Words.{NAME, REFUSED, goal_word, IsGoal, reference_word, IsReference}
use Rattle.sym_refs.specs.Names.{kind_byte, name_count, NamesIn, Goals, Goes}

-- the kind that a flag tells
unfoldable pub flagged : Bool → Kind
flagged false = constant
flagged true = bootstrap

-- a word for a reference of a job
abbrev pub WordFor : List ℕ → Reference → ℕ → Type 0
WordFor s a r = (reference_word s (constants_in s) r ≡ a) × IsReference s (entries_in s) r × IsWord r

-- name i is the one of this first byte and label
abbrev pub Named : List ℕ → ℕ → List ℕ → ℕ → Type 0
Named s first label i = (x : Naming) × (get_elem? (namings_in s) i ≡ some x) × (kind_byte x.kind ≡ first) × (x.label ≡ label)

-- name i is the one that a reference cites
abbrev pub NamedBy : List ℕ → Reference → ℕ → Type 0
NamedBy s (raw n) i = ⊥
NamedBy s (entry kind n) i = ⊥
NamedBy s (name kind label) i = Named s (kind_byte kind) label i

-- an answer decides a question
pub record Decides (r : Bool) (P : Type 0) : Type 0 where
  pub yes : r ≡ true → P
  pub no : r ≡ false → P → ⊥

-- all names of a job are there
abbrev pub AllNames : ℕ → List ℕ → Store → Type 0
AllNames h s t = NamesIn h s t × (name_count t ≡ length (namings_in s))

-- POINTERS

abbrev pub settled : ℕ → Bool
settled x = ltb x NAME

-- where a word leads in m steps, if f m j is where item j leads in m
unfoldable pub leads_in : (ℕ → ℕ → Goal) → ℕ → ℕ → Goal
leads_in f m x = elim (settled x) [ true ↦ goal_word x | false ↦ f m (x - NAME) ]

-- x is where item i leads in at least `span` steps
abbrev pub Leads : (ℕ → ℕ → Goal) → ℕ → ℕ → ℕ → Type 0
Leads f span i x = (m : ℕ) × (span ≤ m) × ((s : ℕ) → f (m + s) i ≡ leads_in f s x)

abbrev pub AllLead : (ℕ → ℕ → Goal) → ℕ → ℕ → List ℕ → Type 0
AllLead f span n l = (i : ℕ) → i < n → Leads f span i (get_or l i 0)

-- words lead to items below n
abbrev pub Inner : ℕ → List ℕ → Type 0
Inner n l = (i : ℕ) → i < n → get_or l i 0 < NAME + n

-- those that are settled are goals
abbrev pub Settled : ℕ → ℕ → List ℕ → Type 0
Settled entries n l = (i : ℕ) → i < n → get_or l i 0 < NAME → IsGoal entries (get_or l i 0)

-- one jump
unfoldable pub hopped : List ℕ → ℕ → ℕ
hopped l x = elim (settled x) [ true ↦ x | false ↦ get_or l (x - NAME) 0 ]

unfoldable pub on_name : ℕ → ℕ
on_name x = elim (settled x) [ true ↦ 0 | false ↦ 1 ]

-- what still leads on is circular
unfoldable pub end_of : ℕ → ℕ
end_of x = elim (settled x) [ true ↦ x | false ↦ REFUSED + 13 ]

-- a round over n items: `left` of them lead on. t before, u after
pub record Jumped (t u : Store) (n left : ℕ) : Type 0 where
  pub few : left ≤ n
  pub inner : Inner n (u NAME-GOALS)
  pub words : (entries : ℕ) → Settled entries n (t NAME-GOALS) → Settled entries n (u NAME-GOALS)
  pub twice : (f : ℕ → ℕ → Goal) (span : ℕ) → AllLead f span n (t NAME-GOALS) → AllLead f (span + span) n (u NAME-GOALS)
  pub none : left ≡ 0 → (i : ℕ) → i < n → settled (get_or (u NAME-GOALS) i 0) ≡ true
  pub kept : Kept (NAME-GOALS ∷ []) t u

pub record Finished (t u : Store) (n : ℕ) : Type 0 where
  pub all : (i : ℕ) → i < n → get_or (u NAME-GOALS) i 0 ≡ end_of (get_or (t NAME-GOALS) i 0)
  pub kept : Kept (NAME-GOALS ∷ []) t u

-- where name i of a job leads in m steps
unfoldable pub leads_from : List ℕ → ℕ → ℕ → Goal
leads_from s m i =
    elim (get_elem? (namings_in s) i) [
      | none ↦ refusal 13
      | some x ↦ follow m (namings_in s) (constants_in s) (name x.kind x.label)
    ]

-- a word that a name can have before it was followed further
pub record First (s : List ℕ) (n i r : ℕ) : Type 0 where
  pub low : r < NAME + n
  pub word : r < NAME → IsGoal (entries_in s) r
  pub once : Leads (leads_from s) 1 i r

pub record Started (s : List ℕ) (t u : Store) (n : ℕ) : Type 0 where
  pub firsts : (i : ℕ) → i < n → First s n i (get_or (u NAME-GOALS) i 0)
  pub kept : Kept (NAME-GOALS ∷ []) t u

-- every name has its goal
pub record NamesFollowed (s : List ℕ) (t u : Store) : Type 0 where
  pub goals : Goals s (u NAME-GOALS)
  pub kept : Kept (NAME-GOALS ∷ []) t u

-- every reference of an entry became a goal
pub record ReferencesLinked (s : List ℕ) (t u : Store) : Type 0 where
  pub goes : (i : ℕ) → i < (counts_in s).references → Goes s (get_or (t GOALS) i 0) (get_or (u GOALS) i 0)
  pub kept : Kept (GOALS ∷ []) t u
