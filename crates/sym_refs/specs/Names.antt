-- Names in the regions: where each name's record stands, hash chains over kind and label, and where each name leads. Assumes nothing.
use Rattle.std.specs.Prelude.{Bool, true, false, ◌&&◌, List, [], ◌∷◌, ◌≡◌, ℕ, ◌+◌, ◌≤◌, ◌<◌, length, get_or, take}
use Rattle.std.proofs.Math.Option.{none, some}
use Rattle.std.proofs.Math.ListN.{get_elem?}
use Rattle.definition.specs.Basics.{same}
use Rattle.definition.specs.Shapes.{Kind, constant, bootstrap}
use Rattle.definition.specs.Job.{Reference, raw, entry, name, named}
use Rattle.definition.specs.Definitions.{Naming, same_kind_lem, name_target, is_none}
use Rattle.definition.specs.Resolving.{goal_of}
use Rattle.job.specs.Stored.{Found, any_definition}
use Rattle.store.specs.Store.{Store, Kept}
use Rattle.store.specs.Chains.{head_of, Chains}
use Rattle.store.specs.JobIn.{counts_in, entries_in, constants_in, namings_in}
use Rattle.store.specs.Regions.{COUNTS, NAME-HEADS, NAME-LINKS, NAME-PLACES, NAME-COUNT}
use Rattle.store.specs.Words.{reference_word, goal_word, IsGoal}
use Rattle.interner.specs.Nodes.{hash_bytes}

-- the first byte of a record that names a thing of this kind
unfoldable pub kind_byte : Kind → ℕ
kind_byte constant = 0x41
kind_byte bootstrap = 0x42

-- how many entries the table of a kind has
unfoldable pub count_in : List ℕ → Kind → ℕ
count_in s constant = (counts_in s).constants
count_in s bootstrap = (counts_in s).bootstraps

-- an entry that a reference cites is there
unfoldable pub CitedIn : List ℕ → Reference → Type 0
CitedIn s (raw n) = n < 65536
CitedIn s (entry kind n) = n < count_in s kind
CitedIn s (name kind label) = Unit {0}

-- the record of a naming stands at a place
abbrev pub NamingAt : List ℕ → ℕ → Naming → Type 0
NamingAt s at x = (next : ℕ) × Found any_definition s at (named x.kind x.label x.target) next × CitedIn s x.target

-- a naming is the one of this kind and label
abbrev pub is_name_lem : Kind → List ℕ → Naming → Bool
is_name_lem kind label x = same_kind_lem kind x.kind && same label x.label

-- the hash of name i
unfoldable pub hash_name : List ℕ → ℕ → ℕ
hash_name s i = elim (get_elem? (namings_in s) i) [ none ↦ 0 | some x ↦ hash_bytes (kind_byte x.kind) x.label ]

-- the first n names of a job are there, in their chains over h heads, and no two are of one kind and label
pub record Names (h : ℕ) (s places heads links : List ℕ) (n : ℕ) : Type 0 where
  pub few : n ≤ length (namings_in s)
  pub at : (i : ℕ) (x : Naming) → i < n → get_elem? (namings_in s) i ≡ some x → NamingAt s (get_or places i 0) x
  pub chains : Chains (λ i. head_of h (hash_name s i)) heads links n
  pub unlike :
      (i j : ℕ) (x y : Naming) → i < j → j < n → get_elem? (namings_in s) i ≡ some x → get_elem? (namings_in s) j ≡ some y →
      is_name_lem x.kind x.label y ≡ false

abbrev pub name_count : Store → ℕ
name_count t = get_or (t COUNTS) NAME-COUNT 0

abbrev pub NamesIn : ℕ → List ℕ → Store → Type 0
NamesIn h s t = Names h s (t NAME-PLACES) (t NAME-HEADS) (t NAME-LINKS) (name_count t)

-- name x is one more, or 11 since it is defined for its kind: t before, u after
pub record Tried (h : ℕ) (s : List ℕ) (t u : Store) (x : Naming) (r : ℕ) : Type 0 where
  pub fresh :
      is_none (name_target x.kind x.label (take (name_count t) (namings_in s))) ≡ true →
      (r ≡ 0) × NamesIn h s u × (name_count u ≡ name_count t + 1)
  pub old : is_none (name_target x.kind x.label (take (name_count t) (namings_in s))) ≡ false → r ≡ 11
  pub counters : (c : ℕ) → (c ≡ NAME-COUNT → ⊥) → get_or (u COUNTS) c 0 ≡ get_or (t COUNTS) c 0
  pub kept : Kept (COUNTS ∷ NAME-HEADS ∷ NAME-LINKS ∷ NAME-PLACES ∷ []) t u

-- every name's goal
pub record Goals (s nameGoals : List ℕ) : Type 0 where
  pub goals :
      (i : ℕ) (x : Naming) → get_elem? (namings_in s) i ≡ some x →
      goal_word (get_or nameGoals i 0) ≡ goal_of (namings_in s) (constants_in s) (name x.kind x.label)
  pub words : (i : ℕ) → i < length (namings_in s) → IsGoal (entries_in s) (get_or nameGoals i 0)

-- a reference's word became a goal's
pub record Goes (s : List ℕ) (reference goal : ℕ) : Type 0 where
  pub leads : goal_word goal ≡ goal_of (namings_in s) (constants_in s) (reference_word s (constants_in s) reference)
  pub word : IsGoal (entries_in s) goal
