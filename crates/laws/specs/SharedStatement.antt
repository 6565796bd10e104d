-- What is promised of constants that are the same, and of bootstraps with the same numbers (document 01, "Resolving", "Slots", "Building"):
-- `Shared`, proved in proofs/reading/Shared.antt. To be read as Statements.antt is. Assumes nothing.
use Rattle.std.specs.Prelude.{true, List, map, ◌↔◌, ◌⊎◌, ◌≡◌, ℕ, suc, ◌≤◌, ◌<◌, length}
use Rattle.std.proofs.Math.Option.{some}
use Rattle.std.proofs.Math.ListN.{get_elem?}
use Rattle.definition.specs.Basics.{good}
use Rattle.definition.specs.Shapes.{Kind, constant, Entry, is_wide}
use Rattle.definition.specs.Job.{Reference, entry, Definition, placed, Request, Job}
use Rattle.definition.specs.Form.{form}
use Rattle.definition.specs.Numbering.{constants_of}
use Rattle.definition.specs.Resolving.{Goal, raw_number, table_entry}
use Rattle.definition.specs.Run.{Built, Lent, run}
use Rattle.jvms.specs.Pool.{Slot, BootstrapMethod, read_pool_lem, read_bootstrap_methods}
use Rattle.laws.specs.AsEntries.{as_shown, as_row}
use Rattle.laws.specs.LeadsStatement.{Leads}
use Rattle.laws.specs.Statements.{IsBytes, Finished, entry_at, CitedAt}

-- THE SAME: two raw numbers are if they are equal; two entries of a job are if tag, literal and kind byte are equal and their references,
-- as many, lead in turn to the same; a raw number and an entry never are, whatever the slot of that number holds
pub data Same (definitions : List (Definition (List ℕ))) : Goal → Goal → Type 0 where
  one_number : (n : ℕ) → Same definitions (raw_number n) (raw_number n)
  two_entries :
      (e₁ e₂ : ℕ) (x₁ x₂ : Entry (List ℕ) Reference) (g₁ g₂ : ℕ → Goal) → entry_at definitions e₁ ≡ some x₁ → entry_at definitions e₂ ≡ some x₂ →
      x₁.tag ≡ x₂.tag → x₁.literal ≡ x₂.literal → x₁.byte ≡ x₂.byte → length x₁.kids ≡ length x₂.kids →
      ((i : ℕ) (r : Reference) → get_elem? x₁.kids i ≡ some r → Leads definitions r (g₁ i)) →
      ((i : ℕ) (r : Reference) → get_elem? x₂.kids i ≡ some r → Leads definitions r (g₂ i)) →
      ((i : ℕ) → i < length x₁.kids → Same definitions (g₁ i) (g₂ i)) → Same definitions (table_entry e₁) (table_entry e₂)

-- the numbers that were given, each to what a reference leads to: the answer to a request; and the number in the place of a reference that
-- an entry cites, where the finished pool has this entry: at a number given to it, or at the slot or index of its raw definition (which
-- itself isn't given: the job says it)
pub data GivenTo (f : Finished) (requests : List Request) (answers : List ℕ) : Goal → ℕ → Type 0 where
  answer_to :
      (i : ℕ) (q : Request) (a : ℕ) (goal : Goal) → get_elem? requests i ≡ some q → get_elem? answers i ≡ some a →
      Leads f.definitions q.what goal → GivenTo f requests answers goal a
  in_given :
      (e n : ℕ) (r : Reference) (m : ℕ) (goal : Goal) → GivenTo f requests answers (table_entry e) n → CitedAt f e n r m →
      Leads f.definitions r goal → GivenTo f requests answers goal m
  in_raw :
      (i : ℕ) (kind : Kind) (n number e : ℕ) (r : Reference) (m : ℕ) (goal : Goal) →
      get_elem? f.definitions i ≡ some (placed kind n number) → Leads f.definitions (entry kind number) (table_entry e) →
      CitedAt f e n r m → Leads f.definitions r goal → GivenTo f requests answers goal m

-- request i leads to entry e, and its answer is a
abbrev pub AnsweredBy : Finished → List Request → List ℕ → ℕ → ℕ → ℕ → Type 0
AnsweredBy f requests answers i e a =
    (q : Request) × (get_elem? requests i ≡ some q) × Leads f.definitions q.what (table_entry e) × (get_elem? answers i ≡ some a)

-- a constant at slot s takes slot t: its own, and the next if it is wide
abbrev pub Takes : Entry (List ℕ) Reference → ℕ → ℕ → Type 0
Takes x s t = (t ≡ s) ⊎ ((is_wide x.tag ≡ true) × (t ≡ suc s))

-- what is shared, and what isn't
pub record SharedBy (f : Finished) (requests : List Request) (answers : List ℕ) : Type 0 where
  -- two requests that lead to entries have one answer exactly if these are the same
  pub answers_shared :
      (i₁ i₂ e₁ e₂ a₁ a₂ : ℕ) → AnsweredBy f requests answers i₁ e₁ a₁ → AnsweredBy f requests answers i₂ e₂ a₂ →
      (a₁ ≡ a₂) ↔ Same f.definitions (table_entry e₁) (table_entry e₂)
  -- so have any two constants that were given slots
  pub slots_shared :
      (e₁ e₂ n₁ n₂ : ℕ) → e₁ < length (constants_of f.definitions) → e₂ < length (constants_of f.definitions) →
      GivenTo f requests answers (table_entry e₁) n₁ → GivenTo f requests answers (table_entry e₂) n₂ →
      (n₁ ≡ n₂) ↔ Same f.definitions (table_entry e₁) (table_entry e₂)
  -- two bootstraps that were given indexes have one exactly if their rows have the same numbers, as the same ones do
  pub indexes_shared :
      (e₁ e₂ n₁ n₂ : ℕ) → length (constants_of f.definitions) ≤ e₁ → length (constants_of f.definitions) ≤ e₂ →
      GivenTo f requests answers (table_entry e₁) n₁ → GivenTo f requests answers (table_entry e₂) n₂ →
      (y₁ : Entry (List ℕ) ℕ) × (y₂ : Entry (List ℕ) ℕ) × (get_elem? f.bootstraps n₁ ≡ some y₁) × (get_elem? f.bootstraps n₂ ≡ some y₂)
      × ((n₁ ≡ n₂) ↔ (y₁.kids ≡ y₂.kids)) × (Same f.definitions (table_entry e₁) (table_entry e₂) → n₁ ≡ n₂)
  -- no slot t that raw constant y takes, which is placed at n, is taken by constant x, which is asked for and got a, be it the same or not
  pub answers_not_raw :
      (i j e n number a t : ℕ) (x y : Entry (List ℕ) Reference) → get_elem? f.definitions i ≡ some (placed constant n number) →
      entry_at f.definitions number ≡ some y → entry_at f.definitions e ≡ some x → AnsweredBy f requests answers j e a →
      Takes y n t → Takes x a t → ⊥
  -- or by any constant that was given a slot
  pub slots_not_raw :
      (i e n number s t : ℕ) (x y : Entry (List ℕ) Reference) → get_elem? f.definitions i ≡ some (placed constant n number) →
      entry_at f.definitions number ≡ some y → entry_at f.definitions e ≡ some x → e < length (constants_of f.definitions) →
      GivenTo f requests answers (table_entry e) s → Takes y n t → Takes x s t → ⊥

-- SHARED: of a job of bytes that is built, the finished pool and bootstraps read under JVMS, and two answers to requests that lead to entries
-- are equal exactly if the constants are the same; so are the slots of constants that others cite; cited bootstraps have one index exactly
-- if their rows have the same numbers; and no slot of a raw constant is an answer or was given, even to the same constant
abbrev pub Shared : Type 0
Shared =
    (bytes : List ℕ) (job : Job (List ℕ)) (lent : Lent) (b : Built) → IsBytes bytes → form bytes ≡ good job → run lent bytes ≡ good b →
    (pool : List Slot) × (methods : List BootstrapMethod) × (read_pool_lem b.pool ≡ some pool)
    × (read_bootstrap_methods b.bootstrap_count b.bootstraps ≡ some methods)
    × SharedBy (record { definitions = job.definitions; pool = map as_shown pool; bootstraps = map as_row methods }) job.requests b.answers
