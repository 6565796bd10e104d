-- Entries of the one table in the regions: where each stands in the job, where its references' words stand, and the words of those worked
-- out. Assumes nothing.
use Rattle.std.specs.Prelude.{true, List, ◌⊎◌, ◌≡◌, ℕ, ◌+◌, ◌/◌, ◌≤◌, ◌<◌, length, get_or}
use Rattle.std.proofs.Math.Option.{some}
use Rattle.std.proofs.Math.ListN.{get_elem?}
use Rattle.definition.specs.Shapes.{Entry}
use Rattle.definition.specs.Job.{Reference, define}
use Rattle.definition.specs.Resolving.{Goal}
use Rattle.job.specs.Stored.{Found, any_definition, is_worked, WhatEntry}
use Rattle.store.specs.JobIn.{counts_in, table_in, entries_in, linked_in}
use Rattle.store.specs.Words.{number_bytes, goal_word, IsGoal}

-- x is entry e: it stands at its place in the job, and its references' words stand from FIRSTS e on, before `end`
pub record EntryAt (s offsets firsts sizes : List ℕ) (end e : ℕ) (x : Entry (List ℕ) Reference) : Type 0 where
  pub next : ℕ
  pub stands : Found any_definition s (get_or offsets e 0) (define x) next
  pub count : get_or sizes e 0 ≡ length x.kids
  pub room : get_or firsts e 0 + get_or sizes e 0 ≤ end

-- the references' words of two entries have no place in common
abbrev pub Apart : List ℕ → List ℕ → ℕ → ℕ → Type 0
Apart firsts sizes d e =
    (get_or firsts d 0 + get_or sizes d 0 ≤ get_or firsts e 0) ⊎ (get_or firsts e 0 + get_or sizes e 0 ≤ get_or firsts d 0)

-- the literal of a constant worked out at a place of the job is kept as words
abbrev pub WordsAt : List ℕ → List ℕ → ℕ → Type 0
WordsAt s values at =
    is_worked s at ≡ true → WhatEntry s at (λ x. number_bytes x.tag (get_or values (at / 3) 0) (get_or values (at / 3 + 1) 0) ≡ x.literal)

-- all entries of a job are there
pub record Entered (s offsets firsts sizes values : List ℕ) : Type 0 where
  pub at : (e : ℕ) (x : Entry (List ℕ) Reference) → get_elem? (table_in s) e ≡ some x → EntryAt s offsets firsts sizes (counts_in s).references e x
  pub apart : (d e : ℕ) → d < entries_in s → e < entries_in s → (d ≡ e → ⊥) → Apart firsts sizes d e
  pub worked : (e : ℕ) → e < entries_in s → WordsAt s values (get_or offsets e 0)

-- the words of their references are the goals of the linked table
pub record Linked (s firsts goals : List ℕ) : Type 0 where
  pub kids :
      (e : ℕ) (x : Entry ℕ Goal) → get_elem? (linked_in s) e ≡ some x → (i : ℕ) (g : Goal) → get_elem? x.kids i ≡ some g →
      goal_word (get_or goals (get_or firsts e 0 + i) 0) ≡ g
  pub words : (i : ℕ) → i < (counts_in s).references → IsGoal (entries_in s) (get_or goals i 0)
