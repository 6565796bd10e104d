-- The job that well-formed bytes are, and its parts as the builder goes over them. Assumes nothing.
use Rattle.std.specs.Prelude.{List, [], ◌∷◌, ◌++◌, ◌≡◌, ℕ, ◌≤◌, length}
use Rattle.definition.specs.Basics.{good, bad}
use Rattle.definition.specs.Shapes.{Entry}
use Rattle.definition.specs.Job.{Reference, Definition, define, named, placed, setting, slot, Job}
use Rattle.definition.specs.Form.{form}
use Rattle.definition.specs.Numbering.{constants_of, bootstraps_of, numbered}
use Rattle.definition.specs.Definitions.{Naming}
use Rattle.definition.specs.Resolving.{Goal, linked}
use Rattle.definition.specs.Run.{longest_job}
use Rattle.job.specs.declared.JobCounts.{JobCounts}
use Rattle.job.specs.Forms.{counts_of}

-- the form pass accepts the bytes, and they aren't too long. It is shut, so that a search takes it whole from the premises
unfoldable pub WellFormed : List ℕ → Type 0
WellFormed s = ((job : Job (List ℕ)) × (form s ≡ good job)) × (length s ≤ longest_job)

-- the job that they are; of other bytes it is never asked
unfoldable pub job_in : List ℕ → Job (List ℕ)
job_in s =
    elim (form s) [
      | good job ↦ job
      | bad refusal ↦ record { definitions = []; requests = []; build = record { name_byte = 0; class = slot 0 } }
    ]

unfoldable pub definitions_in : List ℕ → List (Definition (List ℕ))
definitions_in s = (job_in s).definitions

-- what the form pass counts
unfoldable pub counts_in : List ℕ → JobCounts
counts_in s = counts_of (definitions_in s) (length (job_in s).requests)

-- the one table: constants, then bootstraps
unfoldable pub table_of : {L : Type 0} → List (Definition L) → List (Entry L Reference)
table_of definitions = constants_of definitions ++ bootstraps_of definitions

abbrev pub table_in : List ℕ → List (Entry (List ℕ) Reference)
table_in s = table_of (definitions_in s)

abbrev pub entries_in : List ℕ → ℕ
entries_in s = length (table_in s)

abbrev pub constants_in : List ℕ → ℕ
constants_in s = length (constants_of (definitions_in s))

-- the same with numbers for literals, as the definition's records in turn see it
unfoldable pub numbered_in : List ℕ → List (Entry ℕ Reference)
numbered_in s = table_of (numbered (job_in s)).definitions

-- the names that definitions give, in turn
unfoldable pub namings_of : {L : Type 0} → List (Definition L) → List Naming
namings_of [] = []
namings_of (define e ∷ rest) = namings_of rest
namings_of (named kind s r ∷ rest) = record { kind = kind; label = s; target = r } ∷ namings_of rest
namings_of (placed kind at number ∷ rest) = namings_of rest
namings_of (setting s ∷ rest) = namings_of rest

abbrev pub namings_in : List ℕ → List Naming
namings_in s = namings_of (definitions_in s)

-- the one table with its references followed
unfoldable pub linked_in : List ℕ → List (Entry ℕ Goal)
linked_in s = linked (namings_in s) (constants_in s) (numbered_in s)
