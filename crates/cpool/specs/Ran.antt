-- What `run` promises: it ends as the definition's `run` does, tells its numbers, and leaves all lent memory as it says. Assumes nothing.
use Rattle.std.specs.Prelude.{Bool, true, false, List, [], ◌∷◌, map, ◌≡◌, ℕ, eqb, length, Ok, Err, Some, None, Result as Answer, Option as Maybe}
use Rattle.std.proofs.Math.Option.{Option, none, some}
use Rattle.definition.specs.Basics.{Result, good, bad, Refusal}
use Rattle.definition.specs.Run.{Built, Memory, lent_of, run, refusal_of, returned, cleared_after, memory_after}
use Rattle.slots.specs.Gaps.{GapTable, gap_of, no_gap}
use Rattle.refusal.specs.declared.Refused.{Refused}
use Rattle.refusal.specs.Numbers.{number as refusal_number}
use Rattle.cpool.specs.declared.Built as code

-- the numbers of document 01 that a run returns: a refusal's number and record; how many answers, each with its mark, and how many
-- bytes of pool, bootstraps and class name, were written; the number of bootstraps; the name's slot; whether there is a class name (1) or none (0);
-- the visits
pub record Numbers : Type 0 where
  pub code : ℕ
  pub place : ℕ
  pub answers : ℕ
  pub pool : ℕ
  pub bootstrap_count : ℕ
  pub bootstraps : ℕ
  pub name : ℕ
  pub class : ℕ
  pub class_bytes : ℕ
  pub visits : ℕ

-- OF THE CODE'S OUTCOME

-- what a run answers
abbrev pub Outcome : Type 0
Outcome = Answer code.Built Refused

-- whether there is a class name, and its length, 0 where there is none
unfoldable pub given : Maybe ℕ → ℕ
given None = 0
given (Some n) = 1

unfoldable pub bytes_of : Maybe ℕ → ℕ
bytes_of None = 0
bytes_of (Some n) = n

-- the numbers of each case: no refusal beside what is built, and every other number 0 beside a refusal
unfoldable pub told : Outcome → Numbers
told (Ok b) =
    record {
      code = 0;
      place = 0;
      answers = b.answers;
      pool = b.pool;
      bootstrap_count = b.bootstrap_count;
      bootstraps = b.bootstraps;
      name = b.name;
      class = given b.class_name;
      class_bytes = bytes_of b.class_name;
      visits = b.visits;
    }
told (Err r) =
    record {
      code = refusal_number r.refusal;
      place = r.place;
      answers = 0;
      pool = 0;
      bootstrap_count = 0;
      bootstraps = 0;
      name = 0;
      class = 0;
      class_bytes = 0;
      visits = 0;
    }

unfoldable pub is_built : Outcome → Bool
is_built (Ok b) = true
is_built (Err r) = false

-- OF THE DEFINITION'S RESULT

unfoldable pub class_given : Option (List ℕ) → ℕ
class_given none = 0
class_given (some bytes) = 1

unfoldable pub class_size : Option (List ℕ) → ℕ
class_size none = 0
class_size (some bytes) = length bytes

unfoldable pub numbers : Result Refusal Built → Numbers
numbers result =
    record {
      code = (refusal_of result).code;
      place = (refusal_of result).place;
      answers = returned (λ b. length b.answers) result;
      pool = returned (λ b. length b.pool) result;
      bootstrap_count = returned (λ b. b.bootstrap_count) result;
      bootstraps = returned (λ b. length b.bootstraps) result;
      name = returned (λ b. b.name) result;
      class = returned (λ b. class_given b.class) result;
      class_bytes = returned (λ b. class_size b.class) result;
      visits = returned (λ b. b.visits) result;
    }

unfoldable pub is_good : Result Refusal Built → Bool
is_good (good b) = true
is_good (bad r) = false

-- THE MEMORY

-- what the caller lent, as slices hold it: a row of the gap table is a gap record
pub record Slices : Type 0 where
  pub work : List ℕ
  pub rows : GapTable
  pub answers : List ℕ
  pub marks : List ℕ
  pub pool : List ℕ
  pub bootstraps : List ℕ
  pub class : List ℕ

-- the same as the definition has it
unfoldable pub memory_of : Slices → Memory
memory_of m =
    record {
      work = m.work;
      gaps = map gap_of m.rows;
      answers = m.answers;
      marks = m.marks;
      pool = m.pool;
      bootstraps = m.bootstraps;
      class = m.class;
    }

abbrev pub slices : List ℕ → GapTable → List ℕ → List ℕ → List ℕ → List ℕ → List ℕ → Slices
slices work rows answers marks pool bootstraps class =
    record { work = work; rows = rows; answers = answers; marks = marks; pool = pool; bootstraps = bootstraps; class = class }

-- THE PROMISE

-- the definition's result for a job over what was lent
unfoldable pub result_of : List ℕ → Slices → Result Refusal Built
result_of job before = run (lent_of (memory_of before)) job

-- the outcome r is the definition's, with each of its numbers, and the memory afterwards is the definition's, whatever it held. A gap
-- record is left whole or is zero
pub record Ran (job : List ℕ) (before after : Slices) (r : Outcome) : Type 0 where
  pub case : is_built r ≡ is_good (result_of job before)
  pub numbers : told r ≡ numbers (result_of job before)
  pub memory : memory_of after ≡ memory_after (result_of job before) (memory_of before)
  pub rows : after.rows ≡ cleared_after no_gap (result_of job before) before.rows

-- FOR RUST AND C

-- the numbers beside the refusal's, in the order in which they are written
unfoldable pub listed : Numbers → List ℕ
listed n =
    n.place
    ∷ n.answers
    ∷ n.pool
    ∷ n.bootstrap_count
    ∷ n.bootstraps
    ∷ n.name
    ∷ n.class
    ∷ n.class_bytes
    ∷ n.visits
    ∷ []

-- the same promise: the number returned is the definition's, 0 exactly if the job is built; so are those written, and the memory. That it is
-- 0 or a refusal's follows: `KnownNumbers`
pub record Told (job : List ℕ) (before after : Slices) (code : ℕ) (others : List ℕ) : Type 0 where
  pub number : code ≡ (numbers (result_of job before)).code
  pub case : eqb code 0 ≡ is_good (result_of job before)
  pub written : others ≡ listed (numbers (result_of job before))
  pub memory : memory_of after ≡ memory_after (result_of job before) (memory_of before)
  pub rows : after.rows ≡ cleared_after no_gap (result_of job before) before.rows
