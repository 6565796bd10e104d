-- What the stages of a run behind refusals 1 and 2 leave. Assumes nothing.
use Rattle.std.specs.Prelude.{List, ◌≡◌, ℕ, length, Option as Maybe}
use Rattle.std.proofs.Math.Option.{Option}
use Rattle.definition.specs.Basics.{Result, good, Refusal, ◌>>=◌, at_record, unless}
use Rattle.definition.specs.Run.{Built, Lent, build, fits, class_out, output_after}
use Rattle.cpool.specs.declared.Outputs as code
use Rattle.cpool.specs.Ran.{Outcome, given, bytes_of, told, is_built, class_given, class_size, numbers, is_good}

-- the five outputs
pub record Outputs : Type 0 where
  pub answers : List ℕ
  pub marks : List ℕ
  pub pool : List ℕ
  pub bootstraps : List ℕ
  pub class : List ℕ

abbrev pub outputs : List ℕ → List ℕ → List ℕ → List ℕ → List ℕ → Outputs
outputs answers marks pool bootstraps class =
    record { answers = answers; marks = marks; pool = pool; bootstraps = bootstraps; class = class }

-- those that the code is lent, and two of it stand in the same buffers
abbrev pub lent : code.Outputs → Outputs
lent o = outputs o.answers.now o.marks.now o.pool.now o.bootstraps.now o.class_name.now

abbrev pub SameBuffers : code.Outputs → code.Outputs → Type 0
SameBuffers before after =
    (after.answers.ghost_name ≡ before.answers.ghost_name)
    × (after.marks.ghost_name ≡ before.marks.ghost_name)
    × (after.pool.ghost_name ≡ before.pool.ghost_name)
    × (after.bootstraps.ghost_name ≡ before.bootstraps.ghost_name)
    × (after.class_name.ghost_name ≡ before.class_name.ghost_name)

-- how much of each is lent; work and gaps are no question any more
unfoldable pub room_of : Outputs → Lent
room_of o =
    record {
      work = 0;
      gaps = 0;
      answers = length o.answers;
      marks = length o.marks;
      pool = length o.pool;
      bootstraps = length o.bootstraps;
      class = length o.class;
    }

-- a run behind refusals 1 and 2: 18 at the build record; and before that the form and the records in turn
unfoldable pub fitted : Lent → ℕ → Built → Result Refusal Built
fitted lent place b = at_record place (unless (fits b lent) 18) >>= λ _. good b

unfoldable pub onward : Lent → List ℕ → Result Refusal Built
onward lent bytes = build bytes >>= λ r. fitted lent r.0 r.1

-- a class name's length, as it is told
pub record ClassTold (name : Option (List ℕ)) (r : Maybe ℕ) : Type 0 where
  pub given_is : given r ≡ class_given name
  pub bytes-are : bytes_of r ≡ class_size name

-- r tells this result
pub record Tells (result : Result Refusal Built) (r : Outcome) : Type 0 where
  pub case : is_built r ≡ is_good result
  pub numbers : told r ≡ numbers result

-- and the outputs afterwards are as it says
pub record Gave (result : Result Refusal Built) (before after : Outputs) (r : Outcome) : Type 0 where
  pub tells : Tells result r
  pub answers : after.answers ≡ output_after (λ b. b.answers) result before.answers
  pub marks : after.marks ≡ output_after (λ b. b.marks) result before.marks
  pub pool : after.pool ≡ output_after (λ b. b.pool) result before.pool
  pub bootstraps : after.bootstraps ≡ output_after (λ b. b.bootstraps) result before.bootstraps
  pub class : after.class ≡ output_after (λ b. class_out b.class) result before.class
