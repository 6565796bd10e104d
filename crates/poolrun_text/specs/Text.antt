-- The parts of what is printed, and the room for them. Assumes nothing.
use Rattle.std.specs.Prelude as prelude
use Rattle.std.specs.Prelude.{List, ◌∷◌, ◌++◌, ◌≡◌, ℕ, ◌+◌, ◌*◌, ◌≤◌, length, take, Result, Ok, Err, None, Some}
use Rattle.std.proofs.Math.Option.{Option, none, some}
use Rattle.definition.specs.Basics.{good}
use Rattle.definition.specs.Ascii.{ascii, decimal, hex}
use Rattle.definition.specs.Blocks.{line, class_text, answer_lines, printed, poolrun_lent}
use Rattle.definition.specs.Run.{run}
use Rattle.refusal.specs.declared.Refused.{Refused}
use Rattle.refusal.specs.Numbers.{number}
use Rattle.cpool.specs.declared.Built as code
use Rattle.cpool.specs.Ran.{bytes_of}

-- THE PARTS OF `printed`, in their order

unfoldable pub asked_text : List ℕ → List ℕ → List ℕ
asked_text answers marks = line (ascii "answers " ++ decimal (length answers)) ++ answer_lines answers marks

unfoldable pub pool_text : List ℕ → List ℕ
pool_text pool = line (ascii "pool " ++ decimal (length pool)) ++ line (hex pool)

unfoldable pub bootstraps_text : ℕ → List ℕ → List ℕ
bootstraps_text count bootstraps = line (ascii "bootstraps " ++ decimal count ++ 32 ∷ decimal (length bootstraps)) ++ line (hex bootstraps)

unfoldable pub last_text : ℕ → Option (List ℕ) → ℕ → List ℕ
last_text name class visits = line (ascii "name " ++ decimal name) ++ class_text class ++ line (ascii "visits " ++ decimal visits)

unfoldable pub refused_text : ℕ → ℕ → List ℕ
refused_text code place = line (ascii "refused " ++ decimal code ++ 32 ∷ decimal place)

unfoldable pub built_text : List ℕ → List ℕ → List ℕ → ℕ → List ℕ → ℕ → Option (List ℕ) → ℕ → List ℕ
built_text answers marks pool count bootstraps name class visits =
    printed
    (good
    (record {
      answers = answers;
      marks = marks;
      pool = pool;
      bootstrap_count = count;
      bootstraps = bootstraps;
      name = name;
      class = class;
      visits = visits;
    }))

-- OF THE CODE'S OUTCOME

-- the class name that stands at the front of its output
unfoldable pub name_of : prelude.Option ℕ → List ℕ → Option (List ℕ)
name_of None bytes = none
name_of (Some n) bytes = some (take n bytes)

-- what is printed of an outcome and the outputs afterwards
unfoldable pub text_of : Result code.Built Refused → List ℕ → List ℕ → List ℕ → List ℕ → List ℕ → List ℕ
text_of (Ok b) answers marks pool bootstraps class =
    built_text (take b.answers answers) (take b.answers marks) (take b.pool pool) b.bootstrap_count (take b.bootstraps bootstraps) b.name (name_of b.class_name class) b.visits
text_of (Err r) answers marks pool bootstraps class = refused_text (number r.refusal) r.place

-- an output has room for the text of what is built
pub record Room (out answers marks pool bootstraps size class : ℕ) : Type 0 where
  pub marks_are : marks ≡ answers
  pub out_room : 25 * answers + 2 * pool + 2 * bootstraps + 2 * size + 192 ≤ out
  pub class_room : size ≤ class

-- each part of what is built lies inside its output, and the text has room
unfoldable pub Fits : Result code.Built Refused → ℕ → ℕ → ℕ → ℕ → ℕ → ℕ → Type 0
Fits (Ok b) out answers marks pool bootstraps class =
    (b.answers ≤ answers) × (b.answers ≤ marks) × (b.pool ≤ pool) × (b.bootstraps ≤ bootstraps) × Room out b.answers b.answers b.pool b.bootstraps (bytes_of b.class_name) class
Fits (Err r) out answers marks pool bootstraps class = 50 ≤ out

-- what is lent is as long as `poolrun_lent` says
pub record Lengths (work gaps answers marks pool bootstraps class : ℕ) : Type 0 where
  pub work-is : work ≡ 16384
  pub gaps_is : gaps ≡ 514
  pub answers_is : answers ≡ 32768
  pub marks_is : marks ≡ 65536
  pub pool_is : pool ≡ 65536
  pub bootstraps_is : bootstraps ≡ 65536
  pub class_is : class ≡ 65536

-- OF A FILE THAT WAS READ

-- the job lies inside its buffer
unfoldable pub ReadInto : Result ℕ Refused → ℕ → Type 0
ReadInto (Ok n) size = n ≤ size
ReadInto (Err r) size = Unit {0}

-- what is printed: of the job that stands in front, or the refusal
unfoldable pub read_text : Result ℕ Refused → List ℕ → List ℕ
read_text (Ok n) job = printed (run poolrun_lent (take n job))
read_text (Err r) job = refused_text (number r.refusal) r.place
