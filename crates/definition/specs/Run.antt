-- The whole run over what the caller lends (document 01, "Lent memory" and "Refusal numbers"). Assumes nothing.
use Rattle.std.specs.Prelude.{Bool, true, false, ◌&&◌, ◌||◌, List, [], ◌∷◌, ◌++◌, map, ℕ, suc, ◌+◌, ◌*◌, ◌/◌, eqb, leb, length, drop, replicate}
use Rattle.std.proofs.Math.Option.{Option, none, some}
use Rattle.definition.specs.Basics.{Result, good, bad, ◌>>=◌, Refusal, at_record, unless, concat, lookup}
use Rattle.definition.specs.Bytes.{be2}
use Rattle.definition.specs.Shapes.{shapes, bootstrap_shape, bootstrap_tag, Entry, with_literal, write_fields}
use Rattle.definition.specs.Form.{form}
use Rattle.definition.specs.Numbering.{top_of, Literal, literals, literal_of, numbered}
use Rattle.definition.specs.Slots.{Gap}
use Rattle.definition.specs.Building.{mark_of, Row, Content, nothing, empty_text, holds}
use Rattle.definition.specs.Layout.{Layout, layout}

-- what a slot shows once literals are bytes again: nothing, or an entry; an unowned slot shows the empty text
unfoldable pub shown : List Literal → Content → Option (Entry (List ℕ) ℕ)
shown all nothing = none
shown all empty_text = some (record { tag = 1; literal = []; byte = 0; kids = [] })
shown all (holds e) = some (with_literal (literal_of all e.literal) e)

-- an entry's bytes: its tag, then its fields by its shape
unfoldable pub entry_bytes : Entry (List ℕ) ℕ → List ℕ
entry_bytes e = elim (lookup e.tag shapes) [ none ↦ [] | some fields ↦ e.tag ∷ write_fields fields e e.kids ]

unfoldable pub slot_bytes : Option (Entry (List ℕ) ℕ) → List ℕ
slot_bytes none = []
slot_bytes (some e) = entry_bytes e

-- a bootstrap row's bytes, by its shape
unfoldable pub row_bytes : Row → List ℕ
row_bytes row = write_fields bootstrap_shape (record { tag = bootstrap_tag; literal = []; byte = 0; kids = row }) row

-- the class name's bytes, if there is one
unfoldable pub class_bytes : List Literal → Option (Option ℕ) → Option (List ℕ)
class_bytes all none = none
class_bytes all (some none) = some []
class_bytes all (some (some n)) = some (literal_of all n)

-- everything that is returned
pub record Built : Type 0 where
  pub answers : List ℕ
  pub marks : List ℕ
  pub pool : List ℕ
  pub bootstrap_count : ℕ
  pub bootstraps : List ℕ
  pub name : ℕ
  pub class : Option (List ℕ)
  pub visits : ℕ

-- the pool is its count, then the entries below it; bootstrap bytes carry no count
unfoldable pub render : List Literal → Layout → Built
render all l =
    record {
      answers = l.answers;
      marks = map mark_of l.origins;
      pool = be2 l.count ++ concat (map (λ c. slot_bytes (shown all c)) l.contents);
      bootstrap_count = length l.rows;
      bootstraps = concat (map row_bytes l.rows);
      name = l.name;
      class = class_bytes all l.class;
      visits = l.visits;
    }

-- a built job, and the number of its build record
abbrev pub Placed : Type 0
Placed = ℕ × Built

-- a job of any length with memory enough: form over the whole job, then the records in turn
unfoldable pub build : List ℕ → Result Refusal Placed
build bytes = do
  job ← form bytes
  l ← layout (top_of job) (numbered job)
  good (suc (length job.definitions + length job.requests), render (literals job) l)

-- what the caller lends: work in words, gaps, answers in u16, the other outputs in bytes
pub record Memory : Type 0 where
  pub work : List ℕ
  pub gaps : List Gap
  pub answers : List ℕ
  pub marks : List ℕ
  pub pool : List ℕ
  pub bootstraps : List ℕ
  pub class : List ℕ

-- how much of each
pub record Lent : Type 0 where
  pub work : ℕ
  pub gaps : ℕ
  pub answers : ℕ
  pub marks : ℕ
  pub pool : ℕ
  pub bootstraps : ℕ
  pub class : ℕ

unfoldable pub lent_of : Memory → Lent
lent_of m =
    record {
      work = length m.work;
      gaps = length m.gaps;
      answers = length m.answers;
      marks = length m.marks;
      pool = length m.pool;
      bootstraps = length m.bootstraps;
      class = length m.class;
    }

-- a job is at most 1,048,576 bytes
abbrev pub longest_job : ℕ
longest_job = 1048576

-- work of at least 6 x job bytes + 1,024 words, a gap table of at least job bytes / 5 + 2 gaps
unfoldable pub enough : ℕ → Lent → Bool
enough size lent = leb (6 * size + 1024) lent.work && leb (size / 5 + 2) lent.gaps

-- the class name's bytes, none if there is no class name: it needs no room then
unfoldable pub class_out : Option (List ℕ) → List ℕ
class_out none = []
class_out (some s) = s

-- every output has room
unfoldable pub fits : Built → Lent → Bool
fits b lent =
    leb (length b.answers) lent.answers
    && (leb (length b.marks) lent.marks
    && (leb (length b.pool) lent.pool
    && (leb (length b.bootstraps) lent.bootstraps
    && leb (length (class_out b.class)) lent.class)))

-- THE DEFINITION, for a job of bytes, numbers below 256: 1, 2, then the form and the records in turn, last 18 at the build record
unfoldable pub run : Lent → List ℕ → Result Refusal Built
run lent bytes = do
  _ ← at_record 0 (unless (leb (length bytes) longest_job) 1)
  _ ← at_record 0 (unless (enough (length bytes) lent) 2)
  r ← build bytes
  _ ← at_record r.0 (unless (fits r.1 lent) 18)
  good r.1

-- a refusal's number and record; both 0 on success
unfoldable pub refusal_of : Result Refusal Built → Refusal
refusal_of (bad r) = r
refusal_of (good b) = record { code = 0; place = 0 }

-- any other number that is returned: 0 beside a refusal
unfoldable pub returned : (Built → ℕ) → Result Refusal Built → ℕ
returned part (bad r) = 0
returned part (good b) = part b

-- work and gaps are untouched after refusals 1 and 2
unfoldable pub untouched : Result Refusal Built → Bool
untouched (bad r) = eqb r.code 1 || eqb r.code 2
untouched (good b) = false

-- work or gaps afterwards: wholly zero after every other ending; `blank` is 0 for work and a gap of 0 and 0 for gaps
unfoldable pub cleared_after : {A : Type 0} → A → Result Refusal Built → List A → List A
cleared_after blank outcome before = elim (untouched outcome) [ true ↦ before | false ↦ replicate (length before) blank ]

-- success writes a prefix of an output and nothing behind it
unfoldable pub overwrite : List ℕ → List ℕ → List ℕ
overwrite new before = new ++ drop (length new) before

-- an output afterwards; refusal writes none
unfoldable pub output_after : (Built → List ℕ) → Result Refusal Built → List ℕ → List ℕ
output_after part (bad r) before = before
output_after part (good b) before = overwrite (part b) before

-- all that was lent, afterwards
unfoldable pub memory_after : Result Refusal Built → Memory → Memory
memory_after outcome m =
    record {
      work = cleared_after 0 outcome m.work;
      gaps = cleared_after (record { first = 0; last = 0 }) outcome m.gaps;
      answers = output_after (λ b. b.answers) outcome m.answers;
      marks = output_after (λ b. b.marks) outcome m.marks;
      pool = output_after (λ b. b.pool) outcome m.pool;
      bootstraps = output_after (λ b. b.bootstraps) outcome m.bootstraps;
      class = output_after (λ b. class_out b.class) outcome m.class;
    }
