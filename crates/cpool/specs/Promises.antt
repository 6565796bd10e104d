-- What is promised of every run, over what then stands in the caller's buffers. The premise of each is `run`'s contract (`Ran`), of a job
-- of bytes, or how two jobs are alike, and nothing else; they carry the laws of crates/laws, causes and order over to the code. How a
-- statement reads: crates/laws/specs/Statements.antt. Assumes nothing.
use Rattle.std.specs.Prelude.{true, false, List, [], map, ◌↔◌, ◌⊎◌, ◌≢◌, ◌≡◌, ℕ, ◌≤◌, eqb, length, take, drop, replicate}
use Rattle.std.proofs.Math.Option
use Rattle.std.proofs.Math.Option.{none, some}
use Rattle.definition.specs.Basics.{good}
use Rattle.definition.specs.Shapes.{bootstrap_tag}
use Rattle.definition.specs.Job.{Job}
use Rattle.definition.specs.Form.{form}
use Rattle.definition.specs.Numbering.{top_of, literals, numbered}
use Rattle.definition.specs.Layout.{Layout, layout}
use Rattle.definition.specs.Run.{shown, Built, render, lent_of}
use Rattle.facts.specs.Lists.{Among}
use Rattle.jvms.specs.Pool.{Slot, BootstrapMethod, read_pool_lem, read_bootstrap_methods}
use Rattle.laws.specs.AsEntries.{as_shown, as_row}
use Rattle.laws.specs.Statements.{IsBytes, Alike, HeldBy}
use Rattle.laws.specs.ShapeStatement.{PoolsAlike, ClassesAlike}
use Rattle.laws.specs.SharedStatement.{SharedBy}
use Rattle.laws.specs.MarksStatement.{MarkedBy}
use Rattle.causes.specs.CauseStatement.{CauseOf}
use Rattle.order.specs.OrderStatement.{IsRecord, job_of, Moved, WellFormed}
use Rattle.refusal.specs.declared.Refusal as refusal
use Rattle.refusal.specs.Numbers.{number}
use Rattle.slots.specs.Gaps.{no_gap}
use Rattle.cpool.specs.Ran.{Outcome, Numbers, told, is_built, Slices, memory_of, Ran, listed, Told}

-- what the caller has once a job is built: of each buffer as much as the numbers tell
unfoldable pub handed : Outcome → Slices → Built
handed r after =
    record {
      answers = take (told r).answers after.answers;
      marks = take (told r).answers after.marks;
      pool = take (told r).pool after.pool;
      bootstrap_count = (told r).bootstrap_count;
      bootstraps = take (told r).bootstraps after.bootstraps;
      name = (told r).name;
      class = elim (eqb (told r).class 1) [ true ↦ some (take (told r).class_bytes after.class) | false ↦ none ];
      visits = (told r).visits;
    }

-- DEMAND 1: EVERY JOB

-- nothing changed behind the first n of a buffer
pub record PrefixOnly (n : ℕ) (before after : List ℕ) : Type 0 where
  pub fits : n ≤ length before
  pub long : length after ≡ length before
  pub behind : drop n after ≡ drop n before

-- work and gaps are wholly zero
abbrev pub Cleared : Slices → Slices → Type 0
Cleared before after =
    (after.work ≡ replicate (length before.work) 0) × (after.rows ≡ replicate (length before.rows) no_gap)

-- a job that is built writes a prefix of each output and nothing behind it
pub record BuiltRun (before after : Slices) (n : Numbers) : Type 0 where
  pub answers : PrefixOnly n.answers before.answers after.answers
  pub marks : PrefixOnly n.answers before.marks after.marks
  pub pool : PrefixOnly n.pool before.pool after.pool
  pub bootstraps : PrefixOnly n.bootstraps before.bootstraps after.bootstraps
  pub class : PrefixOnly n.class_bytes before.class after.class
  pub cleared : Cleared before after

-- a job that is refused has a number from 1 to 18 or from 22 to 26, and writes nothing
pub record RefusedRun (before after : Slices) (n : Numbers) : Type 0 where
  pub low : 1 ≤ n.code
  pub high : (n.code ≤ 18) ⊎ ((22 ≤ n.code) × (n.code ≤ 26))
  pub answers : after.answers ≡ before.answers
  pub marks : after.marks ≡ before.marks
  pub pool : after.pool ≡ before.pool
  pub bootstraps : after.bootstraps ≡ before.bootstraps
  pub class : after.class ≡ before.class
  pub untouched : n.code ≤ 2 → (after.work ≡ before.work) × (after.rows ≡ before.rows)
  pub cleared : 3 ≤ n.code → Cleared before after

-- every job gets a result, or a numbered refusal that writes nothing
abbrev pub EveryJob : Type 0
EveryJob =
    (job : List ℕ) (before after : Slices) (r : Outcome) → IsBytes job → Ran job before after r →
    ((is_built r ≡ true) × BuiltRun before after (told r)) ⊎ ((is_built r ≡ false) × RefusedRun before after (told r))

-- DEMAND 2: READS. The bytes that stand in the caller's pool read, under JVMS 4.4, as exactly what the job's layout assigns to each slot,
-- and those of the bootstraps, under 4.7.23, as exactly its rows
abbrev pub CodeReads : Type 0
CodeReads =
    (job : List ℕ) (before after : Slices) (r : Outcome) → IsBytes job → Ran job before after r → is_built r ≡ true →
    (records : Job (List ℕ)) × (l : Layout) × (form job ≡ good records) × (layout (top_of records) (numbered records) ≡ good l)
    × (handed r after ≡ render (literals records) l)
    × (Option.map (map as_shown) (read_pool_lem (handed r after).pool) ≡ some (map (shown (literals records)) l.contents))
    × (Option.map (map as_row) (read_bootstrap_methods (handed r after).bootstrap_count (handed r after).bootstraps)
    ≡ some (map (λ row. record { tag = bootstrap_tag; literal = []; byte = 0; kids = row }) l.rows))

-- HOLDS. Each answer that stands in the caller's buffer shows, in the pool that stands there, the constant that was asked for, and all
-- else that `HeldBy` says holds of it
abbrev pub CodeHolds : Type 0
CodeHolds =
    (job : List ℕ) (before after : Slices) (r : Outcome) → IsBytes job → Ran job before after r → is_built r ≡ true →
    (records : Job (List ℕ)) × (pool : List Slot) × (methods : List BootstrapMethod) × (form job ≡ good records)
    × (read_pool_lem (handed r after).pool ≡ some pool)
    × (read_bootstrap_methods (handed r after).bootstrap_count (handed r after).bootstraps ≡ some methods)
    × HeldBy
    (record { definitions = records.definitions; pool = map as_shown pool; bootstraps = map as_row methods })
    records.requests
    records.build
    (handed r after)

-- SHARED. Of the answers that stand there, those to requests that lead to entries are equal exactly if the constants are the same, and all
-- else that `SharedBy` says holds of them
abbrev pub CodeShared : Type 0
CodeShared =
    (job : List ℕ) (before after : Slices) (r : Outcome) → IsBytes job → Ran job before after r → is_built r ≡ true →
    (records : Job (List ℕ)) × (pool : List Slot) × (methods : List BootstrapMethod) × (form job ≡ good records)
    × (read_pool_lem (handed r after).pool ≡ some pool)
    × (read_bootstrap_methods (handed r after).bootstrap_count (handed r after).bootstraps ≡ some methods)
    × SharedBy
    (record { definitions = records.definitions; pool = map as_shown pool; bootstraps = map as_row methods })
    records.requests
    (handed r after).answers

-- MARKS. Of the marks that stand there, one for each request, a mark is raw exactly if the request leads to a raw number, and new or old by
-- whether an earlier request leads to the same constant
abbrev pub CodeMarks : Type 0
CodeMarks =
    (job : List ℕ) (before after : Slices) (r : Outcome) → IsBytes job → Ran job before after r → is_built r ≡ true →
    (records : Job (List ℕ)) × (form job ≡ good records) × MarkedBy records.definitions records.requests (handed r after).marks

-- CAUSE. A refusal has the cause of its number at its record, and a job is built exactly if there is no cause of a refusal
abbrev pub CodeCause : Type 0
CodeCause =
    (job : List ℕ) (before after : Slices) (r : Outcome) → IsBytes job → Ran job before after r →
    (is_built r ≡ false → CauseOf (lent_of (memory_of before)) job (told r).code (told r).place)
    × ((is_built r ≡ true) ↔ ((code place : ℕ) → CauseOf (lent_of (memory_of before)) job code place → ⊥))

-- DEMAND 3: SHAPE. Two jobs alike but for their literals, neither refused for length, work or room, are refused alike, or get one layout,
-- in which each shows its own literals, and the same answers, marks, counts, bootstrap bytes, name and visits; and their pools, slot by slot as
-- JVMS reads them, and their class names differ only in the literals
abbrev pub CodeShape : Type 0
CodeShape =
    (job₁ job₂ : List ℕ) (before₁ after₁ before₂ after₂ : Slices) (r₁ r₂ : Outcome) (j₁ j₂ : Job (List ℕ)) → form job₁ ≡ good j₁ →
    form job₂ ≡ good j₂ → Alike j₁ j₂ → Ran job₁ before₁ after₁ r₁ → Ran job₂ before₂ after₂ r₂ →
    let enough : Outcome → Type 0 = λ r. ((told r).code ≢ 1) × ((told r).code ≢ 2) × ((told r).code ≢ 18) in
    enough r₁ → enough r₂ →
    let b₁ = handed r₁ after₁ in
    let b₂ = handed r₂ after₂ in
    ((is_built r₁ ≡ false) × (is_built r₂ ≡ false) × (told r₁ ≡ told r₂))
    ⊎ ((is_built r₁ ≡ true) × (is_built r₂ ≡ true) × (l : Layout) × (b₁ ≡ render (literals j₁) l) × (b₂ ≡ render (literals j₂) l)
    × (b₁.answers ≡ b₂.answers) × (b₁.marks ≡ b₂.marks) × (take 2 b₁.pool ≡ take 2 b₂.pool) × (b₁.bootstrap_count ≡ b₂.bootstrap_count)
    × (b₁.bootstraps ≡ b₂.bootstraps) × (b₁.name ≡ b₂.name) × (b₁.visits ≡ b₂.visits)
    × (IsBytes job₁ → IsBytes job₂ → PoolsAlike j₁ j₂ b₁.pool b₂.pool × ClassesAlike j₁ j₂ b₁.class b₂.class))

-- ORDER. Two well-formed jobs whose definitions are the same records, some 41 to 44 elsewhere among them, run with the same lent sizes: one is
-- built exactly if the other is, and then the same numbers are told, visits included, and the same stands in the callers' buffers
abbrev pub CodeOrder : Type 0
CodeOrder =
    (rs₁ rs₂ : List (List ℕ)) (rest : List ℕ) (before₁ after₁ before₂ after₂ : Slices) (r₁ r₂ : Outcome) →
    ((r : List ℕ) → Among r rs₁ → IsRecord r) → Moved rs₁ rs₂ → WellFormed (job_of rs₁ rest) → WellFormed (job_of rs₂ rest) →
    lent_of (memory_of before₁) ≡ lent_of (memory_of before₂) → Ran (job_of rs₁ rest) before₁ after₁ r₁ → Ran (job_of rs₂ rest) before₂ after₂ r₂ →
    (is_built r₁ ≡ is_built r₂) × (is_built r₁ ≡ true → (told r₁ ≡ told r₂) × (handed r₁ after₁ ≡ handed r₂ after₂))

-- FOR RUST AND C

-- NUMBERS. A call returns 0 or the number of a refusal
abbrev pub KnownNumbers : Type 0
KnownNumbers =
    (job : List ℕ) (before after : Slices) (code : ℕ) (others : List ℕ) → Told job before after code others →
    (code ≡ 0) ⊎ ((r : refusal.Refusal) × (code ≡ number r))

-- CALLS. A call keeps `run`'s promise, of an outcome that has the number returned and the numbers written; so what is promised above of every
-- run is promised of every call
abbrev pub CallsRun : Type 0
CallsRun =
    (job : List ℕ) (before after : Slices) (code : ℕ) (others : List ℕ) → Told job before after code others →
    (r : Outcome) × Ran job before after r × ((told r).code ≡ code) × (listed (told r) ≡ others)

-- ORDER of two calls: one returns 0 exactly if the other does, and then both write the same numbers, and by them the same stands in the
-- callers' buffers
abbrev pub CallOrder : Type 0
CallOrder =
    (rs₁ rs₂ : List (List ℕ)) (rest : List ℕ) (before₁ after₁ before₂ after₂ : Slices) (code₁ code₂ : ℕ) (others₁ others₂ : List ℕ) →
    ((r : List ℕ) → Among r rs₁ → IsRecord r) → Moved rs₁ rs₂ → WellFormed (job_of rs₁ rest) → WellFormed (job_of rs₂ rest) →
    lent_of (memory_of before₁) ≡ lent_of (memory_of before₂) →
    Told (job_of rs₁ rest) before₁ after₁ code₁ others₁ → Told (job_of rs₂ rest) before₂ after₂ code₂ others₂ →
    ((code₁ ≡ 0) ↔ (code₂ ≡ 0))
    × (code₁ ≡ 0 → (r : Outcome) × (listed (told r) ≡ others₁) × (listed (told r) ≡ others₂) × (handed r after₁ ≡ handed r after₂))
