-- The words of a job that is built: the outputs can be read from them, and are those of the definition. Assumes nothing.
use Rattle.std.specs.Prelude.{List, ◌≡◌, ℕ, suc, ◌+◌, ◌<◌, length, get_or}
use Rattle.definition.specs.Basics.{good, bad}
use Rattle.definition.specs.Numbering.{top_of, literals, numbered}
use Rattle.definition.specs.Layout.{Layout, layout}
use Rattle.definition.specs.Run.{Built, render}
use Rattle.store.specs.Store.{Store, size, On}
use Rattle.store.specs.JobIn.{job_in}
use Rattle.store.specs.Regions.{COUNTS, ANSWERS, ORIGINS, VISITS, Work}
use Rattle.definitions.specs.Defining.{place_count}
use Rattle.output.specs.Contents.{Finished, name_slot, pool_in}
use Rattle.output.specs.Rows.{RowsReady, row_count_in, rows_in, constants_for}
use Rattle.output.specs.Names.{ClassAt, class_in}

-- the words give b
pub record Rendered (s p : List ℕ) (u : Store) (b : Built) : Type 0 where
  -- what the outputs are read from
  pub finished : Finished s p u
  pub rows_ready : RowsReady p u
  pub class_at : ClassAt s p u
  pub small : (i : ℕ) → i < size p ANSWERS → get_or (u ANSWERS) i 0 < 65536
  pub small_marks : (i : ℕ) → i < size p ORIGINS → get_or (u ORIGINS) i 0 < 256
  -- and what they are
  pub answers : u ANSWERS ≡ b.answers
  pub marks : u ORIGINS ≡ b.marks
  pub pool : pool_in s u ≡ b.pool
  pub bootstrap_count : row_count_in u ≡ b.bootstrap_count
  pub bootstraps : rows_in (constants_for p) u ≡ b.bootstraps
  pub name : name_slot u ≡ b.name
  pub class : class_in s u ≡ b.class
  pub visits : get_or (u COUNTS) VISITS 0 ≡ b.visits
  -- the build record is in turn
  pub place : place_count u ≡ suc (length (job_in s).definitions + length (job_in s).requests)

-- r is 0 and the words give what the definition renders, or the job is refused with r, at the record in turn; the places are the job's
pub record LaidOut (p : List ℕ) (words : ℕ) (s : List ℕ) (u : Store) (r : ℕ) : Type 0 where
  pub places : Work s p × On p words
  pub through : r ≡ 0 → (l : Layout) × (layout (top_of (job_in s)) (numbered (job_in s)) ≡ good l) × Rendered s p u (render (literals (job_in s)) l)
  pub refused : 0 < r → layout (top_of (job_in s)) (numbered (job_in s)) ≡ bad (record { code = r; place = place_count u })
