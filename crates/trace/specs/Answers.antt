-- What the code's results mean, and what its tables say. Assumes nothing.
use Rattle.std.specs.Prelude.{Bool, not, ◌&&◌, List, ◌≡◌, ℕ, ◌<◌, eqb, get_or, set}
use Rattle.definition.specs.Basics.{Result, good, bad}
use Rattle.places.specs.Noting.{tag_at}
use Rattle.trace.specs.declared.Counts.{Counts}
use Rattle.trace.specs.Trace.{action, slot, right, Report}
use Rattle.trace.specs.Step.{flag_behind, passes_by, one}

-- the counts of a report, or a refusal's number
abbrev pub counted : Report → Counts
counted r = record { good = r.good_ones; failed = r.failed_ones; rested = r.resting_ones }

unfoldable pub answer : Result ℕ Report → Result ℕ Counts
answer (good r) = good (counted r)
answer (bad code) = bad code

-- an entry of this tag begins at this slot, by a table of places
unfoldable pub held : List ℕ → List ℕ → ℕ → ℕ → Bool
held pool places s t = not (eqb t 0) && eqb (tag_at pool places s) t

-- what step i adds to the counts and leaves in two tables of flags, the lent ones and those of a start with all flags clear
pub record OneStep (holds : ℕ → ℕ → Bool) (trace : List ℕ) (i : ℕ) (flags clear flags' clear' : List ℕ) (m : Counts) : Type 0 where
  pub in_table : slot trace i < 65536
  pub good_is : m.good ≡ one (passes_by (action trace i) (right holds trace i) (get_or flags (slot trace i) 0))
  pub failed_is : m.failed ≡ one (eqb (action trace i) 0 && not (passes_by (action trace i) (right holds trace i) (get_or flags (slot trace i) 0)))
  pub rested_is : m.rested
      ≡ one (passes_by (action trace i) (right holds trace i) (get_or flags (slot trace i) 0)
      && not (passes_by (action trace i) (right holds trace i) (get_or clear (slot trace i) 0)))
  pub flags_are : flags' ≡ set flags (slot trace i) (flag_behind (action trace i) (right holds trace i) (get_or flags (slot trace i) 0))
  pub clear_are : clear' ≡ set clear (slot trace i) (flag_behind (action trace i) (right holds trace i) (get_or clear (slot trace i) 0))
