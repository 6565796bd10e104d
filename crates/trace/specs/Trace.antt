-- Document 02, No. 12: a loader's trace over a finished pool. The steps are numbered from 0. What is said of a step is a sentence over the steps
-- before it and the flags at the start, with no state; the counts are how many steps it holds of. Assumes nothing.
use Rattle.std.specs.Prelude.{Bool, true, false, not, ◌&&◌, ◌||◌, List, ℕ, zero, suc, ◌+◌, ◌*◌, ◌/◌, ◌%◌, eqb, leb, ltb, length, get_or}
use Rattle.std.proofs.Math.Option.{Option, none, some}
use Rattle.definition.specs.Basics.{Result, good, bad, from}
use Rattle.jvms.specs.Pool.{Slot, usable, unusable, read_pool_lem}
use Rattle.places.specs.Standing.{tag, slot_of}
use Rattle.writer.specs.Numbers.{number2}

-- some number from m on and below n passes
unfoldable pub some-from : (ℕ → Bool) → ℕ → ℕ → Bool
some-from p m zero = false
some-from p m (suc n) = leb m n && p n || some-from p m n

-- the number behind the last one below n that passes, or 0 where none does
unfoldable pub behind-last : (ℕ → Bool) → ℕ → ℕ
behind-last p zero = 0
behind-last p (suc n) = elim (p n) [ true ↦ suc n | false ↦ behind-last p n ]

-- how many numbers below n pass
unfoldable pub how_many : (ℕ → Bool) → ℕ → ℕ
how_many p zero = 0
how_many p (suc n) = elim (p n) [ true ↦ suc (how_many p n) | false ↦ how_many p n ]

-- an entry of this tag begins at a slot, by what stands there: nothing at 0 and past the pool, and none in the second slot of a wide one
unfoldable pub begins : Option Slot → ℕ → Bool
begins none t = false
begins (some unusable) t = false
begins (some (usable c)) t = eqb (tag c) t

abbrev pub holds : List Slot → ℕ → ℕ → Bool
holds slots s t = begins (slot_of slots s) t

-- step i of a trace: its action, the tag expected, and the slot, whose high byte comes first
abbrev pub action : List ℕ → ℕ → ℕ
action trace i = get_or trace (4 * i) 0

abbrev pub expected : List ℕ → ℕ → ℕ
expected trace i = get_or trace (4 * i + 1) 0

abbrev pub slot : List ℕ → ℕ → ℕ
slot trace i = number2 trace (4 * i + 2)

abbrev pub steps : List ℕ → ℕ
steps trace = length trace / 4

abbrev pub looks_up : List ℕ → ℕ → Bool
looks_up trace i = eqb (action trace i) 0

abbrev pub clears : List ℕ → ℕ → Bool
clears trace i = eqb (action trace i) 1

-- some step before step n neither looks up nor clears
abbrev pub unknown_action : List ℕ → ℕ → Bool
unknown_action trace n = some-from (λ i. ltb 1 (action trace i)) 0 n

-- whole steps, each of a known action
unfoldable pub well_formed : List ℕ → Bool
well_formed trace = eqb (length trace % 4) 0 && not (unknown_action trace (steps trace))

-- step i clears the flag of slot s
unfoldable pub clears-at : List ℕ → ℕ → ℕ → Bool
clears-at trace s i = clears trace i && eqb (slot trace i) s

-- what clearing alone leaves in the flag of slot s before step i: the byte from the start, until a step clears it
unfoldable pub left : List ℕ → (ℕ → ℕ) → ℕ → ℕ → ℕ
left trace start s i = elim (some-from (clears-at trace s) 0 i) [ true ↦ 0 | false ↦ start s ]

-- Which tags a slot holds, and a trace
module _ (holds : ℕ → ℕ → Bool) (trace : List ℕ) where
  -- the slot of step i holds the tag that it expects
  abbrev pub right : ℕ → Bool
  right i = holds (slot trace i) (expected trace i)

  -- step i is a look-up of slot s that finds its tag there
  unfoldable pub finds_at : ℕ → ℕ → Bool
  finds_at s i = looks_up trace i && eqb (slot trace i) s && right i

  -- and the flags at the start, a byte for each slot
  module _ (start : ℕ → ℕ) where
    -- the flag of slot s before step i: what clearing leaves; but where that is 0, and a look-up behind the last clearing step finds its tag, 1
    unfoldable pub flag : ℕ → ℕ → ℕ
    flag s i =
        elim (eqb (left trace start s i) 0 && some-from (finds_at s) (behind-last (clears-at trace s) i) i) [
          | true ↦ 1
          | false ↦ left trace start s i
        ]

    -- step i is a look-up that succeeds: its flag is set, or the tag is right
    unfoldable pub succeeds : ℕ → Bool
    succeeds i = looks_up trace i && (not (eqb (flag (slot trace i) i) 0) || right i)

    -- step i is a look-up that fails
    unfoldable pub fails : ℕ → Bool
    fails i = looks_up trace i && not (succeeds i)

-- no flag is set
abbrev pub all_clear : ℕ → ℕ
all_clear s = 0

-- step i is good only by a flag from the start: it wouldn't be had all flags been clear there
unfoldable pub rests : (ℕ → ℕ → Bool) → List ℕ → (ℕ → ℕ) → ℕ → Bool
rests holds trace start i = succeeds holds trace start i && not (succeeds holds trace all_clear i)

-- what the run of a trace reports, and the flags as it leaves them
pub record Report : Type 0 where
  pub good_ones : ℕ
  pub failed_ones : ℕ
  pub resting_ones : ℕ
  pub flags : List ℕ

unfoldable pub report : (ℕ → ℕ → Bool) → List ℕ → List ℕ → Report
report holds trace lent =
    let start : ℕ → ℕ = λ s. get_or lent s 0 in
    record {
      good_ones = how_many (succeeds holds trace start) (steps trace);
      failed_ones = how_many (fails holds trace start) (steps trace);
      resting_ones = how_many (rests holds trace start) (steps trace);
      flags = from (λ s. flag holds trace start s (steps trace)) 0 (length lent);
    }

-- 28: a cut trace, an unknown action, or flags that aren't 65,536
unfoldable pub run-over : (ℕ → ℕ → Bool) → List ℕ → List ℕ → Result ℕ Report
run-over holds trace lent =
    elim (well_formed trace && eqb (length lent) 65536) [ true ↦ good (report holds trace lent) | false ↦ bad 28 ]

-- 21, first: no pool
unfoldable pub run-read : Option (List Slot) → List ℕ → List ℕ → Result ℕ Report
run-read none trace lent = bad 21
run-read (some slots) trace lent = run-over (holds slots) trace lent

-- a trace over a pool, from the flags that are lent
unfoldable pub run : List ℕ → List ℕ → List ℕ → Result ℕ Report
run pool trace lent = run-read (read_pool_lem pool) trace lent

-- the flags afterwards: a refusal leaves them as they were
unfoldable pub flags_after : Result ℕ Report → List ℕ → List ℕ
flags_after (good r) lent = r.flags
flags_after (bad code) lent = lent
