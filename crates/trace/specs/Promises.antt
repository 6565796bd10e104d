-- What is promised of a trace's counts and of the flags that it leaves. Assumes nothing.
use Rattle.std.specs.Prelude.{Bool, true, false, not, ◌&&◌, ◌||◌, List, ◌⊎◌, ◌≢◌, ◌≡◌, ℕ, suc, ◌+◌, ◌≤◌, ◌<◌, eqb, length, get_or}
use Rattle.trace.specs.Trace.{some-from, behind-last, how_many, slot, steps, looks_up, clears, clears-at, right, finds_at, flag, succeeds, rests, report}

-- each look-up is good or failed
abbrev pub EveryLookUp : Type 0
EveryLookUp =
    (holds : ℕ → ℕ → Bool) (trace lent : List ℕ) →
    (report holds trace lent).good_ones + (report holds trace lent).failed_ones ≡ how_many (looks_up trace) (steps trace)

-- those that rest only on a flag from the start are among the good ones
abbrev pub RestingAreGood : Type 0
RestingAreGood = (holds : ℕ → ℕ → Bool) (trace lent : List ℕ) → (report holds trace lent).resting_ones ≤ (report holds trace lent).good_ones

-- with all flags clear there are none
abbrev pub NoneRests : Type 0
NoneRests =
    (holds : ℕ → ℕ → Bool) (trace lent : List ℕ) → ((s : ℕ) → get_or lent s 0 ≡ 0) → (report holds trace lent).resting_ones ≡ 0

-- which ones they are: the slot doesn't hold the tag, no step before cleared its flag or found its tag there, and the flag was set at the start
abbrev pub RestsWhen : Type 0
RestsWhen =
    (holds : ℕ → ℕ → Bool) (trace : List ℕ) (start : ℕ → ℕ) (i : ℕ) →
    rests holds trace start i
    ≡ (looks_up trace i
    && not (right holds trace i)
    && not (some-from (clears-at trace (slot trace i)) 0 i)
    && not (some-from (finds_at holds trace (slot trace i)) 0 i)
    && not (eqb (start (slot trace i)) 0))

-- when a flag is set: a look-up behind the last clearing step finds its tag, or no step clears it and it was set at the start
abbrev pub SetWhen : Type 0
SetWhen =
    (holds : ℕ → ℕ → Bool) (trace : List ℕ) (start : ℕ → ℕ) (s i : ℕ) →
    not (eqb (flag holds trace start s i) 0)
    ≡ (some-from (finds_at holds trace s) (behind-last (clears-at trace s) i) i
    || not (some-from (clears-at trace s) 0 i) && not (eqb (start s) 0))

-- how a flag goes from step to step, as the document tells it
pub record StepByStep (holds : ℕ → ℕ → Bool) (trace : List ℕ) (start : ℕ → ℕ) : Type 0 where
  pub at_start_lem : (s : ℕ) → flag holds trace start s 0 ≡ start s
  pub elsewhere : (s i : ℕ) → slot trace i ≢ s → flag holds trace start s (suc i) ≡ flag holds trace start s i
  pub cleared : (i : ℕ) → clears trace i ≡ true → flag holds trace start (slot trace i) (suc i) ≡ 0
  pub found_set : (i : ℕ) → looks_up trace i ≡ true → flag holds trace start (slot trace i) i ≢ 0 →
      (succeeds holds trace start i ≡ true) × (flag holds trace start (slot trace i) (suc i) ≡ flag holds trace start (slot trace i) i)
  pub found_right : (i : ℕ) → looks_up trace i ≡ true → flag holds trace start (slot trace i) i ≡ 0 → right holds trace i ≡ true →
      (succeeds holds trace start i ≡ true) × (flag holds trace start (slot trace i) (suc i) ≡ 1)
  pub found_wrong : (i : ℕ) → looks_up trace i ≡ true → flag holds trace start (slot trace i) i ≡ 0 → right holds trace i ≡ false →
      (succeeds holds trace start i ≡ false) × (flag holds trace start (slot trace i) (suc i) ≡ 0)

-- a slot's byte as the trace ends, from its byte x at the start: as it was, unless a step clears it, or it was clear and a look-up finds its
-- tag; 0 where none behind the last clearing step finds its tag; and 1 where one does
pub record Later (cleared found : Bool) (x later : ℕ) : Type 0 where
  pub as_it_was : cleared ≡ false → (x ≢ 0) ⊎ (found ≡ false) → later ≡ x
  pub left-clear : cleared ≡ true → found ≡ false → later ≡ 0
  pub set-anew : (cleared ≡ true) ⊎ (x ≡ 0) → found ≡ true → later ≡ 1

pub record LaterFlags (holds : ℕ → ℕ → Bool) (trace lent : List ℕ) : Type 0 where
  pub as_many : length (report holds trace lent).flags ≡ length lent
  pub each : (s : ℕ) → s < length lent →
      Later (some-from (clears-at trace s) 0 (steps trace))
      (some-from (finds_at holds trace s) (behind-last (clears-at trace s) (steps trace)) (steps trace))
      (get_or lent s 0)
      (get_or (report holds trace lent).flags s 0)
