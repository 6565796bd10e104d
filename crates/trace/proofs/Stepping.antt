-- What one step does to a table of flags, and the known actions of a trace. Assumes nothing.
use mathlib.Core.Bool.{Bool, true, false, not}
use mathlib.Core.List.{List}
use mathlib.Core.Logic.{◌⊎◌, inl, inr}
use mathlib.Core.Path.{◌≡◌, refl, sym, ◌∙◌}
use Prim.Native.Nat.{ℕ, zero, suc, ◌+◌, ◌≤◌, ◌<◌}
use native.Mathlib.Numerals.{add-one}
use native.Mathlib.Omega.{arith}
use lib.Dec.{eqb, ltb}
use lib.ListN.{get_or, set}
use lib.Seq.{set-get_or}
use mir.Val.{bool_byte}
use borrow.Author.Tests.{ne_eqb, lt-ltb, le-ltb}
use Rattle.facts.proofs.Lists.{order, true≢false}
use Rattle.places.specs.Noting.{tag_at}
use Rattle.trace.specs.Trace.{some-from, action, steps, unknown_action}
use Rattle.trace.specs.Step.{next, flag_behind, passes_by, one}
use Rattle.trace.specs.Answers.{held}
use Rattle.trace.proofs.Counting.{from_more, from_found}
use Rattle.trace.proofs.Flags.{set-stays}

-- WHAT BEGINS AT A SLOT

module _ (pool places : List ℕ) (s : ℕ) where
  pub never_zero : (t : ℕ) → t ≡ 0 → false ≡ held pool places s t
  unfolding held
  never_zero t e = rw e

  pub held-other : (t r : ℕ) → (t ≡ 0 → ⊥) → r ≡ tag_at pool places s → eqb r t ≡ held pool places s t
  unfolding held
  held-other t r h e = rw (ne_eqb t 0 h, e)

-- ONE STEP

module _ (a s : ℕ) (l : List ℕ) where
  -- what a step of action a over slot s says and leaves
  abbrev Stepped : Bool → Bool → List ℕ → Type 0
  Stepped r says after = (says ≡ passes_by a r (get_or l s 0)) × (after ≡ set l s (flag_behind a r (get_or l s 0)))

  pub step-clears : (r : Bool) → a ≡ 1 → Stepped r false (set l s 0)
  unfolding next
  step-clears r e = (rw e, rw e)

  looks : a ≤ 1 → (a ≡ 1 → ⊥) → a ≡ 0
  looks h n = ways a h n
    where
      ways : (b : ℕ) → b ≤ 1 → (b ≡ 1 → ⊥) → b ≡ 0
      ways zero h n = refl
      ways (suc zero) h n = absurd (n refl)
      ways (suc (suc b)) h n = absurd (omega arith)

  module _ (h : a ≤ 1) (n : a ≡ 1 → ⊥) where
    pub step_set : (r : Bool) → (get_or l s 0 ≡ 0 → ⊥) → Stepped r true l
    unfolding next
    step_set r f = rw (looks h n) (says r, leaves r)
      where
        clear : eqb (get_or l s 0) 0 ≡ false
        clear = ne_eqb (get_or l s 0) 0 f

        says : (q : Bool) → true ≡ passes_by 0 q (get_or l s 0)
        says q = rw clear

        leaves : (q : Bool) → l ≡ set l s (flag_behind 0 q (get_or l s 0))
        leaves true = rw (set-stays (get_or l s 0) clear) (sym (set-get_or l s 0))
        leaves false = sym (set-get_or l s 0)

    pub step_right : (r : Bool) → get_or l s 0 ≡ 0 → r ≡ true → Stepped r true (set l s 1)
    unfolding next
    step_right r z e = rw (looks h n, z, e) (refl, refl)

    pub step-wrong : (r : Bool) → get_or l s 0 ≡ 0 → r ≡ false → Stepped r false l
    unfolding next
    step-wrong r z e = rw (looks h n, e) (rw z, sym (set-get_or l s 0))

-- THE ACTIONS OF A TRACE

module _ (trace : List ℕ) where
  pub known-first : unknown_action trace 0 ≡ false
  unfolding some-from
  known-first = refl

  pub known_more : (i : ℕ) → unknown_action trace i ≡ false → action trace i ≤ 1 → unknown_action trace (i + 1) ≡ false
  known_more i k h = rw (add-one i, from_more (λ k. ltb 1 (action trace k)) 0 i (omega arith), le-ltb 1 (action trace i) h) k

  pub unknown : (i : ℕ) → i < steps trace → 1 < action trace i → unknown_action trace (steps trace) ≡ true
  unknown i h u = from_found (λ k. ltb 1 (action trace k)) 0 i (steps trace) (omega arith) h (lt-ltb 1 (action trace i) u)

  pub known-all : (i : ℕ) → unknown_action trace i ≡ false → i ≤ steps trace → steps trace ≤ i → true ≡ not (unknown_action trace (steps trace))
  known-all i k h l = let e : i ≡ steps trace = omega arith in rw (← e, k)

  pub known_at : (i : ℕ) → unknown_action trace (steps trace) ≡ false → i < steps trace → action trace i ≤ 1
  known_at i k h = ways (order 1 (action trace i))
    where
      ways : (1 < action trace i) ⊎ (action trace i ≤ 1) → action trace i ≤ 1
      ways (inl u) = true≢false (sym (unknown i h u) ∙ k)
      ways (inr l) = l

  -- the actions below i are known, one by one
  pub known_up : (i : ℕ) → ((k : ℕ) → k < i → action trace k ≤ 1) → unknown_action trace i ≡ false
  known_up zero all = known-first
  known_up (suc i) all = rw (add-one i) at (known_more i (known_up i (λ k h. all k (omega arith))) (all i (omega arith)))

  pub known_not : (((k : ℕ) → k < steps trace → action trace k ≤ 1) → ⊥) → unknown_action trace (steps trace) ≡ true
  known_not h = ways (unknown_action trace (steps trace)) refl
    where
      ways : (b : Bool) → unknown_action trace (steps trace) ≡ b → b ≡ true
      ways true e = refl
      ways false e = absurd (h (λ k below. known_at k e below))

-- A BOOL AS A NUMBER

pub byte_one : (b : Bool) → bool_byte b ≡ one b
unfolding one
byte_one true = refl
byte_one false = refl
