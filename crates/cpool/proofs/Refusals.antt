-- The numbers that refusals have: at most 18 or from 22 to 26, and behind refusals 1 and 2 neither of these. Assumes nothing.
use mathlib.Core.Bool.{true, false}
use mathlib.Core.List.{List}
use mathlib.Core.Logic.{◌⊎◌, ⊎_elim}
use mathlib.Core.Path.{◌≡◌, refl, ◌∙◌}
use Prim.Native.Nat.{ℕ, ◌+◌, ◌*◌, ◌/◌, ◌≤◌, ◌<◌}
use native.Mathlib.Omega.{arith}
use borrow.Author.Tests.{leb-true, le-leb, ne_eqb}
use lib.ListN.{length}
use Rattle.definition.specs.Basics.{Result, good, bad, Refusal}
use Rattle.definition.specs.Numbering.{top_of, numbered}
use Rattle.definition.specs.Layout.{layout}
use Rattle.definition.specs.Run.{Built, Lent, longest_job, enough, run, untouched}
use Rattle.facts.proofs.Lists.{both_true}
use Rattle.laws.specs.Statements.{IsBytes}
use Rattle.causes.specs.CauseStatement.{CauseOf, too_long_lem, too_little, not_formed, defining, resolving, slots, no_room_lem}
use Rattle.causes.proofs.CauseForm.{form-bounds}
use Rattle.causes.proofs.Cause.{definition_bounds, resolving_bounds, slot-bounds, cause, cause_placed}
use Rattle.store.specs.JobIn.{WellFormed, job_in}
use Rattle.store.proofs.Bounds.{formed_job, formed_short}
use Rattle.cpool.proofs.Running.{goes_on, not-laid}

-- a refusal's number is one that there is
pub code-high : (lent : Lent) (bytes : List ℕ) (q : Refusal) → IsBytes bytes → run lent bytes ≡ bad q → (q.code ≤ 18) ⊎ ((22 ≤ q.code) × (q.code ≤ 26))
code-high lent bytes q are e = (cause_placed lent bytes q are e).1

-- so that of a record fits a word
just_enough : ℕ → Lent
just_enough n = record { work = 6 * n + 1024; gaps = n / 5 + 2; answers = 0; marks = 0; pool = 0; bootstraps = 0; class = 0 }

is_enough : (n : ℕ) → enough n (just_enough n) ≡ true
unfolding enough just_enough
is_enough n = rw (le-leb (6 * n + 1024) (6 * n + 1024) (omega arith)) (le-leb (n / 5 + 2) (n / 5 + 2) (omega arith))

pub layout-word : (s : List ℕ) → IsBytes s → WellFormed s → (r : Refusal) → layout (top_of (job_in s)) (numbered (job_in s)) ≡ bad r → r.code ≤ 26
layout-word s are well r e =
    let lent = just_enough (length s) in
    let ran = goes_on lent s (formed_short s well) (is_enough (length s)) ∙ not-laid lent s (job_in s) r (formed_job s well) e in
    ⊎_elim (λ (low : r.code ≤ 18). omega arith) (λ (high : (22 ≤ r.code) × (r.code ≤ 26)). high.1) (code-high lent s r are ran)

-- work and gaps are cleared after every number from 3 on
pub late_cleared : (q : Refusal) → 3 ≤ q.code → untouched (bad q) ≡ false
unfolding untouched
late_cleared q low = rw (ne_eqb q.code 1 (λ e. omega (arith, e)), ne_eqb q.code 2 (λ e. omega (arith, e)))

module _ (lent : Lent) (s : List ℕ) (are : IsBytes s) (short : length s ≤ longest_job) (has : enough (length s) lent ≡ true) where
  little : (lent.work < 6 * length s + 1024) ⊎ (lent.gaps < length s / 5 + 2) → ⊥
  unfolding enough
  little h =
      let both = both_true _ _ has in
      let words = leb-true (6 * length s + 1024) lent.work both.0 in
      let gaps = leb-true (length s / 5 + 2) lent.gaps both.1 in
      ⊎_elim (λ (l : lent.work < 6 * length s + 1024). omega (arith, l, words)) (λ (l : lent.gaps < length s / 5 + 2). omega (arith, l, gaps)) h

  -- no cause behind those of 1 and 2 has these numbers
  late : {code place : ℕ} → CauseOf lent s code place → 2 < code
  late (too_long_lem h) = omega (arith, h, short)
  late (too_little h) = absurd (little h)
  late (not_formed f) = (form-bounds f).0
  late (defining job _ f) = omega (arith, (definition_bounds job f).0)
  late (resolving job _ f) = omega (arith, (resolving_bounds job f).0)
  late (slots job _ f) = omega (arith, (slot-bounds job f).0)
  late (no_room_lem _ _ _ _ _) = omega arith

  -- so work and gaps are cleared
  clears-go : (o : Result Refusal Built) → run lent s ≡ o → untouched o ≡ false
  unfolding untouched
  clears-go (good b) e = refl
  clears-go (bad r) e = late_cleared r (late (cause lent s r are e))

  pub clears : untouched (run lent s) ≡ false
  clears = clears-go (run lent s) refl
