-- What a call of the form for Rust and C returns is 0 or the number of a refusal. Assumes nothing.
use mathlib.Core.Bool.{Bool, true, ◌&&◌}
use mathlib.Core.List.{List}
use mathlib.Core.Logic.{◌⊎◌, inl, inr, ⊎_elim}
use mathlib.Core.Path.{◌≡◌, refl, sym, subst}
use Prim.Native.Nat.{ℕ, zero, suc, ◌≤◌, ◌<◌}
use native.Mathlib.Omega.{arith}
use lib.Dec.{eqb}
use borrow.Author.Tests.{eqb-true, eqb-false}
use Rattle.definition.specs.Basics.{Result, good, bad, Refusal}
use Rattle.definition.specs.Run.{Built, Lent, lent_of, run, refusal_of}
use Rattle.facts.proofs.Lists.{both_true, order}
use Rattle.laws.proofs.Runs.RunNumbers.{run_number}
use Rattle.refusal.specs.declared.Refusal as refusal
use Rattle.refusal.specs.Numbers.{number}
use Rattle.refusal.proofs.Numbers.{of_number}
use Rattle.cpool.specs.Ran.{memory_of, result_of, numbers, is_good}
use Rattle.cpool.specs.Promises.{KnownNumbers}

-- each number from 1 to 28 is a refusal's
is_number : ℕ → Bool
is_number n = eqb (number (of_number n)) n

up_to : ℕ → Bool
up_to zero = true
up_to (suc n) = is_number (suc n) && up_to n

up_to-each : (n k : ℕ) → up_to n ≡ true → 0 < k → k ≤ n → is_number k ≡ true
unfolding up_to
up_to-each zero k all above low = absurd (omega (arith, above, low))
up_to-each (suc n) k all above low =
    let both = both_true (is_number (suc n)) (up_to n) all in
    ⊎_elim
    (λ (h : n < k). subst (λ m. is_number m ≡ true) (omega (arith, h, low)) both.0)
    (λ (h : k ≤ n). up_to-each n k both.1 above h)
    (order n k)

all_numbers : up_to 28 ≡ true
unfolding number of_number up_to is_number
all_numbers = refl

numbered : (n : ℕ) → 0 < n → n < 27 → (r : refusal.Refusal) × (n ≡ number r)
unfolding is_number
numbered n above low = (of_number n, sym (eqb-true _ n (up_to-each 28 n all_numbers above (omega (arith, low)))))

known_in :
    (lent : Lent) (job : List ℕ) (x : Result Refusal Built) (code : ℕ) → run lent job ≡ x → code ≡ (numbers x).code → eqb code 0 ≡ is_good x →
    (code ≡ 0) ⊎ ((r : refusal.Refusal) × (code ≡ number r))
unfolding numbers refusal_of is_good
known_in lent job (good b) code ran is case = inl is
known_in lent job (bad q) code ran is case =
    let low = run_number lent job q ran in
    let apart = eqb-false code 0 case in
    inr (numbered code (omega (arith, apart)) (omega (arith, low, is)))

pub known_numbers : KnownNumbers
unfolding result_of
known_numbers job before after code others t = known_in (lent_of (memory_of before)) job (result_of job before) code refl t.number t.case
