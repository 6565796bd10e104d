-- No second outcome, and no second contents of a lent buffer, meets the contract of `run` or of its form for Rust and C. `Learnt` is the
-- contract in src/lib.rt as it stands: what it says of the arguments a, the result r and the parameters s as they are left. Assumes nothing.
use mathlib.Core.Bool.{true, false}
use mathlib.Core.List.{List}
use mathlib.Core.Path.{◌≡◌, refl, sym, ap, ◌∙◌}
use Prim.Native.Nat.{ℕ}
use lib.Dec.{eqb}
use contract.Lifetimes.{Lfts}
use Rattle.std.specs.Prelude.{Ok, Err, Some, None, Option as Maybe}
use Rattle.refusal.proofs.Numbers.{number-injective}
use Rattle.cpool.specs.declared.Built as code
use Rattle.cpool.specs.Ran.{Outcome, Numbers, Slices, given, bytes_of, told, is_built, memory_of, Ran, Told}
use Rattle.cpool.proofs.run.Reads as run
use Rattle.cpool.proofs.cpool_run.Reads as cpool_run

-- AN OUTCOME IS KNOWN BY ITS CASE AND ITS NUMBERS

abbrev class_for : ℕ → ℕ → Maybe ℕ
class_for is bytes = elim (eqb is 0) [ true ↦ None | false ↦ Some bytes ]

class_back : (c : Maybe ℕ) → class_for (given c) (bytes_of c) ≡ c
unfolding given bytes_of
class_back None = refl
class_back (Some n) = refl

abbrev built_for : Numbers → code.Built
built_for n =
    record {
      answers = n.answers;
      pool = n.pool;
      bootstrap_count = n.bootstrap_count;
      bootstraps = n.bootstraps;
      name = n.name;
      class_name = class_for n.class n.class_bytes;
      visits = n.visits;
    }

built_back : (b : code.Built) → built_for (told (Ok b)) ≡ b
unfolding told
built_back b = λ i. record b { class_name = class_back b.class_name i }

outcome-back : (r r' : Outcome) → is_built r ≡ is_built r' → told r ≡ told r' → r ≡ r'
unfolding is_built told
outcome-back (Ok b) (Ok b') case numbers = ap Ok (sym (built_back b) ∙ ap built_for numbers ∙ built_back b')
outcome-back (Err r) (Err r') case numbers =
    let named : r.refusal ≡ r'.refusal = number-injective r.refusal r'.refusal (ap (λ n. n.code) numbers) in
    let placed : r.place ≡ r'.place = ap (λ n. n.place) numbers in
    λ i. Err (record { refusal = named i; place = placed i })
outcome-back (Ok b) (Err r) case numbers = absurd (cc)
outcome-back (Err r) (Ok b) case numbers = absurd (cc)

-- THE MEMORY

-- what was lent is the same in two memories
pub record Same (m m' : Slices) : Type 0 where
  pub work : m.work ≡ m'.work
  pub rows : m.rows ≡ m'.rows
  pub answers : m.answers ≡ m'.answers
  pub marks : m.marks ≡ m'.marks
  pub pool : m.pool ≡ m'.pool
  pub bootstraps : m.bootstraps ≡ m'.bootstraps
  pub class : m.class ≡ m'.class

same_memory : (m m' : Slices) → memory_of m ≡ memory_of m' → m.rows ≡ m'.rows → Same m m'
unfolding memory_of
same_memory m m' e rows =
    record {
      work = ap (λ x. x.work) e;
      rows = rows;
      answers = ap (λ x. x.answers) e;
      marks = ap (λ x. x.marks) e;
      pool = ap (λ x. x.pool) e;
      bootstraps = ap (λ x. x.bootstraps) e;
      class = ap (λ x. x.class) e;
    }

one-run : (job : List ℕ) (before after after' : Slices) (r r' : Outcome) → Ran job before after r → Ran job before after' r' → (r ≡ r') × Same after after'
one-run job before after after' r r' h h' = (
  outcome-back r r' (h.case ∙ sym h'.case) (h.numbers ∙ sym h'.numbers),
  same_memory after after' (h.memory ∙ sym h'.memory) (h.rows ∙ sym h'.rows),
)

one-telling :
    (job : List ℕ) (before after after' : Slices) (code code' : ℕ) (numbers numbers' : List ℕ) → Told job before after code numbers →
    Told job before after' code' numbers' → (code ≡ code') × (numbers ≡ numbers') × Same after after'
one-telling job before after after' code code' numbers numbers' h h' = (
  h.number ∙ sym h'.number,
  h.written ∙ sym h'.written,
  same_memory after after' (h.memory ∙ sym h'.memory) (h.rows ∙ sym h'.rows),
)

-- THE CONTRACTS, where s.1.0 is `work`, and then `gaps`, `answers`, `marks`, `pool`, `bootstraps`, `class_name` and `numbers` follow

pub single :
    (κs : Lfts 8) (a : _) (r r' : Outcome) (s s' : _) →
    run.Learnt κs a r s → run.Learnt κs a r' s' →
    (r ≡ r')
    × (s.1.0.now ≡ s'.1.0.now)
    × (s.1.1.0.now ≡ s'.1.1.0.now)
    × (s.1.1.1.0.now ≡ s'.1.1.1.0.now)
    × (s.1.1.1.1.0.now ≡ s'.1.1.1.1.0.now)
    × (s.1.1.1.1.1.0.now ≡ s'.1.1.1.1.1.0.now)
    × (s.1.1.1.1.1.1.0.now ≡ s'.1.1.1.1.1.1.0.now)
    × (s.1.1.1.1.1.1.1.0.now ≡ s'.1.1.1.1.1.1.1.0.now)
single κs a r r' s s' h h' =
    let one = one-run _ _ _ _ r r' h h' in
    (one.0, one.1.work, one.1.rows, one.1.answers, one.1.marks, one.1.pool, one.1.bootstraps, one.1.class)

pub single_told :
    (κs : Lfts 9) (a : _) (r r' : ℕ) (s s' : _) →
    cpool_run.Learnt κs a r s → cpool_run.Learnt κs a r' s' →
    (r ≡ r')
    × (s.1.0.now ≡ s'.1.0.now)
    × (s.1.1.0.now ≡ s'.1.1.0.now)
    × (s.1.1.1.0.now ≡ s'.1.1.1.0.now)
    × (s.1.1.1.1.0.now ≡ s'.1.1.1.1.0.now)
    × (s.1.1.1.1.1.0.now ≡ s'.1.1.1.1.1.0.now)
    × (s.1.1.1.1.1.1.0.now ≡ s'.1.1.1.1.1.1.0.now)
    × (s.1.1.1.1.1.1.1.0.now ≡ s'.1.1.1.1.1.1.1.0.now)
    × (s.1.1.1.1.1.1.1.1.0.now ≡ s'.1.1.1.1.1.1.1.1.0.now)
single_told κs a r r' s s' h h' =
    let one = one-telling _ _ _ _ r r' _ _ h h' in
    (one.0, one.2.work, one.2.rows, one.2.answers, one.2.marks, one.2.pool, one.2.bootstraps, one.2.class, one.1)
