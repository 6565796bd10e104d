-- Definitions in another order: `run` and its form for Rust and C build both jobs or neither, and hand the same. Assumes nothing.
use mathlib.Core.Bool.{true, false}
use mathlib.Core.List.{List}
use mathlib.Core.Logic.{⊎_elim}
use mathlib.Core.Option.{Option, none, some}
use mathlib.Core.Path.{◌≡◌, refl, sym, ap, ◌∙◌}
use Prim.Native.Nat.{ℕ}
use lib.Dec.{eqb}
use lib.ListN.{length, take}
use borrow.Author.Tests.{eqb-true, eq-eqb}
use Rattle.definition.specs.Basics.{Result, good, bad, Refusal}
use Rattle.definition.specs.Run.{Built, lent_of, run, refusal_of, returned}
use Rattle.facts.proofs.Lists.{tests_agree, true≢false}
use Rattle.order.specs.OrderStatement.{job_of}
use Rattle.order.proofs.Order.{order}
use Rattle.std.specs.Prelude.{Ok, Err, Some, None, Option as Maybe}
use Rattle.refusal.specs.declared.Refusal as refusal
use Rattle.refusal.specs.declared.Refusal.TheVariants.{JobTooLong}
use Rattle.refusal.specs.Numbers.{number}
use Rattle.cpool.specs.Ran.{Outcome, Numbers, given, bytes_of, told, is_built, class_given, class_size, numbers, is_good, Slices, memory_of, result_of, Ran, listed, Told}
use Rattle.cpool.specs.Promises.{handed, CodeOrder, CallsRun, CallOrder}
use Rattle.cpool.proofs.Handed.{handed-is, built_result}
use Rattle.cpool.proofs.KnownNumbers.{known_numbers}

built_by : (job : List ℕ) (before after : Slices) (r : Outcome) → Ran job before after r → (b : Built) → result_of job before ≡ good b → is_built r ≡ true
unfolding is_good
built_by job before after r ran b e = ran.case ∙ ap is_good e

pub code_order : CodeOrder
unfolding result_of
code_order rs₁ rs₂ rest before₁ after₁ before₂ after₂ r₁ r₂ records moved formed₁ formed₂ sizes ran₁ ran₂ =
    let job : List (List ℕ) → List ℕ = λ rs. job_of rs rest in
    let law = order rs₁ rs₂ rest (lent_of (memory_of before₁)) records moved formed₁ formed₂ in
    let forth : is_built r₁ ≡ true → result_of (job rs₂) before₂ ≡ good (handed r₁ after₁) = λ built.
    ap (λ lent. run lent (job rs₂)) (sym sizes) ∙ (law (handed r₁ after₁)).0 (built_result (job rs₁) before₁ after₁ r₁ ran₁ built) in
    let back : is_built r₂ ≡ true → result_of (job rs₁) before₁ ≡ good (handed r₂ after₂) = λ built.
    (law (handed r₂ after₂)).1 (ap (λ lent. run lent (job rs₂)) sizes ∙ built_result (job rs₂) before₂ after₂ r₂ ran₂ built) in (
      tests_agree (is_built r₁) (is_built r₂)
          (λ built. built_by (job rs₂) before₂ after₂ r₂ ran₂ (handed r₁ after₁) (forth built))
          (λ built. built_by (job rs₁) before₁ after₁ r₁ ran₁ (handed r₂ after₂) (back built)),
      λ built. (
        ran₁.numbers ∙ ap numbers (built_result (job rs₁) before₁ after₁ r₁ ran₁ built ∙ sym (forth built)) ∙ sym ran₂.numbers,
        sym (handed-is (job rs₂) before₂ after₂ r₂ ran₂ (handed r₁ after₁) (forth built)),
      ),
    )

-- FOR RUST AND C

-- the outcome that tells a result, where r is what it is refused for
unfoldable class_of : Option (List ℕ) → Maybe ℕ
class_of none = None
class_of (some l) = Some (length l)

unfoldable outcome_of : Result Refusal Built → refusal.Refusal → Outcome
outcome_of (good b) r =
    Ok (record {
      answers = length b.answers;
      pool = length b.pool;
      bootstrap_count = b.bootstrap_count;
      bootstraps = length b.bootstraps;
      name = b.name;
      class_name = class_of b.class;
      visits = b.visits;
    })
outcome_of (bad q) r = Err (record { refusal = r; place = q.place })

class_given_lem : (o : Option (List ℕ)) → given (class_of o) ≡ class_given o
unfolding given class_of class_given
class_given_lem none = refl
class_given_lem (some l) = refl

class_bytes_lem : (o : Option (List ℕ)) → bytes_of (class_of o) ≡ class_size o
unfolding bytes_of class_of class_size
class_bytes_lem none = refl
class_bytes_lem (some l) = refl

outcome-told : (x : Result Refusal Built) (r : refusal.Refusal) → (is_good x ≡ false → (numbers x).code ≡ number r) → told (outcome_of x r) ≡ numbers x
unfolding told outcome_of numbers refusal_of returned is_good
outcome-told (good b) r h =
    λ i. record {
      code = 0;
      place = 0;
      answers = length b.answers;
      pool = length b.pool;
      bootstrap_count = b.bootstrap_count;
      bootstraps = length b.bootstraps;
      name = b.name;
      class = class_given_lem b.class i;
      class_bytes = class_bytes_lem b.class i;
      visits = b.visits;
    }
outcome-told (bad q) r h = λ i. record {
  code = sym (h refl) i;
  place = q.place;
  answers = 0;
  pool = 0;
  bootstrap_count = 0;
  bootstraps = 0;
  name = 0;
  class = 0;
  class_bytes = 0;
  visits = 0;
}

outcome-built : (x : Result Refusal Built) (r : refusal.Refusal) → is_built (outcome_of x r) ≡ is_good x
unfolding is_built outcome_of is_good
outcome-built (good b) r = refl
outcome-built (bad q) r = refl

pub calls_run : CallsRun
calls_run job before after code others t =
    ⊎_elim
    (λ (z : code ≡ 0). by JobTooLong (λ bad. absurd (true≢false (sym (eq-eqb code 0 z) ∙ t.case ∙ bad))))
    (λ (known : (r : refusal.Refusal) × (code ≡ number r)). by known.0 (λ bad. sym t.number ∙ known.1))
    (known_numbers job before after code others t)
  where
    by :
        (r : refusal.Refusal) → (is_good (result_of job before) ≡ false → (numbers (result_of job before)).code ≡ number r) →
        (o : Outcome) × Ran job before after o × ((told o).code ≡ code) × (listed (told o) ≡ others)
    by r named =
        let x = result_of job before in (
          outcome_of x r,
          record { case = outcome-built x r; numbers = outcome-told x r named; memory = t.memory; rows = t.rows },
          ap (λ (n : Numbers). n.code) (outcome-told x r named) ∙ sym t.number,
          ap listed (outcome-told x r named) ∙ sym t.written,
        )

-- what is handed goes by the numbers told
same-told : (r r' : Outcome) (after : Slices) → told r ≡ told r' → handed r after ≡ handed r' after
unfolding handed
same-told r r' after same =
    ap
    (λ (n : Numbers). record {
      answers = take n.answers after.answers;
      marks = take n.answers after.marks;
      pool = take n.pool after.pool;
      bootstrap_count = n.bootstrap_count;
      bootstraps = take n.bootstraps after.bootstraps;
      name = n.name;
      class = elim (eqb n.class 1) [ true ↦ some (take n.class_bytes after.class) | false ↦ none ];
      visits = n.visits;
    })
    same

-- 0 is returned exactly if the job is built
zero-built :
    (job : List ℕ) (before after : Slices) (code : ℕ) (others : List ℕ) (r : Outcome) → Told job before after code others → Ran job before after r →
    eqb code 0 ≡ is_built r
zero-built job before after code others r t ran = t.case ∙ sym ran.case

pub call_order : CallOrder
call_order rs₁ rs₂ rest before₁ after₁ before₂ after₂ code₁ code₂ others₁ others₂ records moved formed₁ formed₂ sizes t₁ t₂ =
    let (r₁, ran₁, _, written₁) = calls_run (job_of rs₁ rest) before₁ after₁ code₁ others₁ t₁ in
    let (r₂, ran₂, _, written₂) = calls_run (job_of rs₂ rest) before₂ after₂ code₂ others₂ t₂ in
    let (both, same) = code_order rs₁ rs₂ rest before₁ after₁ before₂ after₂ r₁ r₂ records moved formed₁ formed₂ sizes ran₁ ran₂ in
    let zero₁ = zero-built (job_of rs₁ rest) before₁ after₁ code₁ others₁ r₁ t₁ ran₁ in
    let zero₂ = zero-built (job_of rs₂ rest) before₂ after₂ code₂ others₂ r₂ t₂ ran₂ in
    let zeros : eqb code₁ 0 ≡ eqb code₂ 0 = zero₁ ∙ both ∙ sym zero₂ in (
      (λ e. eqb-true code₂ 0 (sym zeros ∙ eq-eqb code₁ 0 e), λ e. eqb-true code₁ 0 (zeros ∙ eq-eqb code₂ 0 e)),
      λ e.
          let (numbers-same, handed-same) = same (sym zero₁ ∙ eq-eqb code₁ 0 e) in
          (r₁, written₁, ap listed numbers-same ∙ written₂, handed-same ∙ same-told r₂ r₁ after₂ (sym numbers-same)),
    )
