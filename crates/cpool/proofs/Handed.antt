-- What stands in the caller's buffers after a run is what the definition's run returns. Assumes nothing.
use mathlib.Core.Bool.{true, false}
use mathlib.Core.List.{List}
use mathlib.Core.Option.{Option, none, some}
use mathlib.Core.Path.{◌≡◌, refl, sym, ap, ◌∙◌}
use Prim.Native.Nat.{ℕ}
use lib.Dec.{eqb}
use lib.ListN.{length, take, drop}
use lib.Seq.{take-append_seam}
use Rattle.definition.specs.Basics.{Result, good, bad, Refusal}
use Rattle.definition.specs.Run.{Built, Memory, lent_of, refusal_of, returned, class_out, overwrite, output_after, memory_after}
use Rattle.facts.proofs.Lists.{true≢false}
use Rattle.laws.proofs.Building.MarksOfAnswers.{as_many-marks}
use Rattle.cpool.specs.Ran.{Outcome, Numbers, told, is_built, class_given, class_size, numbers, is_good, Slices, memory_of, result_of, Ran}
use Rattle.cpool.specs.Promises.{handed}

take-overwrite : (new before after : List ℕ) (n : ℕ) → after ≡ overwrite new before → n ≡ length new → take n after ≡ new
unfolding overwrite
take-overwrite new before after n e m = ap (λ k. take k after) m ∙ ap (take (length new)) e ∙ take-append_seam new (drop (length new) before)

module _ (job : List ℕ) (before after : Slices) (r : Outcome) (ran : Ran job before after r) where
  module _ (b : Built) (is : result_of job before ≡ good b) where
    pub numbers-built : told r ≡ numbers (good b)
    numbers-built = ran.numbers ∙ ap numbers is

    pub memory_built : memory_of after ≡ memory_after (good b) (memory_of before)
    memory_built = ran.memory ∙ ap (λ x. memory_after x (memory_of before)) is

    pub answers_built : after.answers ≡ overwrite b.answers before.answers
    unfolding memory_of memory_after output_after
    answers_built = ap (λ (m : Memory). m.answers) memory_built

    pub marks_built : after.marks ≡ overwrite b.marks before.marks
    unfolding memory_of memory_after output_after
    marks_built = ap (λ (m : Memory). m.marks) memory_built

    -- a mark for each answer
    pub marks_many : length b.marks ≡ length b.answers
    unfolding result_of
    marks_many = as_many-marks job (lent_of (memory_of before)) b is

    pub pool_built : after.pool ≡ overwrite b.pool before.pool
    unfolding memory_of memory_after output_after
    pool_built = ap (λ (m : Memory). m.pool) memory_built

    pub bootstraps_built : after.bootstraps ≡ overwrite b.bootstraps before.bootstraps
    unfolding memory_of memory_after output_after
    bootstraps_built = ap (λ (m : Memory). m.bootstraps) memory_built

    pub class_built : after.class ≡ overwrite (class_out b.class) before.class
    unfolding memory_of memory_after output_after
    class_built = ap (λ (m : Memory). m.class) memory_built

    class_handed :
        (c : Option (List ℕ)) → after.class ≡ overwrite (class_out c) before.class →
        elim (eqb (class_given c) 1) [ true ↦ some (take (class_size c) after.class) | false ↦ none ] ≡ c
    unfolding class_given class_size class_out
    class_handed none e = refl
    class_handed (some l) e = ap some (take-overwrite l before.class after.class (length l) e refl)

    pub handed-is : handed r after ≡ b
    unfolding handed numbers returned
    handed-is =
        let n = numbers-built in
        let a = take-overwrite b.answers before.answers after.answers (told r).answers answers_built (ap (λ (m : Numbers). m.answers) n) in
        let l = take-overwrite b.marks before.marks after.marks (told r).answers marks_built (ap (λ (m : Numbers). m.answers) n ∙ sym marks_many) in
        let p = take-overwrite b.pool before.pool after.pool (told r).pool pool_built (ap (λ (m : Numbers). m.pool) n) in
        let s = take-overwrite b.bootstraps before.bootstraps after.bootstraps (told r).bootstraps bootstraps_built (ap (λ (m : Numbers). m.bootstraps) n) in
        let c =
        ap
        (λ (m : Numbers). elim (eqb m.class 1) [ true ↦ some (take m.class_bytes after.class) | false ↦ none ])
        n
        ∙ class_handed b.class class_built in
        let k = ap (λ (m : Numbers). m.bootstrap_count) n in
        let m = ap (λ (m : Numbers). m.name) n in
        let v = ap (λ (m : Numbers). m.visits) n in
        λ i. record { answers = a i; marks = l i; pool = p i; bootstrap_count = k i; bootstraps = s i; name = m i; class = c i; visits = v i }

  -- a job that is built is built by the definition, as what was handed
  pub built_result : is_built r ≡ true → result_of job before ≡ good (handed r after)
  unfolding is_good
  built_result built = ways (result_of job before) refl
    where
      ways : (x : Result Refusal Built) → result_of job before ≡ x → result_of job before ≡ good (handed r after)
      ways (good b) e = e ∙ ap good (sym (handed-is b e))
      ways (bad q) e = true≢false (sym built ∙ ran.case ∙ ap is_good e)

  -- and one that is refused is refused by the definition, with the number and the record told
  pub refused_result : is_built r ≡ false → result_of job before ≡ bad (record { code = (told r).code; place = (told r).place })
  unfolding is_good numbers refusal_of
  refused_result not-built = ways (result_of job before) refl
    where
      ways : (x : Result Refusal Built) → result_of job before ≡ x → result_of job before ≡ bad (record { code = (told r).code; place = (told r).place })
      ways (good b) e = true≢false (sym (ran.case ∙ ap is_good e) ∙ not-built)
      ways (bad q) e =
          let n : told r ≡ numbers (bad q) = ran.numbers ∙ ap numbers e in
          e ∙ ap bad (sym (λ i. record { code = (n i).code; place = (n i).place }))
