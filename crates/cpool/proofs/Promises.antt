-- The promises of every run hold. Assumes nothing.
use mathlib.Core.Bool.{true, false, ◌||◌}
use mathlib.Core.List.{List}
use mathlib.Core.Logic.{◌⊎◌, ◌≢◌, inl, inr, ⊎_elim}
use mathlib.Core.Path.{◌≡◌, refl, sym, ap, subst, ◌∙◌}
use Prim.Native.Nat.{ℕ, zero, suc, ◌≤◌}
use native.Mathlib.Omega.{arith}
use lib.Dec.{eqb, leb}
use borrow.Author.Tests.{leb-true}
use lib.ListN.{length, take, drop, length-append, length-drop}
use lib.Seq.{drop-append_seam}
use Rattle.definition.specs.Basics.{Result, good, bad, Refusal, at_record, unless}
use Rattle.definition.specs.Job.{Job}
use Rattle.definition.specs.Form.{form}
use Rattle.definition.specs.Run.{build, Built, Memory, Lent, lent_of, longest_job, enough, fits, class_out, run, refusal_of, returned, untouched, cleared_after, overwrite, output_after, memory_after}
use Rattle.facts.proofs.Lists.{both_true}
use Rattle.facts.proofs.Results.{good_inj, good_first, good_then, at_record-good, unless-good}
use Rattle.laws.specs.Statements.{IsBytes}
use Rattle.laws.proofs.Reading.Shape.{shape}
use Rattle.laws.proofs.Reading.Holds.{held_slots}
use Rattle.laws.proofs.Reading.Reads.{reads}
use Rattle.laws.proofs.Reading.Shared.{shared}
use Rattle.laws.proofs.Reading.Marks.{marks}
use Rattle.causes.proofs.Cause.{cause}
use Rattle.causes.proofs.CausedRuns.{no_cause}
use Rattle.laws.specs.ShapeStatement.{PoolsAlike, ClassesAlike}
use Rattle.laws.proofs.Runs.FuelLasts.{fuel_lasts}
use Rattle.slots.specs.Gaps.{no_gap}
use Rattle.cpool.specs.Ran.{Outcome, Numbers, told, is_built, numbers, is_good, Slices, memory_of, result_of, Ran}
use Rattle.cpool.specs.Promises.{handed, PrefixOnly, BuiltRun, RefusedRun, EveryJob, CodeReads, CodeHolds, CodeShared, CodeMarks, CodeCause, CodeShape}
use Rattle.cpool.proofs.Refusals.{code-high, late_cleared}
use Rattle.cpool.proofs.Telling.{class_size_lem}
use Rattle.cpool.proofs.Ending.{cleared_left, cleared_blank}
use Rattle.cpool.proofs.Handed.{numbers-built, memory_built, answers_built, marks_built, marks_many, pool_built, bootstraps_built, class_built, handed-is, built_result, refused_result}

-- WHAT IS LEFT ALONE, by a refusal's number

non_zero : (n : ℕ) → (n ≡ 0 → ⊥) → 1 ≤ n
non_zero zero h = absurd (h refl)
non_zero (suc n) h = omega arith

early_untouched : (q : Refusal) → 1 ≤ q.code → q.code ≤ 2 → untouched (bad q) ≡ true
unfolding untouched
early_untouched q low high = ways q.code low high
  where
    ways : (c : ℕ) → 1 ≤ c → c ≤ 2 → (eqb c 1 || eqb c 2) ≡ true
    ways zero l h = absurd (omega arith)
    ways (suc zero) l h = refl
    ways (suc (suc zero)) l h = refl
    ways (suc (suc (suc c))) l h = absurd (omega arith)

-- a run that is built was formed, and had room
run-built :
    (lent : Lent) (bytes : List ℕ) (b : Built) → run lent bytes ≡ good b →
    ((records : Job (List ℕ)) × (form bytes ≡ good records)) × (fits b lent ≡ true)
unfolding run build
run-built lent bytes b e =
    good_then (at_record 0 (unless (leb (length bytes) longest_job) 1)) _ b e λ _ _ e₁.
    good_then (at_record 0 (unless (enough (length bytes) lent) 2)) _ b e₁ λ _ _ e₂.
    good_then (build bytes) _ b e₂ λ placed built e₃.
    good_then (at_record placed.0 (unless (fits placed.1 lent) 18)) _ b e₃ λ u room e₄.
    let formed = good_first (form bytes) _ placed built in (
      (formed.0, formed.1),
      subst (λ x. fits x lent ≡ true) (good_inj e₄) (unless-good (fits placed.1 lent) 18 u (at_record-good placed.0 (unless (fits placed.1 lent) 18) u room)),
    )

-- what is told of one run
module _ (job : List ℕ) (before after : Slices) (r : Outcome) (ran : Ran job before after r) where
  enough-told :
      ((told r).code ≢ 1) × ((told r).code ≢ 2) × ((told r).code ≢ 18) → (q : Refusal) → result_of job before ≡ bad q →
      (q.code ≢ 1) × (q.code ≢ 2) × (q.code ≢ 18)
  unfolding numbers refusal_of
  enough-told h q e =
      let n : (told r).code ≡ q.code = ap (λ (m : Numbers). m.code) (ran.numbers ∙ ap numbers e) in
      subst (λ c. (c ≢ 1) × (c ≢ 2) × (c ≢ 18)) n h

  case_bad : (q : Refusal) → result_of job before ≡ bad q → is_built r ≡ false
  unfolding is_good
  case_bad q e = ran.case ∙ ap is_good e

  case_good : (b : Built) → result_of job before ≡ good b → is_built r ≡ true
  unfolding is_good
  case_good b e = ran.case ∙ ap is_good e

-- READS AND HOLDS

pub code_reads : CodeReads
unfolding result_of
code_reads job before after r are ran built =
    let is = built_result job before after r ran built in
    let formed = (run-built (lent_of (memory_of before)) job (handed r after) is).0 in
    let law = reads job formed.0 (lent_of (memory_of before)) (handed r after) are formed.1 is in
    (formed.0, law.0, formed.1, law.1, law.2, law.3, law.4)

pub code_holds : CodeHolds
unfolding result_of
code_holds job before after r are ran built =
    let is = built_result job before after r ran built in
    let formed = (run-built (lent_of (memory_of before)) job (handed r after) is).0 in
    let law = held_slots job formed.0 (lent_of (memory_of before)) (handed r after) are formed.1 is in
    (formed.0, law.0, law.1, formed.1, law.2, law.3, law.4)

pub code_shared : CodeShared
unfolding result_of
code_shared job before after r are ran built =
    let is = built_result job before after r ran built in
    let formed = (run-built (lent_of (memory_of before)) job (handed r after) is).0 in
    let law = shared job formed.0 (lent_of (memory_of before)) (handed r after) are formed.1 is in
    (formed.0, law.0, law.1, formed.1, law.2, law.3, law.4)

-- MARKS

pub code_marks : CodeMarks
unfolding result_of
code_marks job before after r are ran built =
    let is = built_result job before after r ran built in
    let formed = (run-built (lent_of (memory_of before)) job (handed r after) is).0 in
    (formed.0, formed.1, marks job formed.0 (lent_of (memory_of before)) (handed r after) are formed.1 is)

-- CAUSE

pub code_cause : CodeCause
unfolding result_of
code_cause job before after r are ran = (
  λ refused. cause (lent_of (memory_of before)) job _ are (refused_result job before after r ran refused),
  (
    λ built. (no_cause (lent_of (memory_of before)) job are).0 (handed r after, built_result job before after r ran built),
    λ without. let b = (no_cause (lent_of (memory_of before)) job are).1 without in case_good job before after r ran b.0 b.1,
  ),
)

-- SHAPE

-- what is the same of two values is the same of what they are
both : {A : Type 0} {x₁ x₂ y₁ y₂ : Built} (f : Built → A) → x₁ ≡ y₁ → x₂ ≡ y₂ → f y₁ ≡ f y₂ → f x₁ ≡ f x₂
both f a b e = ap f a ∙ e ∙ sym (ap f b)

pub code_shape : CodeShape
unfolding result_of
code_shape job₁ job₂ before₁ after₁ before₂ after₂ r₁ r₂ j₁ j₂ formed₁ formed₂ alike ran₁ ran₂ enough₁ enough₂ =
    ⊎_elim
    (λ h.
    inl (
      case_bad job₁ before₁ after₁ r₁ ran₁ h.0 h.1,
      case_bad job₂ before₂ after₂ r₂ ran₂ h.0 h.2,
      ran₁.numbers ∙ ap numbers (h.1 ∙ sym h.2) ∙ sym ran₂.numbers,
    ))
    (λ h.
    let a = handed-is job₁ before₁ after₁ r₁ ran₁ h.1 h.3 in
    let b = handed-is job₂ before₂ after₂ r₂ ran₂ h.2 h.4 in
    inr (
      case_good job₁ before₁ after₁ r₁ ran₁ h.1 h.3,
      case_good job₂ before₂ after₂ r₂ ran₂ h.2 h.4,
      h.0,
      a ∙ h.5,
      b ∙ h.6,
      both (λ x. x.answers) a b h.7,
      both (λ x. x.marks) a b h.8,
      both (λ x. take 2 x.pool) a b h.9,
      both (λ x. x.bootstrap_count) a b h.10,
      both (λ x. x.bootstraps) a b h.11,
      both (λ x. x.name) a b h.12,
      both (λ x. x.visits) a b h.13,
      λ are₁ are₂.
          let alike = h.14 are₁ are₂ in (
            subst (λ x. PoolsAlike j₁ j₂ x.pool (handed r₂ after₂).pool) (sym a) (subst (λ x. PoolsAlike j₁ j₂ h.1.pool x.pool) (sym b) alike.0),
            subst (λ x. ClassesAlike j₁ j₂ x.class (handed r₂ after₂).class) (sym a) (subst (λ x. ClassesAlike j₁ j₂ h.1.class x.class) (sym b) alike.1),
          ),
    ))
    (shape job₁ job₂ j₁ j₂ (lent_of (memory_of before₁)) (lent_of (memory_of before₂)) formed₁ formed₂ alike
    (enough-told job₁ before₁ after₁ r₁ ran₁ enough₁)
    (enough-told job₂ before₂ after₂ r₂ ran₂ enough₂))

-- EVERY JOB

prefix_only_lem : (n : ℕ) (new before after : List ℕ) → n ≡ length new → after ≡ overwrite new before → leb (length new) (length before) ≡ true → PrefixOnly n before after
unfolding overwrite
prefix_only_lem n new before after m e h =
    let low = leb-true (length new) (length before) h in
    record {
      fits = omega (arith, m);
      long = ap length e ∙ length-append new (drop (length new) before) ∙ omega (arith, length-drop (length new) before);
      behind = ap (λ k. drop k after) m ∙ ap (drop (length new)) e ∙ drop-append_seam new (drop (length new) before) ∙ ap (λ k. drop k before) (sym m);
    }

module _ (job : List ℕ) (before after : Slices) (r : Outcome) (are : IsBytes job) (ran : Ran job before after r) where
  built_run : (b : Built) → result_of job before ≡ good b → BuiltRun before after (told r)
  unfolding result_of numbers returned fits lent_of memory_of memory_after cleared_after untouched
  built_run b is =
      let n = numbers-built job before after r ran b is in
      let room = both_true _ _ (run-built (lent_of (memory_of before)) job b is).1 in
      let room₁ = both_true _ _ room.1 in
      let room₂ = both_true _ _ room₁.1 in
      let room₃ = both_true _ _ room₂.1 in
      record {
        answers = prefix_only_lem (told r).answers b.answers before.answers after.answers (ap (λ (m : Numbers). m.answers) n) (answers_built job before after r ran b is) room.0;
        marks =
            prefix_only_lem (told r).answers b.marks before.marks after.marks
            (ap (λ (m : Numbers). m.answers) n ∙ sym (marks_many job before after r ran b is)) (marks_built job before after r ran b is) room₁.0;
        pool = prefix_only_lem (told r).pool b.pool before.pool after.pool (ap (λ (m : Numbers). m.pool) n) (pool_built job before after r ran b is) room₂.0;
        bootstraps = prefix_only_lem (told r).bootstraps b.bootstraps before.bootstraps after.bootstraps (ap (λ (m : Numbers). m.bootstraps) n) (bootstraps_built job before after r ran b is) room₃.0;
        class = prefix_only_lem (told r).class_bytes (class_out b.class) before.class after.class (ap (λ (m : Numbers). m.class_bytes) n ∙ class_size_lem b.class) (class_built job before after r ran b is) room₃.1;
        cleared = (ap (λ (m : Memory). m.work) (memory_built job before after r ran b is), ran.rows ∙ ap (λ x. cleared_after no_gap x before.rows) is);
      }

  refused_run : (q : Refusal) → result_of job before ≡ bad q → RefusedRun before after (told r)
  unfolding result_of numbers refusal_of memory_of memory_after output_after
  refused_run q is =
      let n : (told r).code ≡ q.code = ap (λ (m : Numbers). m.code) (ran.numbers ∙ ap numbers is) in
      let memory : memory_of after ≡ memory_after (bad q) (memory_of before) = ran.memory ∙ ap (λ x. memory_after x (memory_of before)) is in
      let rows : after.rows ≡ cleared_after no_gap (bad q) before.rows = ran.rows ∙ ap (λ x. cleared_after no_gap x before.rows) is in
      let work : after.work ≡ cleared_after 0 (bad q) before.work = ap (λ (m : Memory). m.work) memory in
      record {
        low = omega (arith, n, non_zero q.code (fuel_lasts job (lent_of (memory_of before)) q are is));
        high = subst (λ (c : ℕ). (c ≤ 18) ⊎ ((22 ≤ c) × (c ≤ 26))) (sym n) (code-high (lent_of (memory_of before)) job q are is);
        answers = ap (λ (m : Memory). m.answers) memory;
        marks = ap (λ (m : Memory). m.marks) memory;
        pool = ap (λ (m : Memory). m.pool) memory;
        bootstraps = ap (λ (m : Memory). m.bootstraps) memory;
        class = ap (λ (m : Memory). m.class) memory;
        untouched =
            λ h.
            let t = early_untouched q (omega (arith, n, non_zero q.code (fuel_lasts job (lent_of (memory_of before)) q are is))) (omega (arith, n)) in
            (work ∙ cleared_left 0 (bad q) before.work t, rows ∙ cleared_left no_gap (bad q) before.rows t);
        cleared = λ h. let t = late_cleared q (omega (arith, n)) in (work ∙ cleared_blank 0 (bad q) before.work t, rows ∙ cleared_blank no_gap (bad q) before.rows t);
      }

pub every_job : EveryJob
every_job job before after r are ran = ways (result_of job before) refl
  where
    ways : (x : Result Refusal Built) → result_of job before ≡ x → ((is_built r ≡ true) × BuiltRun before after (told r)) ⊎ ((is_built r ≡ false) × RefusedRun before after (told r))
    ways (good b) e = inl (case_good job before after r ran b e, built_run job before after r are ran b e)
    ways (bad q) e = inr (case_bad job before after r ran q e, refused_run job before after r are ran q e)
