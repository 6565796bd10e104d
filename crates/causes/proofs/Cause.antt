-- CAUSE: a run that is refused says why and where, and its number and place are bounded. Assumes nothing.
use mathlib.Core.Bool.{Bool, true, false, ◌&&◌}
use mathlib.Core.List.{List, []}
use mathlib.Core.Logic.{◌⊎◌, inl, inr, ⊎_elim}
use mathlib.Core.Path.{◌≡◌, refl, sym, subst, ◌∙◌}
use Prim.Native.Nat.{ℕ, suc, ◌+◌, ◌*◌, ◌/◌, ◌≤◌, ◌<◌}
use native.Mathlib.Omega.{arith}
use lib.Dec.{leb}
use lib.ListN.{length}
use borrow.Author.Tests.{leb-false}
use Rattle.definition.specs.Basics.{Result, good, bad, Refusal}
use Rattle.definition.specs.Job.{Job}
use Rattle.definition.specs.Form.{form}
use Rattle.definition.specs.Numbering.{top_of, literals, numbered}
use Rattle.definition.specs.Layout.{Ready, Layout, layout}
use Rattle.definition.specs.Run.{Built, render, build, Lent, longest_job, enough, class_out, fits, run}
use Rattle.facts.proofs.Lists.{found_inside}
use Rattle.facts.proofs.Results.{bad≢good, good_inj}
use Rattle.facts.proofs.Outcomes.{Ends, well, refused, next, weaker, when_bad, known-good}
use Rattle.laws.specs.Statements.{IsBytes}
use Rattle.causes.specs.CauseStatement as CauseStatement
use Rattle.causes.specs.CauseStatement.{DefinitionCause, outside, second_taken, on_second, same_slot, last_index, same_index, same_name, Resolves, by_raw, by_request, ResolvingCause, undefined, circular, SlotCause, no_slot_asked, no_ldc_slot_asked, raw_above_lem, slot_above, pair_above, raw_lacks, child_lacks, bootstrap_lacks, name_lacks, no_index_lem, too_new, ToldAt, build_place, Short, CauseOf, too_long_lem, too_little, not_formed, defining, resolving, no_room_lem, records, only_definitions, none_yet_lem, InRecords, CausePlaced}
use Rattle.laws.proofs.Runs.FuelLasts.{fuel_lasts}
use Rattle.causes.proofs.CauseSteps.{unless-cause, at_place}
use Rattle.causes.proofs.CauseForm.{Standing, cause_of_form, records-stand, form-bounds}
use Rattle.causes.proofs.CauseRecords.{InTurn, cause_of_records}

-- ---- numbers and places of the causes of a formed job

-- the numbers that there are
abbrev InRange : ℕ → Type 0
InRange code = (code ≤ 18) ⊎ ((22 ≤ code) × (code ≤ 26))

module _ (job : Job (List ℕ)) where
  abbrev Bounds : ℕ → ℕ → Type 0
  Bounds code place = (6 ≤ code) × InRange code × (place < records job)

  pub definition_bounds : {code place : ℕ} → DefinitionCause job code place → Bounds code place
  definition_bounds (outside place n e at h) = (omega arith, inl (omega arith), omega (arith, found_inside job.definitions place _ at))
  definition_bounds (second_taken place n e at w t) = (omega arith, inl (omega arith), omega (arith, found_inside job.definitions place _ at))
  definition_bounds (on_second place n e i m k at f l a w q) = (omega arith, inl (omega arith), omega (arith, found_inside job.definitions place _ at))
  definition_bounds (same_slot place n e i k at f l a) = (omega arith, inl (omega arith), omega (arith, found_inside job.definitions place _ at))
  definition_bounds (last_index place e at) = (omega arith, inl (omega arith), omega (arith, found_inside job.definitions place _ at))
  definition_bounds (same_index place n e i k at l a) = (omega arith, inl (omega arith), omega (arith, found_inside job.definitions place _ at))
  definition_bounds (same_name place i kind s r t at l a) = (omega arith, inl (omega arith), omega (arith, found_inside job.definitions place _ at))

  resolves_place : {place : ℕ} {r : _} → Resolves job place r → place < records job
  resolves_place (by_raw i kind n e at) = omega arith
  resolves_place (by_request j q at) = omega (arith, found_inside job.requests j q at)

  pub resolving_bounds : {code place : ℕ} → ResolvingCause job code place → Bounds code place
  resolving_bounds (undefined place r kind s is h gone) = (omega arith, inl (omega arith), resolves_place is)
  resolving_bounds (circular place r t u is h l k) = (omega arith, inl (omega arith), resolves_place is)

  -- a node is told at a definition
  told-low : (w : Ready) (k place : ℕ) → ToldAt job w k place → place < records job
  told-low w k place (e, _, told) = omega (arith, found_inside job.definitions place _ told.is_record.1)

  pub slot-bounds : {code place : ℕ} → SlotCause job code place → Bounds code place
  slot-bounds (no_slot_asked answers e b a n l) = (omega arith, inl (omega arith), omega (arith, found_inside job.requests (length answers) _ a.1))
  slot-bounds (no_ldc_slot_asked answers e b a n l) = (omega arith, inl (omega arith), omega (arith, found_inside job.requests (length answers) _ a.1))
  slot-bounds (raw_above_lem answers n b a h) = (omega arith, inl (omega arith), omega (arith, found_inside job.requests (length answers) _ a.1))
  slot-bounds (slot_above answers e s b a l h) = (omega arith, inl (omega arith), omega (arith, found_inside job.requests (length answers) _ a.1))
  slot-bounds (pair_above answers e s b a n w h f₁ f₂ l) = (omega arith, inl (omega arith), omega (arith, found_inside job.requests (length answers) _ a.1))
  slot-bounds (raw_lacks d w b r c l place told) = (omega arith, inl (omega arith), told-low w c.node place told)
  slot-bounds (child_lacks d w b n tag l place told) = (omega arith, inl (omega arith), told-low w n.node place told)
  slot-bounds (bootstrap_lacks d w b n tag c l place told) = (omega arith, inl (omega arith), told-low w c.node place told)
  slot-bounds (name_lacks d w m b made is l) = (omega arith, inl (omega arith), omega arith)
  slot-bounds (no_index_lem d w b n row p tag is new all place told) = (omega arith, inl (omega arith), told-low w n.node place told)
  slot-bounds (too_new d w b slot owner pending m st t place told) = (omega arith, inr (omega arith, omega arith), told-low w owner place told)

-- a refusal is the one that came
known-bad : {E A : Type 0} {Q : E → Type 0} {P : A → Type 0} (r : Result E A) → Ends Q P r → Ends (λ e. Q e × (r ≡ bad e)) P r
known-bad (good a) (well h) = well h
known-bad (bad e) (refused h) = refused (h, refl)

-- ---- the run

module _ (lent : Lent) (bytes : List ℕ) (are : IsBytes bytes) where
  -- what is told of a refusal: fuel ran out, or its cause and where it lies
  record Told (code place : ℕ) : Type 0 where
    cause : CauseOf lent bytes code place
    in_range : (1 ≤ code) × InRange code
    in_records : InRecords bytes place
    in_job : (job : Job (List ℕ)) → form bytes ≡ good job → place < records job

  abbrev Z : ℕ → ℕ → Type 0
  Z code place = (code ≡ 0) ⊎ Told code place

  nothing_stands : InRecords bytes 0
  nothing_stands = (0, only_definitions [] bytes none_yet_lem, omega arith)

  one : leb (length bytes) longest_job ≡ false → Z 1 0
  one t = inr (record { cause = too_long_lem (leb-false (length bytes) longest_job t); in_range = (omega arith, inl (omega arith)); in_records = nothing_stands; in_job = λ job f. omega arith })

  two : enough (length bytes) lent ≡ false → Z 2 0
  unfolding enough
  two t = inr (record { cause = too_little (go (leb (6 * length bytes + 1024) lent.work) refl t); in_range = (omega arith, inl (omega arith)); in_records = nothing_stands; in_job = λ job f. omega arith })
    where
      go :
          (b : Bool) → leb (6 * length bytes + 1024) lent.work ≡ b → (b && leb (length bytes / 5 + 2) lent.gaps) ≡ false →
          (lent.work < 6 * length bytes + 1024) ⊎ (lent.gaps < length bytes / 5 + 2)
      go true q t = inr (leb-false (length bytes / 5 + 2) lent.gaps t)
      go false q t = inl (leb-false (6 * length bytes + 1024) lent.work q)

  form-told : Ends (λ e. Z e.code e.place) (λ job. Standing bytes job × (form bytes ≡ good job)) (form bytes)
  form-told =
      weaker
      (λ e h.
      let b = form-bounds h.0 in
      inr
      (record {
        cause = not_formed h.0;
        in_range = (omega (arith, b.0), ⊎_elim (λ low. inl (omega (arith, low))) (λ high. inr (omega (arith, high.0), high.1)) b.1);
        in_records = b.2;
        in_job = λ job f. bad≢good (sym h.1 ∙ f);
      }))
      (λ a k. k)
      (known-bad (form bytes) (known-good (form bytes) (cause_of_form bytes are)))

  module _ (job : Job (List ℕ)) (stand : Standing bytes job) (formed : form bytes ≡ good job) where
    -- one of its records
    record_told : (code place : ℕ) → CauseOf lent bytes code place → 1 ≤ code → InRange code → place < records job → Told code place
    record_told code place c low high l =
        record {
          cause = c;
          in_range = (low, high);
          in_records = (build_place job, records-stand bytes job stand, omega (arith, l));
          in_job = λ job' f. subst (λ (j : Job (List ℕ)). place < records j) (good_inj (sym formed ∙ f)) l;
        }

    turn_told : (code place : ℕ) → InTurn bytes job are formed code place → Z code place
    turn_told code place (inl c) =
        let b = definition_bounds job c in
        inr (record_told code place (defining job formed c) (omega (arith, b.0)) b.1 b.2)
    turn_told code place (inr (inl z)) = inl z
    turn_told code place (inr (inr (inl c))) =
        let b = resolving_bounds job c in
        inr (record_told code place (resolving job formed c) (omega (arith, b.0)) b.1 b.2)
    turn_told code place (inr (inr (inr c))) =
        let b = slot-bounds job c in
        inr (record_told code place (CauseStatement.slots job formed c) (omega (arith, b.0)) b.1 b.2)

    module _ (l : Layout) (laid : layout (top_of job) (numbered job) ≡ good l) where
      short : fits (render (literals job) l) lent ≡ false → Short lent (render (literals job) l)
      unfolding fits
      short t = answers (leb (length b.answers) lent.answers) refl t
        where
          b : Built
          b = render (literals job) l

          rows : (x : Bool) → leb (length b.bootstraps) lent.bootstraps ≡ x → (x && leb (length (class_out b.class)) lent.class) ≡ false → Short lent b
          rows true q t = inr (inr (inr (inr (leb-false (length (class_out b.class)) lent.class t))))
          rows false q t = inr (inr (inr (inl (leb-false (length b.bootstraps) lent.bootstraps q))))

          pool : (x : Bool) → leb (length b.pool) lent.pool ≡ x → (x && (leb (length b.bootstraps) lent.bootstraps && leb (length (class_out b.class)) lent.class)) ≡ false → Short lent b
          pool true q t = rows (leb (length b.bootstraps) lent.bootstraps) refl t
          pool false q t = inr (inr (inl (leb-false (length b.pool) lent.pool q)))

          marks :
              (x : Bool) → leb (length b.marks) lent.marks ≡ x →
              (x && (leb (length b.pool) lent.pool && (leb (length b.bootstraps) lent.bootstraps && leb (length (class_out b.class)) lent.class))) ≡ false →
              Short lent b
          marks true q t = pool (leb (length b.pool) lent.pool) refl t
          marks false q t = inr (inl (leb-false (length b.marks) lent.marks q))

          answers :
              (x : Bool) → leb (length b.answers) lent.answers ≡ x →
              (x && (leb (length b.marks) lent.marks && (leb (length b.pool) lent.pool && (leb (length b.bootstraps) lent.bootstraps && leb (length (class_out b.class)) lent.class)))) ≡ false →
              Short lent b
          answers true q t = marks (leb (length b.marks) lent.marks) refl t
          answers false q t = inl (leb-false (length b.answers) lent.answers q)

      eighteen : fits (render (literals job) l) lent ≡ false → Z 18 (suc (length job.definitions + length job.requests))
      eighteen t =
          let same : build_place job ≡ suc (length job.definitions + length job.requests) = omega arith in
          inr (subst (Told 18) same (record_told 18 (build_place job) (no_room_lem job l formed laid (short t)) (omega arith) (inl (omega arith)) (omega arith)))

  all : Ends (λ e. Z e.code e.place) (λ b. Unit {0}) (run lent bytes)
  unfolding run build
  all =
      next _ (at_place Z 0 (unless-cause (leb (length bytes) longest_job) 1 one)) λ _ _.
      next _ (at_place Z 0 (unless-cause (enough (length bytes) lent) 2 two)) λ _ _.
      next {P = λ r. fits r.1 lent ≡ false → Z 18 r.0} _
      (next _ form-told λ job f.
      next _
      (known-good (layout (top_of job) (numbered job)) (weaker (λ e h. turn_told job f.0 f.1 e.code e.place h) (λ a k. k) (cause_of_records bytes job are f.1))) λ l k.
      well {a = (suc (length job.definitions + length job.requests), render (literals job) l)} (eighteen job f.0 f.1 l k.1)) λ r h.
      next _ (at_place Z r.0 (unless-cause (fits r.1 lent) 18 h)) λ _ _. well tt

  told : (r : Refusal) → run lent bytes ≡ bad r → Told r.code r.place
  told r ran = go (when_bad all ran)
    where
      go : Z r.code r.place → Told r.code r.place
      go (inl z) = absurd (fuel_lasts bytes lent r are ran z)
      go (inr t) = t

-- CAUSE: a run over bytes that is refused has the cause of its number, at its place
pub cause : CauseStatement.Cause
cause lent bytes r are ran = (told lent bytes are r ran).cause

-- CAUSE PLACED: the number lies from 1 to 18 or from 22 to 26; the place is at most the number of records that stand, and the number of a
-- record if the job is well formed
pub cause_placed : CausePlaced
cause_placed lent bytes r are ran =
    let t = told lent bytes are r ran in
    (t.in_range.0, t.in_range.1, t.in_records, t.in_job)
