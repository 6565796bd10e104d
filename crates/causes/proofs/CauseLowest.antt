-- CAUSE LOWEST: a run that is refused while building is refused at the lowest record for an entry. Assumes nothing.
use mathlib.Core.List.{List}
use mathlib.Core.Logic.{◌⊎◌, inl, inr}
use mathlib.Core.Path.{◌≡◌, sym, subst, ◌∙◌}
use Prim.Native.Nat.{ℕ, ◌≤◌, ◌<◌}
use native.Mathlib.Omega.{arith}
use lib.ListN.{length}
use Rattle.definition.specs.Basics.{good}
use Rattle.definition.specs.Job.{Job}
use Rattle.definition.specs.Form.{form}
use Rattle.definition.specs.Run.{Lent}
use Rattle.facts.proofs.Results.{good_inj}
use Rattle.laws.specs.Statements.{IsBytes}
use Rattle.laws.specs.LowestStatement.{LowestRecord}
use Rattle.causes.specs.CauseStatement.{DefinitionCause, outside, second_taken, on_second, same_slot, last_index, same_index, same_name, ResolvingCause, undefined, circular, SlotCause, no_slot_asked, no_ldc_slot_asked, raw_above_lem, slot_above, pair_above, raw_lacks, child_lacks, bootstrap_lacks, name_lacks, no_index_lem, too_new, CauseOf, too_long_lem, too_little, not_formed, defining, resolving, slots, no_room_lem, CauseLowest}
use Rattle.causes.proofs.Cause.{cause}
use Rattle.causes.proofs.CausedForm.{form_refuted}

module _ (job : Job (List ℕ)) where
  -- a number and a place of building, but for the name
  abbrev Building : ℕ → ℕ → Type 0
  Building code place = ((code ≡ 14) × (place < length job.definitions)) ⊎ ((code ≡ 17) ⊎ (code ≡ 24))

  abbrev Told : ℕ → Type 0
  Told place = (e : ℕ) × LowestRecord job e place

  -- any other number, and 14 behind the definitions, isn't
  other : {X : Type 0} (code place : ℕ) → (code ≡ 14 → length job.definitions ≤ place) → (code ≡ 17 → ⊥) → (code ≡ 24 → ⊥) → Building code place → X
  other code place behind no17 no24 (inl (is, low)) = absurd (omega (arith, low, behind is))
  other code place behind no17 no24 (inr (inl is)) = absurd (no17 is)
  other code place behind no17 no24 (inr (inr is)) = absurd (no24 is)

  early : {X : Type 0} (code place : ℕ) → code < 14 → Building code place → X
  early code place low = other code place (λ is. absurd (omega (arith, low, is))) (λ is. omega (arith, low, is)) (λ is. omega (arith, low, is))

  definition_early : {code place : ℕ} → DefinitionCause job code place → code < 14
  definition_early (outside place n e at h) = omega arith
  definition_early (second_taken place n e at w t) = omega arith
  definition_early (on_second place n e i m k at f l a w q) = omega arith
  definition_early (same_slot place n e i k at f l a) = omega arith
  definition_early (last_index place e at) = omega arith
  definition_early (same_index place n e i k at l a) = omega arith
  definition_early (same_name place i kind s r t at l a) = omega arith

  resolving_early : {code place : ℕ} → ResolvingCause job code place → code < 14
  resolving_early (undefined place r kind s is reaches none) = omega arith
  resolving_early (circular place r t u is reaches refers back) = omega arith

  slot-lowest : {code place : ℕ} → SlotCause job code place → Building code place → Told place
  slot-lowest (no_slot_asked answers e a asks none free) h = other 14 _ (λ _. omega arith) (λ is. omega arith) (λ is. omega arith) h
  slot-lowest (no_ldc_slot_asked answers e a asks none free) h = other 15 _ (λ is. absurd (omega arith)) (λ is. omega arith) (λ is. omega arith) h
  slot-lowest (raw_above_lem answers n a asks high) h = other 16 _ (λ is. absurd (omega arith)) (λ is. omega arith) (λ is. omega arith) h
  slot-lowest (slot_above answers e s a asks has high) h = other 16 _ (λ is. absurd (omega arith)) (λ is. omega arith) (λ is. omega arith) h
  slot-lowest (pair_above answers e s a asks none wide high one two first) h = other 16 _ (λ is. absurd (omega arith)) (λ is. omega arith) (λ is. omega arith) h
  slot-lowest (raw_lacks d w b r c l place (e, _, told)) h = (e, told)
  slot-lowest (child_lacks d w b n tag l place (e, _, told)) h = (e, told)
  slot-lowest (bootstrap_lacks d w b n tag c l place (e, _, told)) h = (e, told)
  slot-lowest (name_lacks d w m b made wanted l) h = other 14 _ (λ _. omega arith) (λ is. omega arith) (λ is. omega arith) h
  slot-lowest (no_index_lem d w b n row p tag is new all place (e, _, told)) h = (e, told)
  slot-lowest (too_new d w b slot owner pending m st t place (e, _, told)) h = (e, told)

module _ (lent : Lent) (bytes : List ℕ) (job : Job (List ℕ)) (are : IsBytes bytes) (formed : form bytes ≡ good job) where
  lowest_caused : {code place : ℕ} → CauseOf lent bytes code place → Building job code place → Told job place
  lowest_caused (too_long_lem long) h = early job 1 0 (omega arith) h
  lowest_caused (too_little few) h = early job 2 0 (omega arith) h
  lowest_caused (not_formed c) h = absurd (form_refuted bytes job are formed c)
  lowest_caused {code} {place} (defining j f c) h = early job code place (definition_early j c) h
  lowest_caused {code} {place} (resolving j f c) h = early job code place (resolving_early j c) h
  lowest_caused {code} {place} (slots j f c) h =
      let same : j ≡ job = good_inj (sym f ∙ formed) in
      slot-lowest job (subst (λ (j : Job (List ℕ)). SlotCause j code place) same c) h
  lowest_caused (no_room_lem j l f laid short) h = other job 18 _ (λ is. absurd (omega arith)) (λ is. omega arith) (λ is. omega arith) h

pub cause_lowest : CauseLowest
cause_lowest lent bytes job r are formed ran h = lowest_caused lent bytes job are formed (cause lent bytes r are ran) h
