-- What a call answers and leaves behind, once the definition's result is known. Assumes nothing.
use mathlib.Core.Path.{◌≡◌, refl, sym, ap, ◌∙◌}
use mathlib.Core.List.{List}
use Prim.Native.Nat.{ℕ}
use lib.ListN.{length}
use Rattle.definition.specs.Basics.{Result, good, bad, Refusal}
use Rattle.definition.specs.Run.{overwrite}
use Rattle.std.specs.Prelude.{Ok, Err}
use Rattle.std.specs.Prelude.{Result as Outcome}
use Rattle.facts.proofs.Results.{bad_inj, bad≢good}
use Rattle.refusal.specs.Numbers.{code_of}
use Rattle.refusal.specs.declared.Refusal as by_name
use Rattle.texts.specs.Answers.{answer, size_of, length_of, out_after, numbers_of, Told}

module _ (result : Result Refusal (List ℕ)) (before : List ℕ) where
  pub ends-bad : (r : Refusal) → result ≡ bad r → (bad r ≡ length_of result) × (before ≡ out_after result before)
  unfolding length_of out_after
  ends-bad r e = (rw e, rw e)

  pub ends-good :
      (new after : List ℕ) (n : ℕ) → result ≡ good new → length new ≡ n → after ≡ overwrite new before →
      (good n ≡ length_of result) × (after ≡ out_after result before)
  unfolding length_of out_after
  ends-good new after n e size written = (rw (e, size), rw e written)

-- a result told as a refusal is that refusal
pub result_bad : (result : Result Refusal (List ℕ)) (r : Refusal) → bad r ≡ length_of result → result ≡ bad r
unfolding length_of
result_bad (good new) r e = bad≢good e
result_bad (bad s) r e = ap bad (sym (bad_inj e))

-- the forms for Rust and C
answer-numbers : (r : Outcome ℕ by_name.Refusal) → (code_of r ≡ (numbers_of (answer r)).0) × (size_of r ≡ (numbers_of (answer r)).1)
unfolding answer numbers_of code_of size_of
answer-numbers (Ok n) = (refl, refl)
answer-numbers (Err r) = (refl, refl)

pub told :
    (result : Result Refusal (List ℕ)) (before after : List ℕ) (r : Outcome ℕ by_name.Refusal) (code size : ℕ) →
    (answer r ≡ length_of result) × (after ≡ out_after result before) → code ≡ code_of r → size ≡ size_of r →
    Told result code size before after
told result before after r code size ended c s =
    let numbers = answer-numbers r in
    record {
      code_is = c ∙ numbers.0 ∙ ap (λ q. (numbers_of q).0) ended.0;
      size_is = s ∙ numbers.1 ∙ ap (λ q. (numbers_of q).1) ended.0;
      after_is = ended.1;
    }
