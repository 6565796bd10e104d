-- Results that may be refusals: their codes, and what stands for none. Assumes nothing.
use Rattle.std.specs.Prelude.{◌≡◌, ◌<◌, Option, Some, None, Result, Ok, Err, ok_or, refl}
use Rattle.std.proofs.Common.{arith}
use Rattle.refusal.specs.declared.Refusal.{Refusal}
use Rattle.refusal.specs.Numbers.{number, code_of}
use Rattle.refusal.proofs.Numbers.{number_tag}

number-some : (r : Refusal) → 0 < number r
number-some r = omega (arith, number_tag r)

not-refused : {T : Type 0} (x : Result T Refusal) → ((r : Refusal) → x ≡ Err r → ⊥) → code_of x ≡ 0
unfolding code_of
not-refused (Ok v) h = refl
not-refused (Err r) h = absurd (h r refl)

-- a result's code, 0 or a refusal's number
module _ {T : Type 0} (x : Result T Refusal) where
  pub code-good : (v : T) → x ≡ Ok v → code_of x ≡ 0
  unfolding code_of
  code-good v e = rw e

  pub code-kept : ((r : Refusal) → x ≡ Err r → ⊥) → code_of x ≡ 0
  code-kept h = not-refused x h

  pub code-bad : (r : Refusal) → x ≡ Err r → 0 < code_of x
  unfolding code_of
  code-bad r e = rw e (number-some r)

  pub code-refused : (r : Refusal) → x ≡ Err r → code_of x ≡ 0 → ⊥
  code-refused r e z = omega (arith, code-bad r e)

  -- the error that `?` passes on
  pub code-passed : {U : Type 0} (y : Result U Refusal) (r : Refusal) → x ≡ Err r → y ≡ Err r → code_of y ≡ code_of x
  unfolding code_of
  code-passed y r e f = rw (e, f)

-- none, and some, as a result
pub ok_or-none : {T E : Type 0} (o : Option T) (e d : E) → ok_or o e ≡ Err d → (o ≡ None) × (d ≡ e)
ok_or-none None e d h = (refl, cc)
ok_or-none (Some v) e d h = absurd (let never : ⊥ = cc in never)

pub ok_or-some : {T E : Type 0} (o : Option T) (e : E) (v : T) → ok_or o e ≡ Ok v → o ≡ Some v
ok_or-some None e v h = absurd (let never : ⊥ = cc in never)
ok_or-some (Some w) e v h = cc
