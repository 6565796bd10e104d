-- What a result says of the stages and tests that it went through: one that came out good was good at every stage before, and a test in
-- front of what comes next passes, or it is refused. Assumes nothing.
use mathlib.Core.Bool.{Bool, true, false}
use mathlib.Core.List.{List}
use mathlib.Core.Logic.{◌⊎◌, inl, inr}
use mathlib.Core.Option.{Option, none, some}
use mathlib.Core.Path.{◌≡◌, refl, ap}
use Prim.Native.Nat.{ℕ}
use Rattle.definition.specs.Basics.{Result, good, bad, Refusal, at_record, unless, ◌>>=◌}
use Rattle.definition.specs.Bytes.{Parser, and_then}
use Rattle.definition.specs.Form.{whole}
use Rattle.facts.proofs.Lists.{clash}

-- ---- one stage after the other

-- a refusal isn't a result
pub bad≢good : {E A X : Type 0} {e : E} {a : A} → ◌≡◌ {A = Result E A} (bad e) (good a) → X
bad≢good h = clash (cc)

-- one result is one value
pub good_inj : {E A : Type 0} {a b : A} → ◌≡◌ {A = Result E A} (good a) (good b) → a ≡ b
good_inj e = cc

-- and one refusal one number
pub bad_inj : {E A : Type 0} {a b : E} → ◌≡◌ {A = Result E A} (bad a) (bad b) → a ≡ b
bad_inj e = cc

-- a chain that ends well went well at its first stage
pub good_first : {E A B : Type 0} (r : Result E A) (f : A → Result E B) (b : B) → (r >>= f) ≡ good b → (a : A) × (r ≡ good a) × (f a ≡ good b)
good_first (good a) f b e = (a, refl, e)
good_first (bad c) f b e = bad≢good e

-- the same, for what follows from the stage's value
pub good_then :
    {E A B C : Type 0} (r : Result E A) (f : A → Result E B) (b : B) → (r >>= f) ≡ good b → ((a : A) → r ≡ good a → f a ≡ good b → C) → C
good_then r f b e k = let h = good_first r f b e in k h.0 h.1 h.2

-- a good result at a record is a good result
pub at_record-good : {A : Type 0} (place : ℕ) (r : Result ℕ A) (a : A) → at_record place r ≡ good a → r ≡ good a
unfolding at_record
at_record-good place (good x) a h = ap good (good_inj h)
at_record-good place (bad code) a h = bad≢good h

-- what wasn't refused passed the test
pub unless-good : (b : Bool) (code : ℕ) (u : Unit {0}) → unless b code ≡ good u → b ≡ true
unfolding unless
unless-good true code u h = refl
unless-good false code u h = bad≢good h

-- a step that passes what a test refuses
pub unless-first : {A : Type 0} (b : Bool) (code : ℕ) (f : Unit {0} → Result ℕ A) (a : A) → (unless b code >>= f) ≡ good a → (b ≡ true) × (f tt ≡ good a)
unfolding unless
unless-first true code f a h = (refl, h)
unless-first false code f a h = bad≢good h

-- what was read whole was read
pub whole-good : {A : Type 0} (o : Option A) (a : A) → whole o ≡ good a → o ≡ some a
unfolding whole
whole-good none a h = bad≢good h
whole-good (some x) a h = ap some (good_inj h)

-- a chain of parsers that ends well went well at its first stage
pub some_then :
    {A B C : Type 0} (o : Option (A × List ℕ)) (f : A → Parser B) (b : B × List ℕ) →
    and_then o f ≡ some b →
    ((a : A) (rest : List ℕ) → o ≡ some (a, rest) → f a rest ≡ some b → C) →
    C
some_then none f b e k = clash (cc)
some_then (some a) f b e k = k a.0 a.1 refl e

-- what a choice by a test came to: the one case or the other, with what the test said
pub decided :
    {A C : Type 0} (t : Bool) (x y z : A) → elim t [ true ↦ x | false ↦ y ] ≡ z → (t ≡ true → x ≡ z → C) → (t ≡ false → y ≡ z → C) → C
decided true x y z e f g = f refl e
decided false x y z e f g = g refl e

-- a test that refuses with a number was passed, if nothing is refused with that number
pub past_unless :
    {A : Type 0} (t : Bool) (place code : ℕ) (f : Unit {0} → Result Refusal A) →
    ((r : Refusal) → (at_record place (unless t code) >>= f) ≡ bad r → r.code ≡ code → ⊥) →
    (at_record place (unless t code) >>= f) ≡ f tt
unfolding at_record unless
past_unless true place code f h = refl
past_unless false place code f h = absurd (h (record { code = code; place = place }) refl refl)

-- ---- a check that gives nothing but leave to go on

module _ {A : Type 0} (next : Result Refusal A) where
  -- the outcome is good: the check was, and what comes next is
  pub then_good : (r : Result Refusal (Unit {0})) (a : A) → (r >>= λ _. next) ≡ good a → (r ≡ good tt) × (next ≡ good a)
  then_good (good u) a e = (refl, e)
  then_good (bad x) a e = clash (cc)

  -- the outcome is a refusal: the check's, or a later one
  pub then_bad :
      (r : Result Refusal (Unit {0})) (x : Refusal) → (r >>= λ _. next) ≡ bad x → (r ≡ bad x) ⊎ ((r ≡ good tt) × (next ≡ bad x))
  then_bad (good u) x e = inr (refl, e)
  then_bad (bad y) x e = inl (cc)

-- ---- a test in front of what comes next: it passes, or it is refused

module _ {A : Type 0} (t : Bool) (place code : ℕ) (next : Result Refusal A) where
  abbrev pub guarded : Result Refusal A
  guarded = at_record place (unless t code) >>= λ _. next

module _ {A : Type 0} (place code : ℕ) (next : Result Refusal A) where
  -- a test that holds leaves what comes next
  pub passes : (t : Bool) → t ≡ true → guarded t place code next ≡ next
  unfolding at_record unless
  passes true e = refl
  passes false e = clash (cc)

  -- one that doesn't is refused with its number, at its place
  pub refuses : (t : Bool) → t ≡ false → guarded t place code next ≡ bad (record { code = code; place = place })
  unfolding at_record unless
  refuses true e = clash (cc)
  refuses false e = refl

  -- the outcome is good: the test held
  pub passed : (t : Bool) (a : A) → guarded t place code next ≡ good a → (t ≡ true) × (next ≡ good a)
  unfolding at_record unless
  passed true a e = (refl, e)
  passed false a e = clash (cc)

  -- the outcome is a refusal: the test's, or a later one
  pub refused_by :
      (t : Bool) (r : Refusal) →
      guarded t place code next ≡ bad r →
      ((t ≡ false) × (record { code = code; place = place } ≡ r)) ⊎ ((t ≡ true) × (next ≡ bad r))
  unfolding at_record unless
  refused_by true r e = inr (refl, e)
  refused_by false r e = inl (refl, cc)
