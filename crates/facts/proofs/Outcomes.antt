-- What is known of a result, be it good or refused, carried through the steps of a run. Assumes nothing.
use mathlib.Core.Bool.{Bool, true, false}
use mathlib.Core.Path.{◌≡◌, refl, subst}
use Prim.Native.Nat.{ℕ}
use Rattle.definition.specs.Basics.{Result, good, bad, at_record, unless, ◌>>=◌}

-- a good result has P, a refusal Q
pub data Ends {E A : Type 0} (Q : E → Type 0) (P : A → Type 0) : Result E A → Type 0 where
  well : {a : A} → P a → Ends Q P (good a)
  refused : {e : E} → Q e → Ends Q P (bad e)

-- one step after the other
pub next :
    {E A B : Type 0} {Q : E → Type 0} {P : A → Type 0} {P' : B → Type 0} {r : Result E A} (f : A → Result E B) →
    Ends Q P r →
    ((a : A) → P a → Ends Q P' (f a)) →
    Ends Q P' (r >>= f)
next f (well {a = a} h) k = k a h
next f (refused h) k = refused h

-- what follows from what is known
pub weaker :
    {E A : Type 0} {Q Q' : E → Type 0} {P P' : A → Type 0} {r : Result E A} →
    ((e : E) → Q e → Q' e) →
    ((a : A) → P a → P' a) →
    Ends Q P r →
    Ends Q' P' r
weaker q p (well {a = a} h) = well (p a h)
weaker q p (refused {e = e} h) = refused (q e h)

of_good : {E A : Type 0} {Q : E → Type 0} {P : A → Type 0} {a : A} → Ends Q P (good a) → P a
of_good (well h) = h

of_bad : {E A : Type 0} {Q : E → Type 0} {P : A → Type 0} {e : E} → Ends Q P (bad e) → Q e
of_bad (refused h) = h

pub when_good : {E A : Type 0} {Q : E → Type 0} {P : A → Type 0} {r : Result E A} {a : A} → Ends Q P r → r ≡ good a → P a
when_good {Q} {P} h e = of_good (subst (λ r. Ends Q P r) e h)

pub when_bad : {E A : Type 0} {Q : E → Type 0} {P : A → Type 0} {r : Result E A} {e : E} → Ends Q P r → r ≡ bad e → Q e
when_bad {Q} {P} h e = of_bad (subst (λ r. Ends Q P r) e h)

-- what a result is tells how it ends
pub ended : {E A : Type 0} {Q : E → Type 0} {P : A → Type 0} (r : Result E A) → ((a : A) → r ≡ good a → P a) → ((e : E) → r ≡ bad e → Q e) → Ends Q P r
ended (good a) p q = well (p a refl)
ended (bad e) p q = refused (q e refl)

-- what is known of it if it is good
pub known : {E A : Type 0} {Q : E → Type 0} {P P' : A → Type 0} (r : Result E A) → Ends Q P r → ((a : A) → r ≡ good a → P' a) → Ends Q P' r
known (good a) (well h) k = well (k a refl)
known (bad e) (refused h) k = refused h

-- and that it is that result
pub known-good : {E A : Type 0} {Q : E → Type 0} {P : A → Type 0} (r : Result E A) → Ends Q P r → Ends Q (λ a. P a × (r ≡ good a)) r
known-good (good a) (well h) = well (h, refl)
known-good (bad e) (refused h) = refused h

abbrev pub Anything : {A : Type 0} → A → Type 0
Anything a = Unit {0}

-- a number's place doesn't matter
pub at_record-ends :
    {A : Type 0} {Z : ℕ → Type 0} {P : A → Type 0} {r : Result ℕ A} (place : ℕ) → Ends Z P r → Ends (λ e. Z e.code) P (at_record place r)
unfolding at_record
at_record-ends place (well h) = well h
at_record-ends place (refused h) = refused h

pub unless-ends : {Z : ℕ → Type 0} (b : Bool) (code : ℕ) → Z code → Ends Z Anything (unless b code)
unfolding unless
unless-ends true code h = well tt
unless-ends false code h = refused h

-- whatever is refused, or is good
pub anyhow : {E A : Type 0} (r : Result E A) → Ends Anything Anything r
anyhow (good a) = well tt
anyhow (bad e) = refused tt
