-- What parsers yield from bytes: numbers that their bytes hold, lists of the length asked for. Assumes nothing.
use mathlib.Core.List.{List, [], ◌∷◌}
use mathlib.Core.Option.{Option, none, some}
use mathlib.Core.Path.{◌≡◌, refl, ap, subst}
use Prim.Native.Nat.{ℕ, zero, suc, ◌+◌, ◌*◌, ◌≤◌, ◌<◌}
use native.Mathlib.Omega.{arith}
use lib.ListN.{length}
use Rattle.definition.specs.Bytes.{Parser, return, fail, and_then, one, two, many, ◌>>=◌}
use Rattle.facts.proofs.Lists.{none≢some}
use Rattle.facts.proofs.Each.{Each}
use Rattle.laws.specs.Statements.{IsBytes}
use Rattle.laws.proofs.Form.EntryShapes.{Short}

-- a byte
abbrev pub Byte : ℕ → Type 0
Byte b = b < 256

-- a byte string, one by one
pub each_byte : (l : List ℕ) → IsBytes l → Each Byte l
each_byte [] h = tt
each_byte (b ∷ l) h = (h 0, each_byte l (λ i. h (suc i)))

-- what was read, and that bytes are left, no more than there were
pub record Got {A : Type 0} (P : A → Type 0) (before : List ℕ) (a : A) (rest : List ℕ) : Type 0 where
  pub is : P a
  pub bytes : Each Byte rest
  pub fewer : length rest ≤ length before

-- whatever a parser reads from bytes is so, and leaves bytes
abbrev pub Yields : {A : Type 0} → (A → Type 0) → Parser A → Type 0
Yields P p = (bytes : List ℕ) → Each Byte bytes → (a : _) (rest : List ℕ) → p bytes ≡ some (a, rest) → Got P bytes a rest

pub yields_fail : {A : Type 0} (P : A → Type 0) → Yields P fail
yields_fail P bytes b a rest e = none≢some e

pub yields_return : {A : Type 0} (P : A → Type 0) (a : A) → P a → Yields P (return a)
yields_return {A} P a h bytes b a' rest e =
    let same : ◌≡◌ {A = A × List ℕ} (a, bytes) (a', rest) = cc in
    record {
      is = subst P (ap (λ r. r.0) same) h;
      bytes = subst (Each Byte) (ap (λ r. r.1) same) b;
      fewer = subst (λ (l : List ℕ). length l ≤ length bytes) (ap (λ r. r.1) same) (omega arith);
    }

-- one after the other
pub yields_bind :
    {A B : Type 0} (P : A → Type 0) (Q : B → Type 0) (p : Parser A) (f : A → Parser B) →
    Yields P p →
    ((a : A) → P a → Yields Q (f a)) →
    Yields Q (p >>= f)
yields_bind P Q p f yp yf bytes b = go (p bytes) refl
  where
    go : (o : Option (_ × List ℕ)) → p bytes ≡ o → (c : _) (rest : List ℕ) → and_then o f ≡ some (c, rest) → Got Q bytes c rest
    go none e c rest h = none≢some h
    go (some r) e c rest h =
        let g = yp bytes b r.0 r.1 e in
        let k = yf r.0 g.is r.1 g.bytes c rest h in
        record { is = k.is; bytes = k.bytes; fewer = omega (arith, g.fewer, k.fewer) }

-- weaker
pub yields_map : {A : Type 0} (P Q : A → Type 0) (p : Parser A) → ((a : A) → P a → Q a) → Yields P p → Yields Q p
yields_map P Q p f y bytes b a rest e =
    let g = y bytes b a rest e in
    record { is = f a g.is; bytes = g.bytes; fewer = g.fewer }

-- one byte, a number of two bytes, so many of anything
pub yields_one : Yields Byte one
unfolding one
yields_one [] b = yields_fail Byte [] b
yields_one (x ∷ bytes) b =
    λ a rest e.
    let g = yields_return Byte x b.0 bytes b.1 a rest e in
    record { is = g.is; bytes = g.bytes; fewer = omega (arith, g.fewer) }

pub yields_two : Yields Short two
unfolding two
yields_two =
    yields_bind Byte Short one _ yields_one λ x hx. yields_bind Byte Short one _ yields_one λ y hy. yields_return Short (256 * x + y) (omega arith)

pub yields_many : {A : Type 0} (P : A → Type 0) (n : ℕ) (p : Parser A) → Yields P p → Yields (λ l. (length l ≡ n) × Each P l) (many n p)
unfolding many
yields_many P zero p y = yields_return (λ l. (length l ≡ 0) × Each P l) [] (refl, tt)
yields_many P (suc n) p y =
    yields_bind P _ p _ y λ a ha.
    yields_bind _ _ (many n p) _ (yields_many P n p y) λ l hl. yields_return _ (a ∷ l) (ap suc hl.0, (ha, hl.1))
