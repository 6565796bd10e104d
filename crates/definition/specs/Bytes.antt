-- Reading and writing big-endian numbers (document 01, "A job": numbers are big-endian). Assumes nothing.
use Rattle.std.specs.Prelude.{List, [], ◌∷◌, ◌++◌, ℕ, zero, suc, ◌+◌, ◌*◌, ◌/◌, ◌%◌}
use Rattle.std.proofs.Math.Option.{Option, none, some}

-- takes bytes from the front and leaves the rest, or finds that they aren't there
abbrev pub Parser : Type 0 → Type 0
Parser A = List ℕ → Option (A × List ℕ)

abbrev pub return : {A : Type 0} → A → Parser A
return a bytes = some (a, bytes)

abbrev pub fail : {A : Type 0} → Parser A
fail bytes = none

abbrev pub and_then : {A B : Type 0} → Option (A × List ℕ) → (A → Parser B) → Option (B × List ℕ)
and_then none f = none
and_then (some r) f = f r.0 r.1

infixl 10 ◌>>=◌
abbrev pub ◌>>=◌ : {A B : Type 0} → Parser A → (A → Parser B) → Parser B
◌>>=◌ p f bytes = and_then (p bytes) f

-- one byte
unfoldable pub one : Parser ℕ
one [] = none
one (b ∷ bytes) = some (b, bytes)

-- a number of two bytes
unfoldable pub two : Parser ℕ
two = do
  a ← one
  b ← one
  return (256 * a + b)

-- as many as stated, one after the other
unfoldable pub many : {A : Type 0} → ℕ → Parser A → Parser (List A)
many zero p = return []
many (suc n) p = do
  a ← p
  rest ← many n p
  return (a ∷ rest)

-- a number as two bytes, as four and as eight
unfoldable pub be2 : ℕ → List ℕ
be2 n = n / 256 % 256 ∷ n % 256 ∷ []

unfoldable pub be4 : ℕ → List ℕ
be4 n = n / 16777216 % 256 ∷ n / 65536 % 256 ∷ n / 256 % 256 ∷ n % 256 ∷ []

unfoldable pub be8 : ℕ → List ℕ
be8 n = be4 (n / 4294967296) ++ be4 (n % 4294967296)
