-- Constants worked out in the job (document 02, No. 3): an expression, how it is read, and its kind. Assumes nothing.
use Rattle.std.specs.Prelude.{true, false, List, [], ◌∷◌, ℕ, zero, suc, ◌+◌, ◌*◌, eqb, length}
use Rattle.std.proofs.Math.Option.{Option, none, some}
use Rattle.definition.specs.Basics.{lookup}
use Rattle.definition.specs.Bytes.{Parser, return, fail, ◌>>=◌, one, two}

-- a kind, one of the four
pub data Number : Type 0 where
  int float long double : Number

unfoldable pub tag_of : Number → ℕ
tag_of int = 3
tag_of float = 4
tag_of long = 5
tag_of double = 6

pub data Sign : Type 0 where
  plus minus times over : Sign

-- a leaf, its kind and its bits; or a sign and two parts
pub data Expression : Type 0 where
  leaf : Number → ℕ → Expression
  apply : Sign → Expression → Expression → Expression

-- ---- reading

-- a number of four bytes, and of eight
unfoldable pub four : Parser ℕ
four = do
  a ← two
  b ← two
  return (65536 * a + b)

unfoldable pub eight : Parser ℕ
eight = do
  a ← four
  b ← four
  return (4294967296 * a + b)

unfoldable pub bits : Number → Parser ℕ
bits int = four
bits float = four
bits long = eight
bits double = eight

-- what a byte opens: the tags of leaves, then the signs in ASCII
pub data Opening : Type 0 where
  of_leaf : Number → Opening
  of_sign : Sign → Opening

unfoldable pub openings : List (ℕ × Opening)
openings =
    (3, of_leaf int)
    ∷ (4, of_leaf float)
    ∷ (5, of_leaf long)
    ∷ (6, of_leaf double)
    ∷ (0x2B, of_sign plus)
    ∷ (0x2D, of_sign minus)
    ∷ (0x2A, of_sign times)
    ∷ (0x2F, of_sign over)
    ∷ []

-- A part's reader fails where the bytes end. A byte that is neither leaf tag nor sign is no failure: it is read, and no expression comes of it.
unfoldable pub joined : Sign → Expression → Option Expression → Option Expression
joined s a none = none
joined s a (some b) = some (apply s a b)

unfoldable pub second_part : Parser (Option Expression) → Sign → Option Expression → Parser (Option Expression)
second_part part s none = return none
second_part part s (some a) = do
  b ← part
  return (joined s a b)

unfoldable pub opened_part : Parser (Option Expression) → Option Opening → Parser (Option Expression)
opened_part part none = return none
opened_part part (some (of_leaf kind)) = do
  b ← bits kind
  return (some (leaf kind b))
opened_part part (some (of_sign s)) = do
  a ← part
  second_part part s a

-- fuel is the bytes' number or more
unfoldable pub expression : ℕ → Parser (Option Expression)
expression zero = fail
expression (suc fuel) = do
  first ← one
  opened_part (expression fuel) (lookup first openings)

unfoldable pub read_expression : Parser (Option Expression)
read_expression s = expression (length s) s

-- ---- its kind: that of all its leaves, if they are alike and it is nested no deeper than this; a lone leaf is 1 deep

unfoldable pub alike : Option Number → Option Number → Option Number
alike none b = none
alike (some a) none = none
alike (some a) (some b) = elim (eqb (tag_of a) (tag_of b)) [ true ↦ some a | false ↦ none ]

unfoldable pub kind_within : ℕ → Expression → Option Number
kind_within zero (leaf kind b) = none
kind_within zero (apply s a b) = none
kind_within (suc deep) (leaf kind b) = some kind
kind_within (suc deep) (apply s a b) = alike (kind_within deep a) (kind_within deep b)
