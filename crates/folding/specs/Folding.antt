-- What the folder's types stand for in the definition. Assumes nothing.
use Rattle.std.specs.Prelude.{◌≡◌, Bool, true, false, List, ℕ, zero, suc, ◌+◌, ◌≤◌, ◌<◌, length, drop, Some, None, Ok, Err}
use Rattle.std.specs.Prelude as std
use Rattle.std.proofs.Math.Option.{Option, none, some}
use Rattle.std.specs.Float.{binary32, binary64}
use Rattle.std.specs.Float.Ieee.{of_bits, to_bits}
use Rattle.definition.specs.Basics.{Result, good, bad}
use Rattle.definition.specs.Expression.{Number, int, float, long, double, Sign, plus, minus, times, over, Opening, of_leaf, of_sign, tag_of, Expression, expression, read_expression, alike, kind_within}
use Rattle.definition.specs.Value.{computed, value}
use Rattle.definition.specs.Bytes.{Parser, return, ◌>>=◌}
use Rattle.writer.specs.Numbers.{number4, number8}
use Rattle.folding.specs.declared.Number as code-number
use Rattle.folding.specs.declared.Number.TheVariants as number
use Rattle.folding.specs.declared.Sign as code-sign
use Rattle.folding.specs.declared.Sign.TheVariants as sign
use Rattle.folding.specs.declared.Opens.{Opens}
use Rattle.folding.specs.declared.Opens.TheVariants.{Leaf, Parts}
use Rattle.folding.specs.declared.Value.{Value}
use Rattle.folding.specs.declared.Value.TheVariants.{Int, Float, Long, Double}
use Rattle.folding.specs.declared.Step.{Step}
use Rattle.folding.specs.declared.ExpressionError.{ExpressionError}
use Rattle.folding.specs.declared.ExpressionError.TheVariants.{Cut, BadByte}
use Rattle.folding.specs.declared.Folded.{Folded}
use Rattle.folding.specs.declared.Constant.{Constant}

unfoldable pub kind_of : code-number.Number → Number
kind_of number.Int = int
kind_of number.Float = float
kind_of number.Long = long
kind_of number.Double = double

unfoldable pub sign_of : code-sign.Sign → Sign
sign_of sign.Plus = plus
sign_of sign.Minus = minus
sign_of sign.Times = times
sign_of sign.Over = over

unfoldable pub opens : std.Option Opens → Option Opening
opens (Some (Leaf k)) = some (of_leaf (kind_of k))
opens (Some (Parts s)) = some (of_sign (sign_of s))
opens None = none

unfoldable pub as_whole : Result ℕ ℕ → std.Option ℕ
as_whole (good n) = Some n
as_whole (bad code) = None

abbrev pub WholeWithin : ℕ → std.Option ℕ → Type 0
WholeWithin m (Some n) = n < m
WholeWithin m None = Unit {0}

-- what an operation makes of two values, of which either may be none
unfoldable pub of_both : {A : Type 0} → (A → A → std.Option A) → std.Option A → std.Option A → std.Option A
of_both f (Some a) (Some b) = f a b
of_both f (Some a) None = None
of_both f None b = None

-- a value's kind and its bits, and the value of a kind and bits
unfoldable pub number_of : Value → Number
number_of (Int n) = int
number_of (Float x) = float
number_of (Long n) = long
number_of (Double x) = double

unfoldable pub bits_of : Value → std.Option ℕ
bits_of (Int n) = n
bits_of (Float x) = Some (to_bits binary32 x)
bits_of (Long n) = n
bits_of (Double x) = Some (to_bits binary64 x)

unfoldable pub of_number : Number → ℕ → Value
of_number int b = Int (Some b)
of_number float b = Float (of_bits binary32 b)
of_number long b = Long (Some b)
of_number double b = Double (of_bits binary64 b)

-- a value stands for what an operation or an expression comes to; divided by zero, it keeps only its kind
abbrev pub Comes : Number → Result ℕ ℕ → Value → Type 0
Comes kind (good b) v = v ≡ of_number kind b
Comes kind (bad code) v = (number_of v ≡ kind) × (bits_of v ≡ None)

pub record Combined (s : Sign) (v w x : Value) : Type 0 where
  pub kind : alike (some (number_of v)) (some (number_of w)) ≡ some (number_of x)
  pub comes : (a b : ℕ) → v ≡ of_number (number_of x) a → w ≡ of_number (number_of x) b → Comes (number_of x) (computed (number_of x) s a b) x
  pub left_none : bits_of v ≡ None → bits_of x ≡ None
  pub right_none : bits_of w ≡ None → bits_of x ≡ None

abbrev pub Combines : Sign → Value → Value → std.Option Value → Type 0
Combines s v w (Some x) = Combined s v w x
Combines s v w None = alike (some (number_of v)) (some (number_of w)) ≡ none

-- ---- places in the job

unfoldable pub size_of : Number → ℕ
size_of int = 4
size_of float = 4
size_of long = 8
size_of double = 8

unfoldable pub bits_at : Number → List ℕ → ℕ → ℕ
bits_at int s at = number4 s at
bits_at float s at = number4 s at
bits_at long s at = number8 s at
bits_at double s at = number8 s at

-- so many parts, one after the other: whether all of them are expressions
unfoldable pub and_more : Parser Bool → Option Expression → Parser Bool
and_more more none = return false
and_more more (some e) = more

unfoldable pub parts : ℕ → ℕ → Parser Bool
parts fuel zero = return true
parts fuel (suc n) = expression fuel >>= and_more (parts fuel n)

pub record Onward (s : List ℕ) (at left next more : ℕ) : Type 0 where
  pub same : parts (length s) left (drop at s) ≡ parts (length s) more (drop next s)
  pub past : at < next
  pub within : next ≤ length s
  pub few : more ≤ next + 1

abbrev pub Steps : List ℕ → ℕ → ℕ → std.Result Step ExpressionError → Type 0
Steps s at left (Ok r) = Onward s at left r.next r.left
Steps s at left (Err Cut) = parts (length s) left (drop at s) ≡ none
Steps s at left (Err (BadByte next)) = (parts (length s) left (drop at s) ≡ some (false, drop next s)) × (at < next) × (next ≤ length s)

-- an expression stands at a place, and ends at another
pub record Ends (s : List ℕ) (at next : ℕ) : Type 0 where
  pub what : Expression
  pub read : read_expression (drop at s) ≡ some (some what, drop next s)
  pub past : at < next
  pub within : next ≤ length s

abbrev pub Spans : List ℕ → ℕ → std.Result ℕ ExpressionError → Type 0
Spans s at (Ok next) = Ends s at next
Spans s at (Err Cut) = read_expression (drop at s) ≡ none
Spans s at (Err (BadByte next)) = (read_expression (drop at s) ≡ some (none, drop next s)) × (at < next) × (next ≤ length s)

-- ---- folding

pub record Reads (s : List ℕ) (at : ℕ) : Type 0 where
  pub fuel : ℕ
  pub what : Expression
  pub rest : List ℕ
  pub read : expression fuel (drop at s) ≡ some (some what, rest)

pub record FoldedTo (s : List ℕ) (deep : ℕ) (e : Expression) (rest : List ℕ) (r : Folded) : Type 0 where
  pub kind : kind_within deep e ≡ some (number_of r.value)
  pub comes : Comes (number_of r.value) (value (number_of r.value) e) r.value
  pub behind : drop r.next s ≡ rest
  pub within : r.next ≤ length s

abbrev pub FoldsTo : List ℕ → ℕ → Expression → List ℕ → std.Option Folded → Type 0
FoldsTo s deep e rest (Some r) = FoldedTo s deep e rest r
FoldsTo s deep e rest None = kind_within deep e ≡ none

abbrev pub Folds : List ℕ → ℕ → ℕ → std.Option Folded → Type 0
Folds s at deep r = (fuel : ℕ) (e : Expression) (rest : List ℕ) → expression fuel (drop at s) ≡ some (some e, rest) → FoldsTo s deep e rest r

-- a constant with its tag, or a refusal's number
unfoldable pub constant_as : Result ℕ (Number × ℕ) → Result ℕ Constant
constant_as (good r) = good (record { tag = tag_of r.0; bits = r.1 })
constant_as (bad code) = bad code

-- ---- its kind alone

-- an expression of this kind stands at a place
pub record OfKind (s : List ℕ) (at : ℕ) (kind : Number) : Type 0 where
  pub fuel : ℕ
  pub deep : ℕ
  pub what : Expression
  pub rest : List ℕ
  pub read : expression fuel (drop at s) ≡ some (some what, rest)
  pub within : kind_within deep what ≡ some kind

abbrev pub HasKind : List ℕ → ℕ → Type 0
HasKind s at = (kind : Number) × OfKind s at kind

abbrev pub TellsKind : List ℕ → ℕ → ℕ → Type 0
TellsKind s at r = (kind : Number) → OfKind s at kind → r ≡ tag_of kind
