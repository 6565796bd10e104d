-- What can be wrong with the expression of a record 46 (document 02, No. 3), in its bytes and in its parts. Assumes nothing.
use Rattle.std.specs.Prelude.{cond, List, ◌∷◌, ◌≡◌, ℕ, suc, ◌≤◌, leb}
use Rattle.std.proofs.Math.Option.{none, some}
use Rattle.definition.specs.Basics.{good, lookup}
use Rattle.definition.specs.Expression.{Number, int, float, long, double, Sign, over, Expression, leaf, apply, bits, of_leaf, of_sign, openings, read_expression}
use Rattle.definition.specs.Value.{value}

-- where so many parts must come, one begins with a byte that is neither leaf tag nor sign: the next of them, or one behind a leaf, which is
-- one of them, or behind a sign, which is one and needs two more
pub data BadByte : ℕ → List ℕ → Type 0 where
  here : (parts first : ℕ) (left : List ℕ) → lookup first openings ≡ none → BadByte (suc parts) (first ∷ left)
  past_leaf :
      (parts first : ℕ) (left : List ℕ) (kind : Number) (n : ℕ) (rest : List ℕ) →
      lookup first openings ≡ some (of_leaf kind) →
      bits kind left ≡ some (n, rest) →
      BadByte parts rest →
      BadByte (suc parts) (first ∷ left)
  past_sign :
      (parts first : ℕ) (left : List ℕ) (s : Sign) →
      lookup first openings ≡ some (of_sign s) →
      BadByte (suc (suc parts)) left →
      BadByte (suc parts) (first ∷ left)

-- a leaf of this kind stands in an expression
pub data HasLeaf (kind : Number) : Expression → Type 0 where
  alone : (n : ℕ) → HasLeaf kind (leaf kind n)
  in_first : (s : Sign) (a b : Expression) → HasLeaf kind a → HasLeaf kind (apply s a b)
  in_second : (s : Sign) (a b : Expression) → HasLeaf kind b → HasLeaf kind (apply s a b)

-- all its leaves are of one kind
abbrev pub OfKind : Number → Expression → Type 0
OfKind kind x = (k : Number) → HasLeaf k x → k ≡ kind

-- how deep it is nested; a lone leaf is 1 deep
unfoldable pub larger : ℕ → ℕ → ℕ
larger m n = cond (leb m n) n m

unfoldable pub depth : Expression → ℕ
depth (leaf kind n) = 1
depth (apply s a b) = suc (larger (depth a) (depth b))

abbrev pub IsInteger : Number → Type 0
IsInteger int = Unit {0}
IsInteger float = ⊥
IsInteger long = Unit {0}
IsInteger double = ⊥

-- of an expression of one kind: somewhere in it an integer is divided by a part that comes to zero
pub data DividesByZero (kind : Number) : Expression → Type 0 where
  by_part : (a b : Expression) → IsInteger kind → value kind b ≡ good 0 → DividesByZero kind (apply over a b)
  within_first : (s : Sign) (a b : Expression) → DividesByZero kind a → DividesByZero kind (apply s a b)
  within_second : (s : Sign) (a b : Expression) → DividesByZero kind b → DividesByZero kind (apply s a b)

-- nothing is: the bytes are an expression of one kind, at most 32 deep, that divides no integer by zero
pub record ComesOut (left : List ℕ) : Type 0 where
  pub parts : Expression
  pub rest : List ℕ
  pub kind : Number
  pub is_read : read_expression left ≡ some (some parts, rest)
  pub is_of_kind : OfKind kind parts
  pub is_nested : depth parts ≤ 32
  pub is_divided : DividesByZero kind parts → ⊥
