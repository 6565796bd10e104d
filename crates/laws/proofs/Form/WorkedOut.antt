-- An expression leaves bytes, and the constant that a record 46 adds has the shape of its kind. Assumes nothing.
use mathlib.Core.List.{List, [], ◌∷◌}
use mathlib.Core.Option.{Option, none, some}
use mathlib.Core.Path.{◌≡◌, refl}
use Prim.Native.Nat.{ℕ, zero, suc, ◌+◌, ◌*◌}
use native.Mathlib.Omega.{arith}
use lib.ListN.{length}
use Rattle.definition.specs.Basics.{lookup}
use Rattle.definition.specs.Bytes.{Parser, one, two, be4, be8}
use Rattle.definition.specs.Expression.{Number, int, float, long, double, tag_of, Sign, Expression, leaf, four, eight, bits as readBits, Opening, of_leaf, of_sign, openings, joined, second_part, opened_part, expression, read_expression}
use Rattle.definition.specs.Shapes.{bits, shapes}
use Rattle.definition.specs.Value.{bits_bytes}
use Rattle.facts.proofs.Each.{Each}
use Rattle.facts.proofs.Outcomes.{Anything}
use Rattle.laws.proofs.Form.EntryShapes.{Short}
use Rattle.laws.proofs.Form.ParsersYield.{Byte, Yields, yields_fail, yields_return, yields_bind, yields_one, yields_two}

yields_four : Yields Anything four
unfolding four
yields_four =
    yields_bind Short Anything two _ yields_two λ a _.
    yields_bind Short Anything two _ yields_two λ b _.
    yields_return Anything (65536 * a + b) tt

yields_eight : Yields Anything eight
unfolding eight
yields_eight =
    yields_bind Anything Anything four _ yields_four λ a _.
    yields_bind Anything Anything four _ yields_four λ b _.
    yields_return Anything (4294967296 * a + b) tt

yields_bits : (kind : Number) → Yields Anything (readBits kind)
unfolding readBits
yields_bits int = yields_four
yields_bits float = yields_four
yields_bits long = yields_eight
yields_bits double = yields_eight

yields_second : (part : Parser (Option Expression)) → Yields Anything part → (s : Sign) (a : Option Expression) → Yields Anything (second_part part s a)
unfolding second_part
yields_second part y s none = yields_return Anything none tt
yields_second part y s (some a) = yields_bind Anything Anything part _ y λ b _. yields_return Anything (joined s a b) tt

yields_part : (part : Parser (Option Expression)) → Yields Anything part → (o : Option Opening) → Yields Anything (opened_part part o)
unfolding opened_part
yields_part part y none = yields_return Anything none tt
yields_part part y (some (of_leaf kind)) =
    yields_bind Anything Anything (readBits kind) _ (yields_bits kind) λ b _. yields_return Anything (some (leaf kind b)) tt
yields_part part y (some (of_sign s)) = yields_bind Anything Anything part _ y λ a _. yields_second part y s a

yields_expression : (fuel : ℕ) → Yields Anything (expression fuel)
unfolding expression
yields_expression zero = yields_fail Anything
yields_expression (suc fuel) =
    yields_bind Byte Anything one _ yields_one λ first _. yields_part (expression fuel) (yields_expression fuel) (lookup first openings)

pub yields_read : Yields Anything read_expression
unfolding read_expression
yields_read bytes = yields_expression (length bytes) bytes

-- how many bytes the bits of a kind have
abbrev pub size_of : Number → ℕ
size_of int = 4
size_of float = 4
size_of long = 8
size_of double = 8

pub bits-long : (kind : Number) (b : ℕ) → length (bits_bytes kind b) ≡ size_of kind
unfolding bits_bytes be4 be8
bits-long int b = refl
bits-long float b = refl
bits-long long b = refl
bits-long double b = refl

four_bytes : (b : ℕ) → Each Byte (be4 b)
unfolding be4
four_bytes b = (omega arith, (omega arith, (omega arith, (omega arith, tt))))

eight-bytes : (b : ℕ) → Each Byte (be8 b)
unfolding be4 be8
eight-bytes b =
    (omega arith, (omega arith, (omega arith, (omega arith, (omega arith, (omega arith, (omega arith, (omega arith, tt))))))))

pub bits_bytes_lem : (kind : Number) (b : ℕ) → Each Byte (bits_bytes kind b)
unfolding bits_bytes
bits_bytes_lem int b = four_bytes b
bits_bytes_lem float b = four_bytes b
bits_bytes_lem long b = eight-bytes b
bits_bytes_lem double b = eight-bytes b

pub number-shape : (kind : Number) → lookup (tag_of kind) shapes ≡ some (bits (size_of kind) ∷ [])
unfolding lookup shapes tag_of
number-shape int = refl
number-shape float = refl
number-shape long = refl
number-shape double = refl
