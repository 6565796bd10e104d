-- Parsers go by the bytes that they read alone, and leave those behind as they are. Assumes nothing.
use mathlib.Core.Bool.{Bool, true, false}
use mathlib.Core.List.{List, [], ◌∷◌, ◌++◌, append_assoc}
use mathlib.Core.Option.{Option, none, some}
use mathlib.Core.Path.{◌≡◌, refl, sym, ap, ◌∙◌}
use Prim.Native.Nat.{ℕ, zero, suc, ◌+◌, ◌*◌}
use lib.Dec.{eqb}
use Rattle.definition.specs.Basics.{every, lookup}
use Rattle.definition.specs.Bytes.{Parser, return, fail, and_then, ◌>>=◌, one, two, many}
use Rattle.definition.specs.Expression.{Number, int, float, long, double, Sign, Expression, leaf, four, eight, bits as readBits, Opening, of_leaf, of_sign, openings, joined, second_part, opened_part, expression}
use Rattle.definition.specs.Job.{Reference, raw, entry, name, define, named, placed, setting, short_name, reference_form, reference, Body, of_entry, of_name, of_raw, of_expression, of_number, of_nothing, bodies, read_body, read_definition, read_request}
use Rattle.definition.specs.Shapes.{Kind, constant, Field, text, bits, byte, to, to_many, shapes, bootstrap_shape, Entry, with_kids, with_literal, with_byte, read_fields, read_entry}
use Rattle.facts.proofs.Lists.{none≢some, true≢false}
use Rattle.facts.proofs.Results.{some_then}
use Rattle.facts.proofs.Tables.{lookup-every}

-- what was read, whatever stands behind it
pub record Used {A : Type 0} (p : Parser A) (bytes : List ℕ) (a : A) (rest : List ℕ) : Type 0 where
  pub read : List ℕ
  pub is : bytes ≡ read ++ rest
  pub anywhere : (more : List ℕ) → p (read ++ more) ≡ some (a, more)

abbrev pub Local : {A : Type 0} → Parser A → Type 0
Local p = (bytes : List ℕ) (a : _) (rest : List ℕ) → p bytes ≡ some (a, rest) → Used p bytes a rest

local_fail : {A : Type 0} → Local (fail {A = A})
local_fail bytes a rest e = none≢some e

local_return : {A : Type 0} (a : A) → Local (return a)
local_return {A} a bytes b rest e =
    let same : ◌≡◌ {A = A × List ℕ} (a, bytes) (b, rest) = cc in
    record { read = []; is = ap (λ r. r.1) same; anywhere = λ more. ap (λ x. some (x, more)) (ap (λ r. r.0) same) }

local_bind : {A B : Type 0} (p : Parser A) (f : A → Parser B) → Local p → ((a : A) → Local (f a)) → Local (p >>= f)
local_bind p f hp hf bytes b rest e =
    some_then (p bytes) f (b, rest) e λ a r u v.
    let x = hp bytes a r u in
    let y = hf a r b rest v in
    record {
      read = x.read ++ y.read;
      is = x.is ∙ ap (λ l. x.read ++ l) y.is ∙ sym (append_assoc x.read y.read rest);
      anywhere =
          λ more.
          ap (λ l. and_then (p l) f) (append_assoc x.read y.read more)
          ∙ ap (λ o. and_then o f) (x.anywhere (y.read ++ more))
          ∙ y.anywhere more;
    }

local_one : Local one
unfolding one
local_one [] a rest e = none≢some e
local_one (b ∷ bytes) a rest e =
    let same : ◌≡◌ {A = ℕ × List ℕ} (b, bytes) (a, rest) = cc in
    record { read = b ∷ []; is = ap (λ l. b ∷ l) (ap (λ r. r.1) same); anywhere = λ more. ap (λ x. some (x, more)) (ap (λ r. r.0) same) }

local_two : Local two
unfolding two
local_two = local_bind one _ local_one λ a. local_bind one _ local_one λ b. local_return (256 * a + b)

local_many : {A : Type 0} (n : ℕ) (p : Parser A) → Local p → Local (many n p)
unfolding many
local_many zero p h = local_return []
local_many (suc n) p h = local_bind p _ h λ a. local_bind (many n p) _ (local_many n p h) λ l. local_return (a ∷ l)

local_name : Local short_name
unfolding short_name
local_name = local_bind one _ local_one λ size. local_many size one local_one

local_form : (kind : Kind) (form : ℕ) → Local (reference_form kind form)
unfolding reference_form
local_form kind zero = local_bind two _ local_two λ n. local_return (raw n)
local_form kind (suc zero) = local_bind two _ local_two λ n. local_return (entry kind n)
local_form kind (suc (suc zero)) = local_bind short_name _ local_name λ s. local_return (name kind s)
local_form kind (suc (suc (suc n))) = local_fail

local_reference : (kind : Kind) → Local (reference kind)
unfolding reference
local_reference kind = local_bind one _ local_one λ form. local_form kind form

local_fields : (fields : List Field) (e : Entry (List ℕ) Reference) → Local (read_fields reference fields e)
unfolding read_fields
local_fields [] e = local_return e
local_fields (text ∷ fields) e =
    local_bind two _ local_two λ size. local_bind (many size one) _ (local_many size one local_one) λ s. local_fields fields (with_literal s e)
local_fields (bits size ∷ fields) e = local_bind (many size one) _ (local_many size one local_one) λ s. local_fields fields (with_literal s e)
local_fields (byte ∷ fields) e = local_bind one _ local_one λ b. local_fields fields (with_byte b e)
local_fields (to kind ∷ fields) e = local_bind (reference kind) _ (local_reference kind) λ r. local_fields fields (with_kids (e.kids ++ r ∷ []) e)
local_fields (to_many ∷ fields) e =
    local_bind two _ local_two λ size.
    local_bind (many size (reference constant)) _ (local_many size (reference constant) (local_reference constant)) λ rs.
    local_fields fields (with_kids (e.kids ++ rs) e)

-- an expression is read behind 46 alone
only46 : ℕ × Body → Bool
only46 (first, of_entry fields) = true
only46 (first, of_name kind) = true
only46 (first, of_raw kind) = true
only46 (first, of_expression) = eqb first 0x46
only46 (first, of_number rule) = true
only46 (first, of_nothing rule) = true

bodies-46 : every only46 bodies ≡ true
unfolding every only46 bodies shapes bootstrap_shape
bodies-46 = refl

local_body : (first : ℕ) → eqb first 0x46 ≡ false → (o : Option Body) → lookup first bodies ≡ o → Local (read_body first o)
unfolding read_body read_entry only46
local_body first h none e = local_fail
local_body first h (some (of_entry fields)) e =
    local_bind (read_entry reference first fields) _ (local_fields fields (record { tag = first; literal = []; byte = 0; kids = [] })) λ x.
    local_return (define x)
local_body first h (some (of_name kind)) e =
    local_bind short_name _ local_name λ s. local_bind (reference kind) _ (local_reference kind) λ r. local_return (named kind s r)
local_body first h (some (of_raw kind)) e =
    local_bind two _ local_two λ at. local_bind two _ local_two λ number. local_return (placed kind at number)
local_body first h (some of_expression) e = true≢false (sym (lookup-every only46 bodies bodies-46 first of_expression e) ∙ h)
local_body first h (some (of_number rule)) e = local_bind two _ local_two λ n. local_return (setting (rule n))
local_body first h (some (of_nothing rule)) e = local_return (setting rule)

-- every definition but a 46
pub local_definition : (first : ℕ) → eqb first 0x46 ≡ false → Local (read_definition first)
unfolding read_definition
local_definition first h = local_body first h (lookup first bodies) refl

pub local_request : (o : Option Bool) → Local (read_request o)
unfolding read_request
local_request none = local_fail
local_request (some ldc) = local_bind (reference constant) _ (local_reference constant) λ r. local_return (record { ldc = ldc; what = r })

-- an expression, of one fuel

local_four : Local four
unfolding four
local_four = local_bind two _ local_two λ a. local_bind two _ local_two λ b. local_return (65536 * a + b)

local_eight : Local eight
unfolding eight
local_eight = local_bind four _ local_four λ a. local_bind four _ local_four λ b. local_return (4294967296 * a + b)

pub local_bits : (kind : Number) → Local (readBits kind)
unfolding readBits
local_bits int = local_four
local_bits float = local_four
local_bits long = local_eight
local_bits double = local_eight

local_second : (part : Parser (Option Expression)) → Local part → (s : Sign) (a : Option Expression) → Local (second_part part s a)
unfolding second_part
local_second part h s none = local_return none
local_second part h s (some a) = local_bind part _ h λ b. local_return (joined s a b)

local_part : (part : Parser (Option Expression)) → Local part → (o : Option Opening) → Local (opened_part part o)
unfolding opened_part
local_part part h none = local_return none
local_part part h (some (of_leaf kind)) = local_bind (readBits kind) _ (local_bits kind) λ b. local_return (some (leaf kind b))
local_part part h (some (of_sign s)) = local_bind part _ h λ a. local_second part h s a

pub local_expression : (fuel : ℕ) → Local (expression fuel)
unfolding expression
local_expression zero = local_fail
local_expression (suc fuel) = local_bind one _ local_one λ first. local_part (expression fuel) (local_expression fuel) (lookup first openings)
