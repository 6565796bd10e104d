-- A job's records (document 01, "A job"): what each says, and how its bytes are read. Assumes nothing.
use Rattle.std.specs.Prelude.{Bool, true, false, List, [], ◌∷◌, ◌++◌, map, ℕ, zero, suc}
use Rattle.std.proofs.Math.Option.{Option, none, some}
use Rattle.definition.specs.Basics.{Result, good, bad, lookup}
use Rattle.definition.specs.Bytes.{Parser, return, fail, ◌>>=◌, one, two, many}
use Rattle.definition.specs.Expression.{Number, int, tag_of, read_expression}
use Rattle.definition.specs.Settings.{Setting, version, texts, highest}
use Rattle.definition.specs.Shapes.{Kind, constant, bootstrap, Field, shapes, bootstrap_shape, bootstrap_tag, Entry, read_entry}
use Rattle.definition.specs.Value.{folded, bits_bytes}

-- a reference: a raw slot, an entry's number, or a name
pub data Reference : Type 0 where
  raw : ℕ → Reference
  entry : Kind → ℕ → Reference
  name : Kind → List ℕ → Reference

-- a record of the definitions; L is how literals are given
pub data Definition (L : Type 0) : Type 0 where
  -- tags and 40: an entry of one of the two tables; 46: a constant worked out
  define : Entry L Reference → Definition L
  -- 41, 42: names a constant, a bootstrap
  named : Kind → List ℕ → Reference → Definition L
  -- 43, 44: raw constant, raw bootstrap; slot or index, then the entry's number
  placed : Kind → ℕ → ℕ → Definition L
  -- 47 to 49: a rule for the whole job
  setting : Setting → Definition L

-- 51, 52: asks for a slot, for an ldc slot
pub record Request : Type 0 where
  pub ldc : Bool
  pub what : Reference

-- the class slot of 60: a slot, or the number of an earlier request
pub data ClassSlot : Type 0 where
  slot request : ℕ → ClassSlot

-- 60: byte 0 (name always), 1 (if present), 2 (never); then the class slot
pub record Build : Type 0 where
  pub name_byte : ℕ
  pub class : ClassSlot

-- a job: definitions, then 50, then requests, then 60
pub record Job (L : Type 0) : Type 0 where
  pub definitions : List (Definition L)
  pub requests : List Request
  pub build : Build

-- a name: one byte of length, then the name
unfoldable pub short_name : Parser (List ℕ)
short_name = do
  size ← one
  many size one

-- a reference's form byte, then a raw slot, an entry number, or a name
unfoldable pub reference_form : Kind → ℕ → Parser Reference
reference_form kind zero = do
  n ← two
  return (raw n)
reference_form kind (suc zero) = do
  n ← two
  return (entry kind n)
reference_form kind (suc (suc zero)) = do
  s ← short_name
  return (name kind s)
reference_form kind (suc (suc (suc n))) = fail

unfoldable pub reference : Kind → Parser Reference
reference kind = do
  form ← one
  reference_form kind form

-- what follows a definition's first byte
pub data Body : Type 0 where
  of_entry : List Field → Body
  of_name of_raw : Kind → Body
  of_expression : Body
  -- a setting's number, or nothing
  of_number : (ℕ → Setting) → Body
  of_nothing : Setting → Body

-- the first bytes of definitions: the tags, then 40 to 44 and 46 to 49
unfoldable pub bodies : List (ℕ × Body)
bodies =
    map (λ s. (s.0, of_entry s.1)) shapes
    ++ ((bootstrap_tag, of_entry bootstrap_shape) ∷ (0x41, of_name constant) ∷ (0x42, of_name bootstrap) ∷ (0x43, of_raw constant) ∷ (0x44, of_raw bootstrap) ∷ (0x46, of_expression) ∷ (0x47, of_number version) ∷ (0x48, of_nothing texts) ∷ (0x49, of_number highest) ∷ [])

-- a number as a constant of its kind
unfoldable pub as_constant : Number × ℕ → Entry (List ℕ) Reference
as_constant n = record { tag = tag_of n.0; literal = bits_bytes n.0 n.1; byte = 0; kids = [] }

-- the value of a 46 goes on with its kind; what has none is refused by the form pass, and an Int of 0 stands here for it
unfoldable pub worked_out : Result ℕ (Number × ℕ) → Entry (List ℕ) Reference
worked_out (good n) = as_constant n
worked_out (bad code) = as_constant (int, 0)

-- a definition behind its first byte; none: an unknown kind, or one out of place
unfoldable pub read_body : ℕ → Option Body → Parser (Definition (List ℕ))
read_body first none = fail
read_body first (some (of_entry fields)) = do
  e ← read_entry reference first fields
  return (define e)
read_body first (some (of_name kind)) = do
  s ← short_name
  r ← reference kind
  return (named kind s r)
read_body first (some (of_raw kind)) = do
  at ← two
  number ← two
  return (placed kind at number)
read_body first (some of_expression) = do
  x ← read_expression
  return (define (worked_out (folded x)))
read_body first (some (of_number rule)) = do
  n ← two
  return (setting (rule n))
read_body first (some (of_nothing rule)) = return (setting rule)

unfoldable pub read_definition : ℕ → Parser (Definition (List ℕ))
read_definition first = read_body first (lookup first bodies)

-- the first bytes of requests: whether ldc was asked
unfoldable pub asks : List (ℕ × Bool)
asks = (0x51, false) ∷ (0x52, true) ∷ []

-- a request behind its first byte; none: an unknown kind, or one out of place
unfoldable pub read_request : Option Bool → Parser Request
read_request none = fail
read_request (some ldc) = do
  r ← reference constant
  return (record { ldc = ldc; what = r })

-- the class slot's form byte, then its number
unfoldable pub class_form : ℕ → Parser ClassSlot
class_form zero = do
  n ← two
  return (slot n)
class_form (suc zero) = do
  n ← two
  return (request n)
class_form (suc (suc n)) = fail

-- the name byte: 0, 1 or 2
unfoldable pub name_form : ℕ → Parser ℕ
name_form zero = return 0
name_form (suc zero) = return 1
name_form (suc (suc zero)) = return 2
name_form (suc (suc (suc n))) = fail

-- 60 behind its first byte
unfoldable pub read_build : Parser Build
read_build = do
  first ← one
  name_byte ← name_form first
  form ← one
  class ← class_form form
  return (record { name_byte = name_byte; class = class })
