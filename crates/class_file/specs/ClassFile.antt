-- A class file around a finished pool (document 02, No. 7): JVMS 4.1 with no interfaces, fields or methods, and with one attribute at most,
-- BootstrapMethods of 4.7.23. Assumes nothing.
-- Items are named as in the specification, with - for _; what a Reader is stands at the top of Pool.antt in crates/jvms
use Rattle.std.specs.Prelude.{Bool, true, false, ◌&&◌, List, [], ◌++◌, ℕ, zero, suc, ◌+◌, ◌-◌, eqb, leb, ltb, length, take}
use Rattle.std.proofs.Math.Option.{Option, none, some}
use Rattle.definition.specs.Ascii.{ascii}
use Rattle.definition.specs.Basics.{same, Result, good, bad}
use Rattle.jvms.specs.Pool.{Reader, return, fail, and_then, ◌>>=◌, u2, u4, Utf8, Slot, constant_pool, wholly, read_pool_lem, BootstrapMethod, read_bootstrap_methods}
use Rattle.jvms.specs.Written.{bytes2, bytes4, constant_bytes, slot_bytes_lem}
use Rattle.places.specs.Standing.{slot_of}

-- what such a file is made of
pub record Parts : Type 0 where
  pub minor_version : ℕ
  pub major_version : ℕ
  -- the bytes of constant_pool_count and constant_pool
  pub pool : List ℕ
  pub access_flags : ℕ
  pub this_class : ℕ
  pub super_class : ℕ
  -- attribute_name_index, or 0 if there is no attribute
  pub name : ℕ
  -- num_bootstrap_methods, and the bytes of bootstrap_methods
  pub count : ℕ
  pub bootstraps : List ℕ

-- ---- which parts make a file

-- the constant that is the attribute's name
unfoldable pub name_constant : List ℕ
name_constant = constant_bytes (Utf8 (ascii "BootstrapMethods"))

-- a slot that holds it
unfoldable pub is_name_lem : Option Slot → Bool
is_name_lem none = false
is_name_lem (some slot) = same (slot_bytes_lem slot) name_constant

-- there is a pool, and its name slot holds the text; or no name slot is given and there are no bootstrap methods
unfoldable pub named : Option (List Slot) → ℕ → ℕ → Bool
named none name count = false
named (some slots) zero count = eqb count 0
named (some slots) (suc i) count = is_name_lem (slot_of slots (suc i))

-- bootstrap methods were read
unfoldable pub matches : Option (List BootstrapMethod) → Bool
matches none = false
matches (some methods) = true

unfoldable pub proper : Parts → Bool
proper p =
    named (read_pool_lem p.pool) p.name p.count
    && matches (read_bootstrap_methods p.count p.bootstraps)
    && leb (length p.bootstraps) 4294967293

-- ---- writing

-- 4.7.23: attribute_name_index, attribute_length, num_bootstrap_methods, bootstrap_methods
unfoldable pub attribute-bytes : Parts → List ℕ
attribute-bytes p = bytes2 p.name ++ bytes4 (2 + length p.bootstraps) ++ bytes2 p.count ++ p.bootstraps

-- attributes_count and attributes, by the name slot
unfoldable pub attributes-bytes : ℕ → List ℕ → List ℕ
attributes-bytes zero attribute = bytes2 0
attributes-bytes (suc i) attribute = bytes2 1 ++ attribute

-- 4.1
unfoldable pub class_bytes : Parts → List ℕ
class_bytes p =
    bytes4 0xcafebabe
    ++ bytes2 p.minor_version
    ++ bytes2 p.major_version
    ++ p.pool
    ++ bytes2 p.access_flags
    ++ bytes2 p.this_class
    ++ bytes2 p.super_class
    -- interfaces_count, fields_count, methods_count
    ++ bytes2 0
    ++ bytes2 0
    ++ bytes2 0
    ++ attributes-bytes p.name (attribute-bytes p)

-- 27 for parts that make no file; then 18, if it doesn't fit so many bytes
unfoldable pub fitting : ℕ → List ℕ → Result ℕ (List ℕ)
fitting room file = elim (leb (length file) room) [ true ↦ good file | false ↦ bad 18 ]

unfoldable pub write_class : ℕ → Parts → Result ℕ (List ℕ)
write_class room p = elim (proper p) [ true ↦ fitting room (class_bytes p) | false ↦ bad 27 ]

-- ---- reading

-- reads, and goes on with what follows
infixl 10 ◌>>◌
abbrev pub ◌>>◌ : {A B : Type 0} → Reader A → Reader B → Reader B
◌>>◌ r q = r >>= λ a. q

-- goes on only if a test holds
unfoldable pub only_if : Bool → Reader (Unit {0})
only_if true = return tt
only_if false = fail

-- an item that has to be this number
infix 20 ◌must-be◌
unfoldable pub ◌must-be◌ : Reader ℕ → ℕ → Reader (Unit {0})
◌must-be◌ item n = item >>= λ m. only_if (eqb m n)

-- the bytes that a reader takes
unfoldable pub bytes_of : {A : Type 0} → Reader A → Reader (List ℕ)
bytes_of r bytes = and_then (r bytes) λ a rest. some (take (length bytes - length rest) bytes, rest)

-- all bytes that are left
unfoldable pub all_left : Reader (List ℕ)
all_left bytes = some (bytes, [])

-- name, count and bootstraps
abbrev pub Attribute : Type 0
Attribute = ℕ × ℕ × List ℕ

-- 4.7.23; attribute_length counts the bytes behind it
unfoldable pub attribute : Reader Attribute
attribute = do
  attribute-name-index ← u2
  only_if (ltb 0 attribute-name-index)
  attribute-length ← u4
  num-bootstrap-methods ← u2
  bootstrap-methods ← all_left
  only_if (eqb attribute-length (2 + length bootstrap-methods))
  return (attribute-name-index, num-bootstrap-methods, bootstrap-methods)

unfoldable pub attributes : ℕ → Reader Attribute
attributes zero = return (0, 0, [])
attributes (suc zero) = attribute
attributes (suc (suc n)) = fail

-- 4.1
unfoldable pub class_file : Reader Parts
class_file = do
  -- magic
  u4 must-be 0xcafebabe
  minor_version ← u2
  major_version ← u2
  pool ← bytes_of (u2 >>= constant_pool)
  access_flags ← u2
  this_class ← u2
  super_class ← u2
  -- interfaces_count, fields_count, methods_count
  u2 must-be 0
  u2 must-be 0
  u2 must-be 0
  attributes-count ← u2
  bootstrap-methods ← attributes attributes-count
  return
      (record {
        minor_version = minor_version;
        major_version = major_version;
        pool = pool;
        access_flags = access_flags;
        this_class = this_class;
        super_class = super_class;
        name = bootstrap-methods.0;
        count = bootstrap-methods.1;
        bootstraps = bootstrap-methods.2;
      })

-- 27 for what isn't such a file and nothing more, and for a file whose parts would make none
unfoldable pub accepted : Option Parts → Result ℕ Parts
accepted none = bad 27
accepted (some p) = elim (proper p) [ true ↦ good p | false ↦ bad 27 ]

unfoldable pub read_class : List ℕ → Result ℕ Parts
read_class file = accepted (wholly (class_file file))
