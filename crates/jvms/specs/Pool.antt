-- A constant pool and bootstrap methods, read from bytes as JVMS 4.4 and 4.7.23 lay them down, tag by tag. Assumes nothing.
-- To read: a list of numbers is a row of bytes; a Reader takes what it reads from the front and leaves the bytes behind it, or gives none
-- where they aren't that; r >>= λ x. q reads x by r and then goes on as q, and so do the lines x ← r of a do block; p ∷ l is p and then l.
-- Items are named as in the specification, with - for _
use Rattle.std.specs.Prelude.{Bool, true, false, List, [], ◌∷◌, ℕ, zero, suc, ◌+◌, ◌*◌, eqb}
use Rattle.std.proofs.Math.Option.{Option, none, some}

abbrev pub Reader : Type 0 → Type 0
Reader A = List ℕ → Option (A × List ℕ)

abbrev pub return : {A : Type 0} → A → Reader A
return a bytes = some (a, bytes)

abbrev pub fail : {A : Type 0} → Reader A
fail bytes = none

abbrev pub and_then : {A B : Type 0} → Option (A × List ℕ) → (A → Reader B) → Option (B × List ℕ)
and_then none f = none
and_then (some r) f = f r.0 r.1

infixl 10 ◌>>=◌
abbrev pub ◌>>=◌ : {A B : Type 0} → Reader A → (A → Reader B) → Reader B
◌>>=◌ r f bytes = and_then (r bytes) f

-- 4: items of one, two and four bytes, the high byte first
unfoldable pub u1 : Reader ℕ
u1 [] = none
u1 (b ∷ bytes) = some (b, bytes)

unfoldable pub u2 : Reader ℕ
u2 = do
  high ← u1
  low ← u1
  return (256 * high + low)

unfoldable pub u4 : Reader ℕ
u4 = do
  high ← u2
  low ← u2
  return (65536 * high + low)

-- an array of so many items
unfoldable pub array : {A : Type 0} → ℕ → Reader A → Reader (List A)
array zero item = return []
array (suc n) item = do
  first ← item
  rest ← array n item
  return (first ∷ rest)

-- the kinds of constants, with their items behind the tag
pub data Constant : Type 0 where
  -- 4.4.7
  Utf8 : (bytes : List ℕ) → Constant
  -- 4.4.4
  Integer Float : (bytes : ℕ) → Constant
  -- 4.4.5
  Long Double : (high-bytes low-bytes : ℕ) → Constant
  -- 4.4.1
  Class : (name-index : ℕ) → Constant
  -- 4.4.3
  String : (string-index : ℕ) → Constant
  -- 4.4.2
  Fieldref Methodref InterfaceMethodref : (class-index name-and-type-index : ℕ) → Constant
  -- 4.4.6
  NameAndType : (name-index descriptor-index : ℕ) → Constant
  -- 4.4.8
  MethodHandle : (reference-kind reference-index : ℕ) → Constant
  -- 4.4.9
  MethodType : (descriptor-index : ℕ) → Constant
  -- 4.4.10
  Dynamic InvokeDynamic : (bootstrap-method-attr-index name-and-type-index : ℕ) → Constant
  -- 4.4.11
  Module : (name-index : ℕ) → Constant
  -- 4.4.12
  Package : (name-index : ℕ) → Constant

-- Table 4.4-B: the tags, and what each structure has behind its tag
unfoldable pub structures : List (ℕ × Reader Constant)
structures =
    (1, u2 >>= λ length. array length u1 >>= λ bytes. return (Utf8 bytes))
    ∷ (3, u4 >>= λ bytes. return (Integer bytes))
    ∷ (4, u4 >>= λ bytes. return (Float bytes))
    ∷ (5, u4 >>= λ high-bytes. u4 >>= λ low-bytes. return (Long high-bytes low-bytes))
    ∷ (6, u4 >>= λ high-bytes. u4 >>= λ low-bytes. return (Double high-bytes low-bytes))
    ∷ (7, u2 >>= λ name-index. return (Class name-index))
    ∷ (8, u2 >>= λ string-index. return (String string-index))
    ∷ (9, u2 >>= λ class-index. u2 >>= λ name-and-type-index. return (Fieldref class-index name-and-type-index))
    ∷ (10, u2 >>= λ class-index. u2 >>= λ name-and-type-index. return (Methodref class-index name-and-type-index))
    ∷ (11, u2 >>= λ class-index. u2 >>= λ name-and-type-index. return (InterfaceMethodref class-index name-and-type-index))
    ∷ (12, u2 >>= λ name-index. u2 >>= λ descriptor-index. return (NameAndType name-index descriptor-index))
    ∷ (15, u1 >>= λ reference-kind. u2 >>= λ reference-index. return (MethodHandle reference-kind reference-index))
    ∷ (16, u2 >>= λ descriptor-index. return (MethodType descriptor-index))
    ∷ (17, u2 >>= λ bootstrap-method-attr-index. u2 >>= λ name-and-type-index. return (Dynamic bootstrap-method-attr-index name-and-type-index))
    ∷ (18, u2 >>= λ bootstrap-method-attr-index. u2 >>= λ name-and-type-index. return (InvokeDynamic bootstrap-method-attr-index name-and-type-index))
    ∷ (19, u2 >>= λ name-index. return (Module name-index))
    ∷ (20, u2 >>= λ name-index. return (Package name-index))
    ∷ []

-- the structure of a tag; any other tag is refused
unfoldable pub structure : ℕ → List (ℕ × Reader Constant) → Reader Constant
structure tag [] = fail
structure tag (s ∷ rest) = elim (eqb tag s.0) [ true ↦ s.1 | false ↦ structure tag rest ]

-- 4.4: cp_info { u1 tag; u1 info[]; }
unfoldable pub cp_info_lem : Reader Constant
cp_info_lem = do
  tag ← u1
  structure tag structures

-- 4.4.5: all 8-byte constants take up two entries in the constant_pool table
unfoldable pub takes_two : Constant → Bool
takes_two (Utf8 bytes) = false
takes_two (Integer bytes) = false
takes_two (Float bytes) = false
takes_two (Long high-bytes low-bytes) = true
takes_two (Double high-bytes low-bytes) = true
takes_two (Class name-index) = false
takes_two (String string-index) = false
takes_two (Fieldref class-index name-and-type-index) = false
takes_two (Methodref class-index name-and-type-index) = false
takes_two (InterfaceMethodref class-index name-and-type-index) = false
takes_two (NameAndType name-index descriptor-index) = false
takes_two (MethodHandle reference-kind reference-index) = false
takes_two (MethodType descriptor-index) = false
takes_two (Dynamic bootstrap-method-attr-index name-and-type-index) = false
takes_two (InvokeDynamic bootstrap-method-attr-index name-and-type-index) = false
takes_two (Module name-index) = false
takes_two (Package name-index) = false

-- what stands at an index: a constant, or, behind one that takes up two, the index that "must be valid but is considered unusable"
pub data Slot : Type 0 where
  usable : Constant → Slot
  unusable : Slot

-- constants that fill exactly so many indexes; the first index may be the unusable one of the constant before it
unfoldable pub slots : ℕ → Bool → Reader (List Slot)
slots zero false = return []
slots zero true = fail
slots (suc n) false = do
  c ← cp_info_lem
  rest ← slots n (takes_two c)
  return (usable c ∷ rest)
slots (suc n) true = do
  rest ← slots n false
  return (unusable ∷ rest)

-- constant_pool is indexed from 1 to constant_pool_count - 1
unfoldable pub constant_pool : ℕ → Reader (List Slot)
constant_pool zero = fail
constant_pool (suc n) = slots n false

-- what was read, if no byte is left over
unfoldable pub wholly : {A : Type 0} → Option (A × List ℕ) → Option A
wholly none = none
wholly (some (a, [])) = some a
wholly (some (a, b ∷ bytes)) = none

-- 4.1: u2 constant_pool_count; cp_info constant_pool[constant_pool_count-1];
-- what stands at the indexes from 1 on, or none where the bytes aren't a pool and nothing more
unfoldable pub read_pool_lem : List ℕ → Option (List Slot)
read_pool_lem bytes = wholly ((u2 >>= constant_pool) bytes)

-- 4.7.23: { u2 bootstrap_method_ref; u2 num_bootstrap_arguments; u2 bootstrap_arguments[num_bootstrap_arguments]; }
pub record BootstrapMethod : Type 0 where
  pub bootstrap_method_ref : ℕ
  pub bootstrap_arguments : List ℕ

unfoldable pub bootstrap_method : Reader BootstrapMethod
bootstrap_method = do
  bootstrap_method_ref ← u2
  num-bootstrap-arguments ← u2
  bootstrap_arguments ← array num-bootstrap-arguments u2
  return (record { bootstrap_method_ref = bootstrap_method_ref; bootstrap_arguments = bootstrap_arguments })

-- bootstrap_methods[num_bootstrap_methods], and nothing more
unfoldable pub read_bootstrap_methods : ℕ → List ℕ → Option (List BootstrapMethod)
read_bootstrap_methods num-bootstrap-methods bytes = wholly (array num-bootstrap-methods bootstrap_method bytes)
