-- The listing of a finished pool (document 02, No. 1): a line for each constant, with what it refers to opened out. Assumes nothing.
-- A line is the slot, the kind, and what the kind holds; a text is quoted, and what is referred to is opened where its number stood:
--   7 Methodref Class "java/lang/Object" . NameAndType "<init>" : "()V"
--   8 Dynamic NameAndType "x" : "I" by MethodHandle REF_invokeStatic Methodref Class "A" . NameAndType "m" : "()I" (Integer -5, "a")
use Rattle.std.specs.Prelude.{true, false, List, [], ◌∷◌, ◌++◌, ℕ, zero, suc, ◌+◌, ◌*◌, eqb, leb, length}
use Rattle.std.proofs.Math.Option.{Option, none, some}
use Rattle.std.proofs.Math.ListN.{get_elem?}
use Rattle.definition.specs.Basics.{lookup, Result, good, bad}
use Rattle.definition.specs.Ascii.{ascii, decimal}
use Rattle.places.specs.Standing.{tag, slot_of}
use Rattle.printing.specs.Numbers.{quoted, signed, hex_of, float, double}
use Rattle.jvms.specs.Pool.{Constant, Utf8, Integer, Float, Long, Double, Class, String, Fieldref, Methodref, InterfaceMethodref, NameAndType, MethodHandle, MethodType, Dynamic, InvokeDynamic, Module, Package, Slot, usable, unusable, BootstrapMethod, read_pool_lem, read_bootstrap_methods}

-- JVMS table 5.4.3.5-A; any other kind byte is shown as it is
unfoldable pub reference_kinds : List (ℕ × List ℕ)
reference_kinds =
    (1, ascii "REF_getField")
    ∷ (2, ascii "REF_getStatic")
    ∷ (3, ascii "REF_putField")
    ∷ (4, ascii "REF_putStatic")
    ∷ (5, ascii "REF_invokeVirtual")
    ∷ (6, ascii "REF_invokeStatic")
    ∷ (7, ascii "REF_invokeSpecial")
    ∷ (8, ascii "REF_newInvokeSpecial")
    ∷ (9, ascii "REF_invokeInterface")
    ∷ []

unfoldable pub or_decimal : ℕ → Option (List ℕ) → List ℕ
or_decimal n none = decimal n
or_decimal n (some text) = text

unfoldable pub reference_kind : ℕ → List ℕ
reference_kind n = or_decimal n (lookup n reference_kinds)

-- ---- a constant, where `show` opens what it refers to

-- what is referred to: a constant by its slot, a bootstrap method by its index
pub data Cited : Type 0 where
  slot method : ℕ → Cited

abbrev pub Opening : Type 0
Opening = Cited → List ℕ

-- JVMS table 4.4-A: the names of the tags
unfoldable pub kinds : List (ℕ × List ℕ)
kinds =
    (1, ascii "Utf8")
    ∷ (3, ascii "Integer")
    ∷ (4, ascii "Float")
    ∷ (5, ascii "Long")
    ∷ (6, ascii "Double")
    ∷ (7, ascii "Class")
    ∷ (8, ascii "String")
    ∷ (9, ascii "Fieldref")
    ∷ (10, ascii "Methodref")
    ∷ (11, ascii "InterfaceMethodref")
    ∷ (12, ascii "NameAndType")
    ∷ (15, ascii "MethodHandle")
    ∷ (16, ascii "MethodType")
    ∷ (17, ascii "Dynamic")
    ∷ (18, ascii "InvokeDynamic")
    ∷ (19, ascii "Module")
    ∷ (20, ascii "Package")
    ∷ []

unfoldable pub kind : Constant → List ℕ
kind c = or_decimal (tag c) (lookup (tag c) kinds)

unfoldable pub both : Opening → ℕ → List ℕ → Cited → List ℕ
both show first between second = show (slot first) ++ between ++ show second

unfoldable pub held : Opening → Constant → List ℕ
held show (Utf8 bytes) = quoted bytes
held show (Integer bytes) = signed 2147483648 bytes
held show (Float bytes) = hex_of 8 bytes ++ 0x20 ∷ float bytes
held show (Long high-bytes low-bytes) = signed 9223372036854775808 (4294967296 * high-bytes + low-bytes)
held show (Double high-bytes low-bytes) = hex_of 8 high-bytes ++ hex_of 8 low-bytes ++ 0x20 ∷ double (4294967296 * high-bytes + low-bytes)
held show (Class name-index) = show (slot name-index)
held show (String string-index) = show (slot string-index)
held show (Fieldref class-index name-and-type-index) = both show class-index (ascii " . ") (slot name-and-type-index)
held show (Methodref class-index name-and-type-index) = both show class-index (ascii " . ") (slot name-and-type-index)
held show (InterfaceMethodref class-index name-and-type-index) = both show class-index (ascii " . ") (slot name-and-type-index)
held show (NameAndType name-index descriptor-index) = both show name-index (ascii " : ") (slot descriptor-index)
held show (MethodHandle reference-kind reference-index) = reference_kind reference-kind ++ 0x20 ∷ show (slot reference-index)
held show (MethodType descriptor-index) = show (slot descriptor-index)
held show (Dynamic bootstrap-method-attr-index name-and-type-index) = both show name-and-type-index (ascii " by ") (method bootstrap-method-attr-index)
held show (InvokeDynamic bootstrap-method-attr-index name-and-type-index) = both show name-and-type-index (ascii " by ") (method bootstrap-method-attr-index)
held show (Module name-index) = show (slot name-index)
held show (Package name-index) = show (slot name-index)

unfoldable pub named : Opening → Constant → List ℕ
named show c = kind c ++ 0x20 ∷ held show c

-- where it is referred to, a text needs no word before its quote
unfoldable pub within : Opening → Constant → List ℕ
within show c = elim (eqb (tag c) 1) [ true ↦ held show c | false ↦ named show c ]

-- a bootstrap method: its handle, and its arguments in brackets, with commas between them
unfoldable pub arguments : Opening → List ℕ → List ℕ
arguments show [] = []
arguments show (a ∷ []) = show (slot a)
arguments show (a ∷ b ∷ l) = show (slot a) ++ ascii ", " ++ arguments show (b ∷ l)

unfoldable pub applied : Opening → BootstrapMethod → List ℕ
applied show m = show (slot m.bootstrap_method_ref) ++ ascii " (" ++ arguments show m.bootstrap_arguments ++ ascii ")"

-- ---- opening, and the whole listing

-- a pool's slots from 1 on, and the bootstrap methods from 0 on
pub record Finished : Type 0 where
  pub slots : List Slot
  pub methods : List BootstrapMethod

-- a number that leads nowhere is shown bare: no constant begins there, or there is no such bootstrap method
unfoldable pub at_slot : Opening → ℕ → Option Slot → List ℕ
at_slot show n none = decimal n
at_slot show n (some unusable) = decimal n
at_slot show n (some (usable c)) = within show c

unfoldable pub at_method : Opening → ℕ → Option BootstrapMethod → List ℕ
at_method show n none = decimal n
at_method show n (some m) = applied show m

unfoldable pub bracketed : ℕ → List ℕ
bracketed n = 0x5b ∷ (decimal n ++ 0x5d ∷ [])

-- with so many levels left; where none is left the bare number stands in brackets
unfoldable pub opened : Finished → ℕ → Opening
opened f zero (slot n) = bracketed n
opened f zero (method n) = bracketed n
opened f (suc levels) (slot n) = at_slot (opened f levels) n (slot_of f.slots n)
opened f (suc levels) (method n) = at_method (opened f levels) n (get_elem? f.methods n)

-- a constant stands eight levels above the numbers that are not opened any more, so what it refers to has seven left
unfoldable pub line : Finished → ℕ → Slot → List ℕ
line f n unusable = []
line f n (usable c) = decimal n ++ 0x20 ∷ (named (opened f 7) c ++ 0x0a ∷ [])

unfoldable pub lines_from : Finished → ℕ → List Slot → List ℕ
lines_from f n [] = []
lines_from f n (s ∷ slots) = line f n s ++ lines_from f (suc n) slots

unfoldable pub lines : Finished → List ℕ
lines f = lines_from f 1 f.slots

-- 21 unless the bytes are a pool and as many bootstrap methods as their count says; then 18
unfoldable pub fitting : ℕ → List ℕ → Result ℕ (List ℕ)
fitting room text = elim (leb (length text) room) [ true ↦ good text | false ↦ bad 18 ]

unfoldable pub listed : ℕ → Option (List Slot) → Option (List BootstrapMethod) → Result ℕ (List ℕ)
listed room none methods = bad 21
listed room (some slots) none = bad 21
listed room (some slots) (some methods) = fitting room (lines (record { slots = slots; methods = methods }))

unfoldable pub listing : ℕ → List ℕ → ℕ → List ℕ → Result ℕ (List ℕ)
listing room pool count bootstraps = listed room (read_pool_lem pool) (read_bootstrap_methods count bootstraps)
