-- A constant, a slot and a bootstrap method of JVMS in the definition's form. Assumes nothing.
use Rattle.std.specs.Prelude.{List, [], ◌∷◌, ◌++◌, ℕ}
use Rattle.std.proofs.Math.Option.{none, some}
use Rattle.definition.specs.Shapes.{bootstrap_tag, Entry}
use Rattle.definition.specs.Jvms.{Shown}
use Rattle.jvms.specs.Pool.{Constant, Utf8, Integer, Float, Long, Double, Class, String, Fieldref, Methodref, InterfaceMethodref, NameAndType, MethodHandle, MethodType, Dynamic, InvokeDynamic, Module, Package, Slot, usable, unusable, BootstrapMethod}
use Rattle.jvms.specs.Written.{bytes4}

-- an entry of a tag, with its literal, its kind byte (0 if it has none) and its references, in the order of JVMS
abbrev pub entry_of : ℕ → List ℕ → ℕ → List ℕ → Entry (List ℕ) ℕ
entry_of tag literal byte kids = record { tag = tag; literal = literal; byte = byte; kids = kids }

-- a constant of JVMS as an entry
unfoldable pub as_entry : Constant → Entry (List ℕ) ℕ
as_entry (Utf8 bytes) = entry_of 1 bytes 0 []
as_entry (Integer bytes) = entry_of 3 (bytes4 bytes) 0 []
as_entry (Float bytes) = entry_of 4 (bytes4 bytes) 0 []
as_entry (Long high-bytes low-bytes) = entry_of 5 (bytes4 high-bytes ++ bytes4 low-bytes) 0 []
as_entry (Double high-bytes low-bytes) = entry_of 6 (bytes4 high-bytes ++ bytes4 low-bytes) 0 []
as_entry (Class name-index) = entry_of 7 [] 0 (name-index ∷ [])
as_entry (String string-index) = entry_of 8 [] 0 (string-index ∷ [])
as_entry (Fieldref class-index name-and-type-index) = entry_of 9 [] 0 (class-index ∷ name-and-type-index ∷ [])
as_entry (Methodref class-index name-and-type-index) = entry_of 10 [] 0 (class-index ∷ name-and-type-index ∷ [])
as_entry (InterfaceMethodref class-index name-and-type-index) = entry_of 11 [] 0 (class-index ∷ name-and-type-index ∷ [])
as_entry (NameAndType name-index descriptor-index) = entry_of 12 [] 0 (name-index ∷ descriptor-index ∷ [])
as_entry (MethodHandle reference-kind reference-index) = entry_of 15 [] reference-kind (reference-index ∷ [])
as_entry (MethodType descriptor-index) = entry_of 16 [] 0 (descriptor-index ∷ [])
as_entry (Dynamic bootstrap-method-attr-index name-and-type-index) = entry_of 17 [] 0 (bootstrap-method-attr-index ∷ name-and-type-index ∷ [])
as_entry (InvokeDynamic bootstrap-method-attr-index name-and-type-index) = entry_of 18 [] 0 (bootstrap-method-attr-index ∷ name-and-type-index ∷ [])
as_entry (Module name-index) = entry_of 19 [] 0 (name-index ∷ [])
as_entry (Package name-index) = entry_of 20 [] 0 (name-index ∷ [])

-- what a slot shows, as an entry or none
unfoldable pub as_shown : Slot → Shown
as_shown (usable c) = some (as_entry c)
as_shown unusable = none

-- a bootstrap method as an entry: its handle, then its arguments
unfoldable pub as_row : BootstrapMethod → Entry (List ℕ) ℕ
as_row m = entry_of bootstrap_tag [] 0 (m.bootstrap_method_ref ∷ m.bootstrap_arguments)
