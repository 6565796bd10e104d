-- NAMED: only the text "BootstrapMethods" has the bytes of the attribute's name. Assumes nothing.
use mathlib.Core.Bool.{true}
use mathlib.Core.List.{List, ◌∷◌}
use mathlib.Core.Option.{Option, none, some}
use mathlib.Core.Path.{◌≡◌, sym, ap, ◌∙◌}
use Prim.Native.Nat.{ℕ}
use native.Mathlib.Omega.{arith}
use lib.ListN.{drop, get_or}
use Rattle.definition.specs.Ascii.{ascii}
use Rattle.definition.specs.Basics.{same}
use Rattle.jvms.specs.Pool.{Constant, Utf8, Integer, Float, Long, Double, Class, String, Fieldref, Methodref, InterfaceMethodref, NameAndType, MethodHandle, MethodType, Dynamic, InvokeDynamic, Module, Package, Slot, usable, unusable}
use Rattle.jvms.specs.Written.{bytes2, constant_bytes, slot_bytes_lem}
use Rattle.facts.proofs.Lists.{true≢false, same_true, same_refl}
use Rattle.class_file.specs.ClassFile.{name_constant, is_name_lem}
use Rattle.class_file.specs.Promises.{Named}

-- a constant that begins with another tag
other : {C : Type 0} (tag : ℕ) (l : List ℕ) → tag ∷ l ≡ name_constant → (tag ≡ 1 → ⊥) → C
unfolding name_constant constant_bytes
other tag l e differ = absurd (differ (ap (λ m. get_or m 0 0) e))

only-name : (c : Constant) → constant_bytes c ≡ name_constant → c ≡ Utf8 (ascii "BootstrapMethods")
unfolding constant_bytes bytes2 name_constant
only-name (Utf8 bytes) e = ap (λ l. Utf8 (drop 3 l)) e
only-name (Integer b) e = other 3 _ e (λ z. omega arith)
only-name (Float b) e = other 4 _ e (λ z. omega arith)
only-name (Long h l) e = other 5 _ e (λ z. omega arith)
only-name (Double h l) e = other 6 _ e (λ z. omega arith)
only-name (Class n) e = other 7 _ e (λ z. omega arith)
only-name (String n) e = other 8 _ e (λ z. omega arith)
only-name (Fieldref m n) e = other 9 _ e (λ z. omega arith)
only-name (Methodref m n) e = other 10 _ e (λ z. omega arith)
only-name (InterfaceMethodref m n) e = other 11 _ e (λ z. omega arith)
only-name (NameAndType m n) e = other 12 _ e (λ z. omega arith)
only-name (MethodHandle m n) e = other 15 _ e (λ z. omega arith)
only-name (MethodType n) e = other 16 _ e (λ z. omega arith)
only-name (Dynamic m n) e = other 17 _ e (λ z. omega arith)
only-name (InvokeDynamic m n) e = other 18 _ e (λ z. omega arith)
only-name (Module n) e = other 19 _ e (λ z. omega arith)
only-name (Package n) e = other 20 _ e (λ z. omega arith)

held : (slot : Option Slot) → is_name_lem slot ≡ true → slot ≡ some (usable (Utf8 (ascii "BootstrapMethods")))
unfolding is_name_lem same slot_bytes_lem name_constant constant_bytes
held none h = true≢false (sym h)
held (some unusable) h = true≢false (sym h)
held (some (usable c)) h = ap (λ x. some (usable x)) (only-name c (same_true (constant_bytes c) name_constant h))

pub named : Named
unfolding is_name_lem slot_bytes_lem name_constant
named slot = (held slot, λ e. ap is_name_lem e ∙ same_refl name_constant)
