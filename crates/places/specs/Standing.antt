-- What stands at a pool's indexes, and where it stands in the bytes. Assumes nothing.
use Rattle.std.specs.Prelude.{List, ◌≡◌, ℕ, zero, suc, ◌<◌, length, drop, get_or}
use Rattle.std.proofs.Math.Option.{Option, none, some}
use Rattle.std.proofs.Math.ListN.{get_elem?}
use Rattle.jvms.specs.Pool.{Constant, Utf8, Integer, Float, Long, Double, Class, String, Fieldref, Methodref, InterfaceMethodref, NameAndType, MethodHandle, MethodType, Dynamic, InvokeDynamic, Module, Package, cp_info_lem, Slot, usable, BootstrapMethod, bootstrap_method}

-- JVMS table 4.4-A: the tags
unfoldable pub tag : Constant → ℕ
tag (Utf8 bytes) = 1
tag (Integer bytes) = 3
tag (Float bytes) = 4
tag (Long high-bytes low-bytes) = 5
tag (Double high-bytes low-bytes) = 6
tag (Class name-index) = 7
tag (String string-index) = 8
tag (Fieldref class-index name-and-type-index) = 9
tag (Methodref class-index name-and-type-index) = 10
tag (InterfaceMethodref class-index name-and-type-index) = 11
tag (NameAndType name-index descriptor-index) = 12
tag (MethodHandle reference-kind reference-index) = 15
tag (MethodType descriptor-index) = 16
tag (Dynamic bootstrap-method-attr-index name-and-type-index) = 17
tag (InvokeDynamic bootstrap-method-attr-index name-and-type-index) = 18
tag (Module name-index) = 19
tag (Package name-index) = 20

-- what stands at an index of a pool: they begin with 1
unfoldable pub slot_of : List Slot → ℕ → Option Slot
slot_of slots zero = none
slot_of slots (suc i) = get_elem? slots i

-- a constant begins at a place of the bytes, and a bootstrap method
abbrev pub ConstantAt : List ℕ → ℕ → Constant → Type 0
ConstantAt bytes at c = (rest : List ℕ) × (cp_info_lem (drop at bytes) ≡ some (c, rest))

abbrev pub MethodAt : List ℕ → ℕ → BootstrapMethod → Type 0
MethodAt bytes at m = (rest : List ℕ) × (bootstrap_method (drop at bytes) ≡ some (m, rest))

-- a table has the place of each index's constant, and 0 where none begins
pub record Noted (bytes : List ℕ) (slots : List Slot) (table : List ℕ) : Type 0 where
  pub size : length table ≡ 65536
  pub begins : (n : ℕ) (c : Constant) → slot_of slots n ≡ some (usable c) → (0 < get_or table n 0) × ConstantAt bytes (get_or table n 0) c
  pub no_more : (n : ℕ) → ((c : Constant) → slot_of slots n ≡ some (usable c) → ⊥) → get_or table n 0 ≡ 0

-- a table has the place of each bootstrap method, from 0 on
pub record MethodsNoted (bytes : List ℕ) (methods : List BootstrapMethod) (table : List ℕ) : Type 0 where
  pub size : length table ≡ 65536
  pub begins : (i : ℕ) (m : BootstrapMethod) → get_elem? methods i ≡ some m → MethodAt bytes (get_or table i 0) m
