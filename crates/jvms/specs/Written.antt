-- The bytes of a constant pool and of bootstrap methods, as JVMS 4.4 and 4.7.23 lay them down, and which items fit their bytes.
-- Assumes nothing.
use Rattle.std.specs.Prelude.{Bool, true, false, List, [], ◌∷◌, ◌++◌, ℕ, zero, suc, ◌/◌, ◌%◌, ◌<◌, length}
use Rattle.jvms.specs.Pool.{Constant, Utf8, Integer, Float, Long, Double, Class, String, Fieldref, Methodref, InterfaceMethodref, NameAndType, MethodHandle, MethodType, Dynamic, InvokeDynamic, Module, Package, takes_two, Slot, usable, unusable, BootstrapMethod}

-- 4: an item of two and of four bytes, the high byte first
unfoldable pub bytes2 : ℕ → List ℕ
bytes2 n = n / 256 ∷ n % 256 ∷ []

unfoldable pub bytes4 : ℕ → List ℕ
bytes4 n = bytes2 (n / 65536) ++ bytes2 (n % 65536)

-- all lists joined, each made of an item
unfoldable pub each_of : {A : Type 0} → (A → List ℕ) → List A → List ℕ
each_of f [] = []
each_of f (a ∷ l) = f a ++ each_of f l

-- 4.4.1 to 4.4.12: the tag, then the items
unfoldable pub constant_bytes : Constant → List ℕ
constant_bytes (Utf8 bytes) = 1 ∷ (bytes2 (length bytes) ++ bytes)
constant_bytes (Integer bytes) = 3 ∷ bytes4 bytes
constant_bytes (Float bytes) = 4 ∷ bytes4 bytes
constant_bytes (Long high-bytes low-bytes) = 5 ∷ (bytes4 high-bytes ++ bytes4 low-bytes)
constant_bytes (Double high-bytes low-bytes) = 6 ∷ (bytes4 high-bytes ++ bytes4 low-bytes)
constant_bytes (Class name-index) = 7 ∷ bytes2 name-index
constant_bytes (String string-index) = 8 ∷ bytes2 string-index
constant_bytes (Fieldref class-index name-and-type-index) = 9 ∷ (bytes2 class-index ++ bytes2 name-and-type-index)
constant_bytes (Methodref class-index name-and-type-index) = 10 ∷ (bytes2 class-index ++ bytes2 name-and-type-index)
constant_bytes (InterfaceMethodref class-index name-and-type-index) = 11 ∷ (bytes2 class-index ++ bytes2 name-and-type-index)
constant_bytes (NameAndType name-index descriptor-index) = 12 ∷ (bytes2 name-index ++ bytes2 descriptor-index)
constant_bytes (MethodHandle reference-kind reference-index) = 15 ∷ reference-kind ∷ bytes2 reference-index
constant_bytes (MethodType descriptor-index) = 16 ∷ bytes2 descriptor-index
constant_bytes (Dynamic bootstrap-method-attr-index name-and-type-index) = 17 ∷ (bytes2 bootstrap-method-attr-index ++ bytes2 name-and-type-index)
constant_bytes (InvokeDynamic bootstrap-method-attr-index name-and-type-index) = 18 ∷ (bytes2 bootstrap-method-attr-index ++ bytes2 name-and-type-index)
constant_bytes (Module name-index) = 19 ∷ bytes2 name-index
constant_bytes (Package name-index) = 20 ∷ bytes2 name-index

-- an unusable index has no bytes
unfoldable pub slot_bytes_lem : Slot → List ℕ
slot_bytes_lem (usable c) = constant_bytes c
slot_bytes_lem unusable = []

-- the count is one more than the indexes (4.1)
unfoldable pub pool_bytes : List Slot → List ℕ
pool_bytes s = bytes2 (suc (length s)) ++ each_of slot_bytes_lem s

unfoldable pub bootstrap_method_bytes : BootstrapMethod → List ℕ
bootstrap_method_bytes m = bytes2 m.bootstrap_method_ref ++ bytes2 (length m.bootstrap_arguments) ++ each_of bytes2 m.bootstrap_arguments

-- numbers that one, two and four bytes hold
abbrev pub Is1 : ℕ → Type 0
Is1 n = n < 256

abbrev pub Is2 : ℕ → Type 0
Is2 n = n < 65536

abbrev pub Is4 : ℕ → Type 0
Is4 n = n < 4294967296

-- all of a list
unfoldable pub All : {A : Type 0} → (A → Type 0) → List A → Type 0
All P [] = Unit {0}
All P (a ∷ l) = P a × All P l

-- a constant whose items all fit
unfoldable pub IsConstant : Constant → Type 0
IsConstant (Utf8 bytes) = Is2 (length bytes) × All Is1 bytes
IsConstant (Integer bytes) = Is4 bytes
IsConstant (Float bytes) = Is4 bytes
IsConstant (Long high-bytes low-bytes) = Is4 high-bytes × Is4 low-bytes
IsConstant (Double high-bytes low-bytes) = Is4 high-bytes × Is4 low-bytes
IsConstant (Class name-index) = Is2 name-index
IsConstant (String string-index) = Is2 string-index
IsConstant (Fieldref class-index name-and-type-index) = Is2 class-index × Is2 name-and-type-index
IsConstant (Methodref class-index name-and-type-index) = Is2 class-index × Is2 name-and-type-index
IsConstant (InterfaceMethodref class-index name-and-type-index) = Is2 class-index × Is2 name-and-type-index
IsConstant (NameAndType name-index descriptor-index) = Is2 name-index × Is2 descriptor-index
IsConstant (MethodHandle reference-kind reference-index) = Is1 reference-kind × Is2 reference-index
IsConstant (MethodType descriptor-index) = Is2 descriptor-index
IsConstant (Dynamic bootstrap-method-attr-index name-and-type-index) = Is2 bootstrap-method-attr-index × Is2 name-and-type-index
IsConstant (InvokeDynamic bootstrap-method-attr-index name-and-type-index) = Is2 bootstrap-method-attr-index × Is2 name-and-type-index
IsConstant (Module name-index) = Is2 name-index
IsConstant (Package name-index) = Is2 name-index

-- slots in their order: the first is unusable exactly if the constant before it takes two, and the last one's constant doesn't
unfoldable pub InOrder : Bool → List Slot → Type 0
InOrder false [] = Unit {0}
InOrder true [] = ⊥
InOrder false (usable c ∷ s) = IsConstant c × InOrder (takes_two c) s
InOrder true (usable c ∷ s) = ⊥
InOrder false (unusable ∷ s) = ⊥
InOrder true (unusable ∷ s) = InOrder false s

-- what stands at the indexes of a pool: two bytes hold the count
abbrev pub IsPool : List Slot → Type 0
IsPool s = Is2 (suc (length s)) × InOrder false s

abbrev pub IsBootstrapMethod : BootstrapMethod → Type 0
IsBootstrapMethod m = Is2 m.bootstrap_method_ref × Is2 (length m.bootstrap_arguments) × All Is2 m.bootstrap_arguments
