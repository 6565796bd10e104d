-- Bytes that spell constants, slots or bootstrap methods are read as these. Assumes nothing.
use mathlib.Core.Bool.{Bool, true, false}
use mathlib.Core.List.{List, [], ◌∷◌, ◌++◌, append-nil, append_assoc}
use mathlib.Core.Option.{some}
use mathlib.Core.Path.{◌≡◌, refl, ap}
use Prim.Native.Nat.{ℕ, suc, ◌+◌, ◌*◌, ◌/◌, ◌%◌}
use native.Mathlib.Omega.{arith}
use lib.ListN.{length}
use Rattle.jvms.specs.Pool.{Reader, u1, u2, u4, array, Constant, Utf8, Integer, Float, Long, Double, Class, String, Fieldref, Methodref, InterfaceMethodref, NameAndType, MethodHandle, MethodType, Dynamic, InvokeDynamic, Module, Package, structures, structure, cp_info_lem, takes_two, Slot, usable, unusable, slots, constant_pool, wholly, read_pool_lem, BootstrapMethod, bootstrap_method, read_bootstrap_methods}
use Rattle.jvms.specs.Written.{bytes2, bytes4, each_of, constant_bytes, slot_bytes_lem, pool_bytes, bootstrap_method_bytes, Is1, Is2, Is4, All, IsConstant, InOrder, IsPool, IsBootstrapMethod}
use Rattle.laws.proofs.Reading.ReadIsSpelled.{all_one}

u2-back : (n : ℕ) (rest : List ℕ) → Is2 n → u2 (bytes2 n ++ rest) ≡ some (n, rest)
unfolding u2 u1 bytes2
u2-back n rest h =
    let e : 256 * (n / 256) + n % 256 ≡ n = omega arith in
    ap (λ m. some (m, rest)) e

u4-back : (n : ℕ) (rest : List ℕ) → Is4 n → u4 (bytes4 n ++ rest) ≡ some (n, rest)
unfolding u4 bytes4
u4-back n rest h =
    let e : 65536 * (n / 65536) + n % 65536 ≡ n = omega arith in
    let high : Is2 (n / 65536) = omega arith in
    let low : Is2 (n % 65536) = omega arith in
    rw (append_assoc, u2-back (n / 65536) _ high, u2-back (n % 65536) rest low, e)

array_back :
    {A : Type 0} (P : A → Type 0) (W : A → List ℕ) (r : Reader A) →
    ((a : A) (rest : List ℕ) → P a → r (W a ++ rest) ≡ some (a, rest)) →
    (l : List A) (rest : List ℕ) →
    All P l →
    array (length l) r (each_of W l ++ rest) ≡ some (l, rest)
unfolding array each_of All
array_back P W r back [] rest h = refl
array_back P W r back (a ∷ l) rest h = rw (append_assoc, back a _ h.0, array_back P W r back l rest h.1)

text_back : (bytes rest : List ℕ) → All Is1 bytes → array (length bytes) u1 (bytes ++ rest) ≡ some (bytes, rest)
unfolding u1
text_back bytes rest h =
    rw (all_one) at (array_back Is1 (λ b. b ∷ []) u1 (λ b rest k. refl) bytes rest h)

constant_back : (c : Constant) (rest : List ℕ) → IsConstant c → cp_info_lem (constant_bytes c ++ rest) ≡ some (c, rest)
unfolding cp_info_lem constant_bytes IsConstant structures structure u1
constant_back (Utf8 bytes) rest h = rw (append_assoc, u2-back (length bytes) _ h.0, text_back bytes rest h.1)
constant_back (Integer bytes) rest h = rw (u4-back bytes rest h)
constant_back (Float bytes) rest h = rw (u4-back bytes rest h)
constant_back (Long high low) rest h = rw (append_assoc, u4-back high _ h.0, u4-back low rest h.1)
constant_back (Double high low) rest h = rw (append_assoc, u4-back high _ h.0, u4-back low rest h.1)
constant_back (Class n) rest h = rw (u2-back n rest h)
constant_back (String n) rest h = rw (u2-back n rest h)
constant_back (Fieldref m n) rest h = rw (append_assoc, u2-back m _ h.0, u2-back n rest h.1)
constant_back (Methodref m n) rest h = rw (append_assoc, u2-back m _ h.0, u2-back n rest h.1)
constant_back (InterfaceMethodref m n) rest h = rw (append_assoc, u2-back m _ h.0, u2-back n rest h.1)
constant_back (NameAndType m n) rest h = rw (append_assoc, u2-back m _ h.0, u2-back n rest h.1)
constant_back (MethodHandle m n) rest h = rw (u2-back n rest h.1)
constant_back (MethodType n) rest h = rw (u2-back n rest h)
constant_back (Dynamic m n) rest h = rw (append_assoc, u2-back m _ h.0, u2-back n rest h.1)
constant_back (InvokeDynamic m n) rest h = rw (append_assoc, u2-back m _ h.0, u2-back n rest h.1)
constant_back (Module n) rest h = rw (u2-back n rest h)
constant_back (Package n) rest h = rw (u2-back n rest h)

slots-back : (w : Bool) (s : List Slot) (rest : List ℕ) → InOrder w s → slots (length s) w (each_of slot_bytes_lem s ++ rest) ≡ some (s, rest)
unfolding slots InOrder each_of slot_bytes_lem
slots-back false [] rest h = refl
slots-back true [] rest h = absurd h
slots-back false (usable c ∷ s) rest h = rw (append_assoc, constant_back c _ h.0, slots-back (takes_two c) s rest h.1)
slots-back true (usable c ∷ s) rest h = absurd h
slots-back false (unusable ∷ s) rest h = absurd h
slots-back true (unusable ∷ s) rest h = rw (slots-back false s rest h)

pub pool_back : (s : List Slot) → IsPool s → read_pool_lem (pool_bytes s) ≡ some s
unfolding read_pool_lem pool_bytes constant_pool wholly
pool_back s h = rw (u2-back (suc (length s)) _ h.0) (rw (← (append-nil (each_of slot_bytes_lem s))) (rw (slots-back false s [] h.1)))

method_back : (m : BootstrapMethod) (rest : List ℕ) → IsBootstrapMethod m → bootstrap_method (bootstrap_method_bytes m ++ rest) ≡ some (m, rest)
unfolding bootstrap_method bootstrap_method_bytes
method_back m rest h =
    simp append_assoc (rw (u2-back m.bootstrap_method_ref _ h.0, u2-back (length m.bootstrap_arguments) _ h.1, array_back Is2 bytes2 u2 u2-back m.bootstrap_arguments rest h.2))

pub methods_back : (l : List BootstrapMethod) → All IsBootstrapMethod l → read_bootstrap_methods (length l) (each_of bootstrap_method_bytes l) ≡ some l
unfolding read_bootstrap_methods wholly
methods_back l h =
    rw (← (append-nil (each_of bootstrap_method_bytes l))) (rw (array_back IsBootstrapMethod bootstrap_method_bytes bootstrap_method method_back l [] h))
