-- The file of proper parts is read as these parts. Assumes nothing.
use mathlib.Core.Bool.{true}
use mathlib.Core.List.{List, [], ◌++◌, append-nil, append_assoc}
use mathlib.Core.Option.{some}
use mathlib.Core.Path.{◌≡◌, refl, ap}
use Prim.Native.Nat.{ℕ, zero, suc, ◌+◌, ◌*◌, ◌-◌, ◌/◌, ◌%◌, ◌<◌}
use native.Mathlib.Omega.{arith}
use lib.ListN.{length, length-append}
use lib.Seq.{take-append_seam}
use borrow.Author.Tests.{eq-eqb, lt-ltb}
use Rattle.definition.specs.Basics.{good}
use Rattle.jvms.specs.Pool.{Reader, ◌>>=◌, u1, u2, u4, Slot, constant_pool, wholly, read_pool_lem}
use Rattle.jvms.specs.Written.{bytes2, bytes4, Is2, Is4}
use Rattle.class_file.specs.ClassFile.{Parts, proper, attribute-bytes, attributes-bytes, class_bytes, only_if, ◌must-be◌, bytes_of, all_left, Attribute, attribute, attributes, class_file, accepted, read_class}
use Rattle.class_file.specs.Promises.{Fits}
use Rattle.class_file.proofs.Local.{pool_before}
use Rattle.class_file.proofs.Sound.{Sound, proper-sound, nameless}

pub u2-back : (n : ℕ) (rest : List ℕ) → Is2 n → u2 (bytes2 n ++ rest) ≡ some (n, rest)
unfolding u2 u1 bytes2
u2-back n rest h =
    let e : 256 * (n / 256) + n % 256 ≡ n = omega arith in
    ap (λ m. some (m, rest)) e

pub u4-back : (n : ℕ) (rest : List ℕ) → Is4 n → u4 (bytes4 n ++ rest) ≡ some (n, rest)
unfolding u4 bytes4
u4-back n rest h =
    let e : 65536 * (n / 65536) + n % 65536 ≡ n = omega arith in
    let high : Is2 (n / 65536) = omega arith in
    let low : Is2 (n % 65536) = omega arith in
    rw (append_assoc, u2-back (n / 65536) _ high, u2-back (n % 65536) rest low, e)

pool_back : (pool rest : List ℕ) (s : List Slot) → read_pool_lem pool ≡ some s → bytes_of (u2 >>= constant_pool) (pool ++ rest) ≡ some (pool, rest)
unfolding bytes_of
pool_back pool rest s e =
    let n : length (pool ++ rest) - length rest ≡ length pool = omega (arith, length-append pool rest) in
    rw (pool_before pool rest s e) (rw (n, take-append_seam pool rest))

zero-back : (rest : List ℕ) → (u2 must-be 0) (bytes2 0 ++ rest) ≡ some (tt, rest)
unfolding ◌must-be◌ only_if
zero-back rest = rw (u2-back 0 rest (omega arith))

magic_back : (rest : List ℕ) → (u4 must-be 0xcafebabe) (bytes4 0xcafebabe ++ rest) ≡ some (tt, rest)
unfolding ◌must-be◌ only_if
magic_back rest = rw (u4-back 0xcafebabe rest (omega arith))

attribute-back : (p : Parts) → Fits p → Sound p → 0 < p.name → attribute (attribute-bytes p) ≡ some ((p.name, p.count, p.bootstraps), [])
unfolding attribute attribute-bytes all_left only_if
attribute-back p f s there =
    let long : Is4 (2 + length p.bootstraps) = omega (arith, s.short) in
    simp append_assoc
    (rw (u2-back p.name _ f.name_fits, lt-ltb 0 p.name there, u4-back (2 + length p.bootstraps) _ long, u2-back p.count _ f.count_fits, eq-eqb (2 + length p.bootstraps) _ refl))

attributes-back :
    (p : Parts) → Fits p → Sound p → (f : Attribute → Reader Parts) → (n : ℕ) → p.name ≡ n →
    (u2 >>= λ m. attributes m >>= f) (attributes-bytes n (attribute-bytes p)) ≡ f (p.name, p.count, p.bootstraps) []
unfolding attributes attributes-bytes
attributes-back p fits s f zero e =
    let no = nameless p s e in
    rw (e, no.0, no.1) (rw (← (append-nil (bytes2 0))) (rw (u2-back 0 [] (omega arith))))
attributes-back p fits s f (suc n) e =
    rw (u2-back 1 (attribute-bytes p) (omega arith)) (rw (attribute-back p fits s (omega arith)))

file_back : (p : Parts) → Fits p → Sound p → class_file (class_bytes p) ≡ some (p, [])
unfolding class_file class_bytes
file_back p f s =
    simp append_assoc
    (rw (
      magic_back _,
      u2-back p.minor_version _ f.minor_version_fits,
      u2-back p.major_version _ f.major_version_fits,
      pool_back p.pool _ s.slots s.pool_read,
      u2-back p.access_flags _ f.access_flags_fits,
      u2-back p.this_class _ f.this_class_fits,
      u2-back p.super_class _ f.super_class_fits,
      zero-back _,
      zero-back _,
      zero-back _,
    )
    (attributes-back p f s _ p.name refl))

pub parts-back : (p : Parts) → Fits p → proper p ≡ true → read_class (class_bytes p) ≡ good p
unfolding read_class accepted wholly
parts-back p f h = rw (file_back p f (proper-sound p h)) (rw (h, accepted))
