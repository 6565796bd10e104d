-- Class files put together by hand, written and read, and refusals. Assumes nothing.
use mathlib.Core.List.{List, [], ◌∷◌, ◌++◌, map}
use mathlib.Core.Path.{◌≡◌, refl}
use Prim.Native.Nat.{ℕ}
use lib.ListN.{replicate}
use Rattle.definition.specs.Ascii.{ascii}
use Rattle.definition.specs.Basics.{same, good, bad}
use Rattle.jvms.specs.Pool.{u1, u2, u4, array, structures, structure, cp_info_lem, takes_two, slots, constant_pool, wholly, read_pool_lem, bootstrap_method, read_bootstrap_methods}
use Rattle.jvms.specs.Written.{bytes2, bytes4, constant_bytes, slot_bytes_lem}
use Rattle.places.specs.Standing.{slot_of}
use Rattle.class_file.specs.ClassFile.{Parts, name_constant, is_name_lem, named, matches, proper, attribute-bytes, attributes-bytes, class_bytes, fitting, write_class, only_if, ◌must-be◌, bytes_of, all_left, attribute, attributes, class_file, accepted, read_class}

-- 1 Utf8 "A", 2 Class 1, 3 Utf8 "BootstrapMethods"
abbrev pool : List ℕ
pool = (0 ∷ 4 ∷ 1 ∷ 0 ∷ 1 ∷ 0x41 ∷ 7 ∷ 0 ∷ 1 ∷ 1 ∷ 0 ∷ 16 ∷ []) ++ ascii "BootstrapMethods"

-- a class of version 61.3, with this pool, flags 0x21, this class 2 and super class 0
abbrev parts : ℕ → ℕ → List ℕ → Parts
parts name count bootstraps =
    record {
      minor_version = 3;
      major_version = 61;
      pool = pool;
      access_flags = 0x21;
      this_class = 2;
      super_class = 0;
      name = name;
      count = count;
      bootstraps = bootstraps;
    }

-- its file up to methods_count
abbrev front : List ℕ
front = (0xca ∷ 0xfe ∷ 0xba ∷ 0xbe ∷ 0 ∷ 3 ∷ 0 ∷ 61 ∷ []) ++ pool ++ (0 ∷ 0x21 ∷ 0 ∷ 2 ∷ 0 ∷ 0 ∷ 0 ∷ 0 ∷ 0 ∷ 0 ∷ 0 ∷ 0 ∷ [])

-- no attribute, one without bootstrap methods, and one with a bootstrap method of no arguments
abbrev bare : List ℕ
bare = front ++ (0 ∷ 0 ∷ [])

abbrev empty : List ℕ
empty = front ++ (0 ∷ 1 ∷ 0 ∷ 3 ∷ 0 ∷ 0 ∷ 0 ∷ 2 ∷ 0 ∷ 0 ∷ [])

abbrev one : List ℕ
one = front ++ (0 ∷ 1 ∷ 0 ∷ 3 ∷ 0 ∷ 0 ∷ 0 ∷ 6 ∷ 0 ∷ 1 ∷ 0 ∷ 9 ∷ 0 ∷ 0 ∷ [])

pub written :
    (write_class 50 (parts 0 0 []) ≡ good bare)
    × (write_class 58 (parts 3 0 []) ≡ good empty)
    × (write_class 62 (parts 3 1 (0 ∷ 9 ∷ 0 ∷ 0 ∷ [])) ≡ good one)
unfolding ascii same u1 u2 u4 array structures structure cp_info_lem takes_two slots constant_pool wholly read_pool_lem bootstrap_method read_bootstrap_methods bytes2 bytes4 constant_bytes slot_bytes_lem slot_of name_constant is_name_lem named matches proper attribute-bytes attributes-bytes class_bytes fitting write_class
written = (refl, refl, refl)

pub read_back_lem :
    (read_class bare ≡ good (parts 0 0 []))
    × (read_class empty ≡ good (parts 3 0 []))
    × (read_class one ≡ good (parts 3 1 (0 ∷ 9 ∷ 0 ∷ 0 ∷ [])))
unfolding ascii same u1 u2 u4 array structures structure cp_info_lem takes_two slots constant_pool wholly read_pool_lem bootstrap_method read_bootstrap_methods bytes2 bytes4 constant_bytes slot_bytes_lem slot_of name_constant is_name_lem named matches proper only_if ◌must-be◌ bytes_of all_left attribute attributes class_file accepted read_class
read_back_lem = (refl, refl, refl)

-- a name slot that holds another text, one behind the pool, bootstrap methods with no name slot, one more and one fewer than their count says;
-- then a byte of room too few
pub not_written :
    (write_class 62 (parts 1 1 (0 ∷ 9 ∷ 0 ∷ 0 ∷ [])) ≡ bad 27)
    × (write_class 62 (parts 4 1 (0 ∷ 9 ∷ 0 ∷ 0 ∷ [])) ≡ bad 27)
    × (write_class 62 (parts 0 1 (0 ∷ 9 ∷ 0 ∷ 0 ∷ [])) ≡ bad 27)
    × (write_class 62 (parts 0 0 (0 ∷ 9 ∷ 0 ∷ 0 ∷ [])) ≡ bad 27)
    × (write_class 62 (parts 3 2 (0 ∷ 9 ∷ 0 ∷ 0 ∷ [])) ≡ bad 27)
    × (write_class 61 (parts 3 1 (0 ∷ 9 ∷ 0 ∷ 0 ∷ [])) ≡ bad 18)
unfolding ascii same u1 u2 u4 array structures structure cp_info_lem takes_two slots constant_pool wholly read_pool_lem bootstrap_method read_bootstrap_methods bytes2 bytes4 constant_bytes slot_bytes_lem slot_of name_constant is_name_lem named matches proper attribute-bytes attributes-bytes class_bytes fitting write_class
not_written = (refl, refl, refl, refl, refl, refl)

-- nothing, a byte left over, and behind methods_count: a second attribute, name slot 0, one that holds another text, and lengths off by one
pub not_read :
    map
    read_class
    ([]
    ∷ (bare ++ (0 ∷ []))
    ∷ (empty ++ (0 ∷ []))
    ∷ (front ++ (0 ∷ 2 ∷ 0 ∷ 3 ∷ 0 ∷ 0 ∷ 0 ∷ 2 ∷ 0 ∷ 0 ∷ []))
    ∷ (front ++ (0 ∷ 1 ∷ 0 ∷ 0 ∷ 0 ∷ 0 ∷ 0 ∷ 2 ∷ 0 ∷ 0 ∷ []))
    ∷ (front ++ (0 ∷ 1 ∷ 0 ∷ 2 ∷ 0 ∷ 0 ∷ 0 ∷ 2 ∷ 0 ∷ 0 ∷ []))
    ∷ (front ++ (0 ∷ 1 ∷ 0 ∷ 3 ∷ 0 ∷ 0 ∷ 0 ∷ 1 ∷ 0 ∷ 0 ∷ []))
    ∷ (front ++ (0 ∷ 1 ∷ 0 ∷ 3 ∷ 0 ∷ 0 ∷ 0 ∷ 3 ∷ 0 ∷ 0 ∷ []))
    ∷ [])
    ≡ replicate 8 (bad 27)
unfolding ascii same u1 u2 u4 array structures structure cp_info_lem takes_two slots constant_pool wholly read_pool_lem bootstrap_method read_bootstrap_methods bytes2 bytes4 constant_bytes slot_bytes_lem slot_of name_constant is_name_lem named matches proper only_if ◌must-be◌ bytes_of all_left attribute attributes class_file accepted read_class
not_read = refl
