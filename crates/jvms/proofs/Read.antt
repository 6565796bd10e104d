-- A pool and bootstrap methods put together by hand read as the constants that they are, and what is no pool isn't read. Assumes nothing.
use mathlib.Core.List.{List, [], ◌∷◌, ◌++◌, map}
use mathlib.Core.Option.{Option, none, some}
use mathlib.Core.Path.{◌≡◌, refl}
use Prim.Native.Nat.{ℕ}
use lib.ListN.{replicate}
use Rattle.jvms.specs.Pool.{Constant, Utf8, Integer, Float, Long, Double, Class, String, Fieldref, Methodref, InterfaceMethodref, NameAndType, MethodHandle, MethodType, Dynamic, InvokeDynamic, Module, Package, Slot, usable, unusable, BootstrapMethod, u1, u2, u4, array, structures, structure, cp_info_lem, takes_two, slots, constant_pool, wholly, read_pool_lem, bootstrap_method, read_bootstrap_methods}
use Rattle.jvms.specs.Written.{each_of}

-- an entry's bytes, put together by hand, and what they are
abbrev entries : List (List ℕ × Constant)
entries =
    (1 ∷ 0 ∷ 3 ∷ 0x49 ∷ 0xc0 ∷ 0x80 ∷ [], Utf8 (0x49 ∷ 0xc0 ∷ 0x80 ∷ []))
    ∷ (1 ∷ 0 ∷ 0 ∷ [], Utf8 [])
    ∷ (3 ∷ 0x80 ∷ 0 ∷ 1 ∷ 2 ∷ [], Integer 0x80000102)
    ∷ (4 ∷ 0x7f ∷ 0xc0 ∷ 0 ∷ 3 ∷ [], Float 0x7fc00003)
    ∷ (7 ∷ 0x12 ∷ 0x34 ∷ [], Class 0x1234)
    ∷ (8 ∷ 0xff ∷ 0xfe ∷ [], String 0xfffe)
    ∷ (9 ∷ 0 ∷ 1 ∷ 2 ∷ 3 ∷ [], Fieldref 1 0x203)
    ∷ (10 ∷ 4 ∷ 5 ∷ 6 ∷ 7 ∷ [], Methodref 0x405 0x607)
    ∷ (11 ∷ 8 ∷ 9 ∷ 10 ∷ 11 ∷ [], InterfaceMethodref 0x809 0xa0b)
    ∷ (12 ∷ 1 ∷ 0 ∷ 0 ∷ 2 ∷ [], NameAndType 0x100 2)
    ∷ (15 ∷ 6 ∷ 1 ∷ 2 ∷ [], MethodHandle 6 0x102)
    ∷ (16 ∷ 3 ∷ 4 ∷ [], MethodType 0x304)
    ∷ (17 ∷ 0 ∷ 5 ∷ 0 ∷ 6 ∷ [], Dynamic 5 6)
    ∷ (18 ∷ 0 ∷ 7 ∷ 1 ∷ 8 ∷ [], InvokeDynamic 7 0x108)
    ∷ (19 ∷ 0 ∷ 9 ∷ [], Module 9)
    ∷ (20 ∷ 0 ∷ 10 ∷ [], Package 10)
    ∷ []

-- and of those that take two indexes
abbrev wide_entries : List (List ℕ × Constant)
wide_entries =
    (5 ∷ 1 ∷ 2 ∷ 3 ∷ 4 ∷ 5 ∷ 6 ∷ 7 ∷ 8 ∷ [], Long 0x1020304 0x5060708)
    ∷ (6 ∷ 0x40 ∷ 9 ∷ 0x21 ∷ 0xfb ∷ 0x54 ∷ 0x44 ∷ 0x2d ∷ 0x18 ∷ [], Double 0x400921fb 0x54442d18)
    ∷ []

-- each as it is written here, behind a count of its own
abbrev alone : ℕ → List ℕ → List ℕ
alone count bytes = 0 ∷ count ∷ bytes

-- all seventeen tags: 16 constants of one index and two of two, so constant_pool_count is 21; the Double has the last two indexes
pub seventeen_tags :
    read_pool_lem (0 ∷ 21 ∷ each_of (λ (e : List ℕ × Constant). e.0) (entries ++ wide_entries))
    ≡ some (map (λ e. usable e.1) entries ++ usable (Long 0x1020304 0x5060708) ∷ unusable ∷ usable (Double 0x400921fb 0x54442d18) ∷ unusable ∷ [])
unfolding u1 u2 u4 array structures structure cp_info_lem takes_two slots constant_pool wholly read_pool_lem each_of
seventeen_tags = refl

-- the empty pool, whose count is 1, is one
pub empty_pool : read_pool_lem (0 ∷ 1 ∷ []) ≡ some []
unfolding u1 u2 u4 array structures structure cp_info_lem takes_two slots constant_pool wholly read_pool_lem
empty_pool = refl

-- each constant is a pool by itself, and with its last byte cut off none
abbrev cut : List ℕ → List ℕ
cut [] = []
cut (b ∷ []) = []
cut (b ∷ c ∷ bytes) = b ∷ cut (c ∷ bytes)

pub each_alone :
    (map (λ (e : List ℕ × Constant). read_pool_lem (alone 2 e.0)) entries ≡ map (λ (e : List ℕ × Constant). some (usable e.1 ∷ [])) entries)
    × (map (λ (e : List ℕ × Constant). read_pool_lem (alone 3 e.0)) wide_entries ≡ map (λ (e : List ℕ × Constant). some (usable e.1 ∷ unusable ∷ [])) wide_entries)
unfolding u1 u2 u4 array structures structure cp_info_lem takes_two slots constant_pool wholly read_pool_lem
each_alone = (refl, refl)

pub each_cut :
    (map (λ (e : List ℕ × Constant). read_pool_lem (alone 2 (cut e.0))) entries ≡ replicate 16 none)
    × (map (λ (e : List ℕ × Constant). read_pool_lem (alone 3 (cut e.0))) wide_entries ≡ replicate 2 none)
unfolding u1 u2 u4 array structures structure cp_info_lem takes_two slots constant_pool wholly read_pool_lem
each_cut = (refl, refl)

-- bytes left over, of each
pub each_longer :
    (map (λ (e : List ℕ × Constant). read_pool_lem (alone 2 (e.0 ++ 0 ∷ []))) entries ≡ replicate 16 none)
    × (map (λ (e : List ℕ × Constant). read_pool_lem (alone 3 (e.0 ++ 0 ∷ []))) wide_entries ≡ replicate 2 none)
unfolding u1 u2 u4 array structures structure cp_info_lem takes_two slots constant_pool wholly read_pool_lem
each_longer = (refl, refl)

-- a constant that takes two indexes, in the last one
pub each_too_wide : map (λ (e : List ℕ × Constant). read_pool_lem (alone 2 e.0)) wide_entries ≡ replicate 2 none
unfolding u1 u2 u4 array structures structure cp_info_lem takes_two slots constant_pool wholly read_pool_lem
each_too_wide = refl

-- no pool: no count, half a count, the count 0 with nothing and with a constant behind it, a constant too few
pub no_pool :
    map
    read_pool_lem
    ([]
    ∷ (0 ∷ [])
    ∷ (0 ∷ 0 ∷ [])
    ∷ (0 ∷ 0 ∷ 7 ∷ 0 ∷ 1 ∷ [])
    ∷ (0 ∷ 3 ∷ 7 ∷ 0 ∷ 1 ∷ [])
    ∷ [])
    ≡ replicate 5 none
unfolding u1 u2 u4 array structures structure cp_info_lem takes_two slots constant_pool wholly read_pool_lem
no_pool = refl

-- tags that no constant has, each with eight bytes behind it to read from
pub unknown_tags :
    map (λ tag. cp_info_lem (tag ∷ 0 ∷ 1 ∷ 0 ∷ 1 ∷ 0 ∷ 1 ∷ 0 ∷ 1 ∷ [])) (0 ∷ 2 ∷ 13 ∷ 14 ∷ 21 ∷ 255 ∷ []) ≡ replicate 6 none
unfolding u1 u2 u4 array structures structure cp_info_lem takes_two slots constant_pool wholly read_pool_lem
unknown_tags = refl

-- bootstrap methods with none, one and two arguments
abbrev rows : List ℕ
rows = 0 ∷ 9 ∷ 0 ∷ 0 ∷ 1 ∷ 2 ∷ 0 ∷ 1 ∷ 3 ∷ 4 ∷ 0 ∷ 5 ∷ 0 ∷ 2 ∷ 0 ∷ 6 ∷ 7 ∷ 8 ∷ []

pub bootstrap_methods :
    read_bootstrap_methods 3 rows
    ≡ some (record { bootstrap_method_ref = 9; bootstrap_arguments = [] }
    ∷ record { bootstrap_method_ref = 0x102; bootstrap_arguments = 0x304 ∷ [] }
    ∷ record { bootstrap_method_ref = 5; bootstrap_arguments = 6 ∷ 0x708 ∷ [] }
    ∷ [])
unfolding u1 u2 array wholly bootstrap_method read_bootstrap_methods
bootstrap_methods = refl

-- no bootstrap methods, and of those above one too few and too many, a byte left over and one cut off
pub no_bootstrap_methods :
    (read_bootstrap_methods 0 [] ≡ some [])
    × (map (λ n. read_bootstrap_methods n rows) (2 ∷ 4 ∷ []) ≡ replicate 2 none)
    × (map (read_bootstrap_methods 3) ((rows ++ 0 ∷ []) ∷ cut rows ∷ []) ≡ replicate 2 none)
unfolding u1 u2 array wholly bootstrap_method read_bootstrap_methods
no_bootstrap_methods = (refl, refl, refl)
