-- Pools put together by hand and their listings, and refusals. Assumes nothing.
use mathlib.Core.List.{List, [], ◌∷◌}
use mathlib.Core.Path.{◌≡◌, refl}
use Prim.Native.Nat.{ℕ}
use Rattle.definition.specs.Basics.{concat, lookup, good, bad}
use Rattle.definition.specs.Ascii.{ascii, digits, decimal, hex_digit, hex}
use Rattle.jvms.specs.Pool.{u1, u2, u4, array, structures, structure, cp_info_lem, takes_two, slots, constant_pool, wholly, read_pool_lem, bootstrap_method, read_bootstrap_methods}
use Rattle.printing.specs.Numbers.{escaped, quoted, signed, hex_of, fraction, power, scaled, magnitude, minus, to_hex_string, float, double}
use Rattle.places.specs.Standing.{tag, slot_of}
use Rattle.listing.specs.Listing.{reference_kinds, or_decimal, reference_kind, kinds, kind, both, held, named, within, arguments, applied, at_slot, at_method, bracketed, opened, line, lines_from, lines, fitting, listed, listing}

-- a Class, its text with a quote and a byte that isn't printable, a Long, a Float and an Integer
abbrev pool : List ℕ
pool = 0 ∷ 7 ∷ 7 ∷ 0 ∷ 2 ∷ 1 ∷ 0 ∷ 3 ∷ 0x41 ∷ 0x22 ∷ 0x80 ∷ 5 ∷ 0xff ∷ 0xff ∷ 0xff ∷ 0xff ∷ 0xff ∷ 0xff ∷ 0xff ∷ 0xfe ∷ 4 ∷ 0xbd ∷ 0xcc ∷ 0xcc ∷ 0xcd ∷ 3 ∷ 0x80 ∷ 0 ∷ 0 ∷ 0 ∷ []

pub example :
    listing 1000 pool 0 []
    ≡ good (ascii "1 Class \"A\\\"\\x80\"\n2 Utf8 \"A\\\"\\x80\"\n3 Long -2\n5 Float bdcccccd -0x1.99999ap-4\n6 Integer -2147483648\n")
unfolding concat lookup ascii digits decimal hex_digit hex u1 u2 u4 array structures structure cp_info_lem takes_two slots constant_pool wholly read_pool_lem bootstrap_method read_bootstrap_methods escaped quoted signed hex_of fraction power scaled magnitude minus to_hex_string float double reference_kinds or_decimal reference_kind tag kinds kind both held named within arguments applied at_slot at_method slot_of bracketed opened line lines_from lines fitting listed listing
example = refl

-- a Dynamic whose bootstrap method has the Dynamic itself for an argument, and a handle that leads nowhere: eight levels down are bare numbers
abbrev itself : List ℕ
itself = 0 ∷ 4 ∷ 1 ∷ 0 ∷ 1 ∷ 0x78 ∷ 12 ∷ 0 ∷ 1 ∷ 0 ∷ 1 ∷ 17 ∷ 0 ∷ 0 ∷ 0 ∷ 2 ∷ []

pub levels :
    listing 1000 itself 1 (0 ∷ 9 ∷ 0 ∷ 1 ∷ 0 ∷ 3 ∷ [])
    ≡ good
    (ascii "1 Utf8 \"x\"\n2 NameAndType \"x\" : \"x\"\n3 Dynamic NameAndType \"x\" : \"x\" by 9 (Dynamic NameAndType \"x\" : \"x\" by 9 (Dynamic NameAndType \"x\" : \"x\" by 9 (Dynamic NameAndType [1] : [1] by [9] ([3]))))\n")
unfolding concat lookup ascii digits decimal hex_digit hex u1 u2 u4 array structures structure cp_info_lem takes_two slots constant_pool wholly read_pool_lem bootstrap_method read_bootstrap_methods escaped quoted signed hex_of fraction power scaled magnitude minus to_hex_string float double reference_kinds or_decimal reference_kind tag kinds kind both held named within arguments applied at_slot at_method slot_of bracketed opened line lines_from lines fitting listed listing
levels = refl

-- 21: a count of 0, a byte behind the pool, a bootstrap method fewer than the count says; then 18: a byte of room too few
pub refusals :
    (listing 1000 (0 ∷ 0 ∷ []) 0 [] ≡ bad 21)
    × (listing 1000 (0 ∷ 1 ∷ 0 ∷ []) 0 [] ≡ bad 21)
    × (listing 1000 (0 ∷ 1 ∷ []) 1 [] ≡ bad 21)
    × (listing 9 (0 ∷ 2 ∷ 1 ∷ 0 ∷ 0 ∷ []) 0 [] ≡ bad 18)
    × (listing 10 (0 ∷ 2 ∷ 1 ∷ 0 ∷ 0 ∷ []) 0 [] ≡ good (ascii "1 Utf8 \"\"\n"))
unfolding concat lookup ascii digits decimal hex_digit hex u1 u2 u4 array structures structure cp_info_lem takes_two slots constant_pool wholly read_pool_lem bootstrap_method read_bootstrap_methods escaped quoted signed hex_of fraction power scaled magnitude minus to_hex_string float double reference_kinds or_decimal reference_kind tag kinds kind both held named within arguments applied at_slot at_method slot_of bracketed opened line lines_from lines fitting listed listing
refusals = (refl, refl, refl, refl, refl)
