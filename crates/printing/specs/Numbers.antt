-- Texts and numbers as the listing shows them (document 02, No. 1). Assumes nothing.
use Rattle.std.specs.Prelude.{true, false, ◌&&◌, ◌||◌, List, [], ◌∷◌, ◌++◌, map, ℕ, zero, suc, ◌+◌, ◌*◌, ◌-◌, ◌/◌, ◌%◌, eqb, leb, ltb}
use Rattle.definition.specs.Basics.{concat}
use Rattle.definition.specs.Ascii.{ascii, decimal, hex_digit, hex}

-- a quote and a backslash stand behind a backslash, and a byte that isn't printable ASCII is \x and its hex digits: a text stays in its line
unfoldable pub escaped : ℕ → List ℕ
escaped b =
    elim (eqb b 0x22 || eqb b 0x5c) [
      | true ↦ 0x5c ∷ b ∷ []
      | false ↦ elim (leb 0x20 b && ltb b 0x7f) [ true ↦ b ∷ [] | false ↦ 0x5c ∷ 0x78 ∷ hex (b ∷ []) ]
    ]

unfoldable pub quoted : List ℕ → List ℕ
quoted bytes = 0x22 ∷ (concat (map escaped bytes) ++ 0x22 ∷ [])

-- a number of two's complement, of which half are below `half`, in decimal
unfoldable pub signed : ℕ → ℕ → List ℕ
signed half n = elim (ltb n half) [ true ↦ decimal n | false ↦ 0x2d ∷ decimal (2 * half - n) ]

-- the last so many hex digits of a number
unfoldable pub hex_of : ℕ → ℕ → List ℕ
hex_of zero n = []
hex_of (suc count) n = hex_of count (n / 16) ++ hex_digit (n % 16) ∷ []

-- the unit of the first of so many hex digits
unfoldable pub unit_of : ℕ → ℕ
unit_of zero = 0
unit_of (suc zero) = 1
unit_of (suc (suc count)) = 16 * unit_of (suc count)

-- of so many hex digits those up to the last that isn't 0, one at least
unfoldable pub fraction : ℕ → ℕ → List ℕ
fraction zero m = []
fraction (suc zero) m = hex_of 1 m
fraction (suc (suc count)) m = elim (eqb (m % 16) 0) [ true ↦ fraction (suc count) (m / 16) | false ↦ hex_of (suc (suc count)) m ]

-- an exponent behind its bias
unfoldable pub power : ℕ → ℕ → List ℕ
power bias e = elim (ltb e bias) [ true ↦ 0x2d ∷ decimal (bias - e) | false ↦ decimal (e - bias) ]

-- a fraction of so many hex digits, times a power of two
unfoldable pub scaled : ℕ → ℕ → ℕ → ℕ → List ℕ
scaled bias count e m = fraction count m ++ 0x70 ∷ power bias e

-- a floating-point number as Java's to_hex_string writes it: its sign, its exponent, of which `2 * bias + 1` is the highest, and its fraction m of
-- so many hex digits
unfoldable pub magnitude : ℕ → ℕ → ℕ → ℕ → List ℕ
magnitude bias count e m =
    elim (eqb e (2 * bias + 1)) [
      | true ↦ ascii "Infinity"
      | false ↦ elim (eqb e 0) [
        | true ↦ elim (eqb m 0) [ true ↦ ascii "0x0.0p0" | false ↦ ascii "0x0." ++ scaled bias count 1 m ]
        | false ↦ ascii "0x1." ++ scaled bias count e m
      ]
    ]

unfoldable pub minus : ℕ → List ℕ
minus sign = elim (eqb sign 0) [ true ↦ [] | false ↦ 0x2d ∷ [] ]

unfoldable pub to_hex_string : ℕ → ℕ → ℕ → ℕ → ℕ → List ℕ
to_hex_string bias count sign e m =
    elim (eqb e (2 * bias + 1) && ltb 0 m) [ true ↦ ascii "NaN" | false ↦ minus sign ++ magnitude bias count e m ]

-- 23 bits of fraction are six hex digits with one bit more, 52 are thirteen
unfoldable pub float : ℕ → List ℕ
float bits = to_hex_string 127 6 (bits / 2147483648) (bits / 8388608 % 256) (2 * (bits % 8388608))

unfoldable pub double : ℕ → List ℕ
double bits = to_hex_string 1023 13 (bits / 9223372036854775808) (bits / 4503599627370496 % 2048) (bits % 4503599627370496)
