-- Texts that document 01 fixes, as their bytes. Assumes nothing.
use Rattle.std.specs.Prelude.{true, false, List, [] as []ᴸ, ◌∷◌ as ◌∷ᴸ◌, ◌++◌ as ◌++ᴸ◌, map, ℕ, zero, suc, ◌+◌, ◌/◌, ◌%◌, ltb}
use Prim.Native.Char.{code}
use Prim.Native.String.{String, [], ◌∷◌}
use Rattle.definition.specs.Basics.{concat}

-- a text's characters as bytes
unfoldable pub ascii : String → List ℕ
ascii [] = []ᴸ
ascii (c ∷ s) = code c ∷ᴸ ascii s

-- a number in decimal, its last digit behind the others; fuel is at least the number of its digits
unfoldable pub digits : ℕ → ℕ → List ℕ
digits zero n = []ᴸ
digits (suc fuel) n = elim (ltb n 10) [ true ↦ (48 + n) ∷ᴸ []ᴸ | false ↦ digits fuel (n / 10) ++ᴸ ((48 + n % 10) ∷ᴸ []ᴸ) ]

unfoldable pub decimal : ℕ → List ℕ
decimal n = digits (suc n) n

-- a hex digit of a number below 16
unfoldable pub hex_digit : ℕ → ℕ
hex_digit n = elim (ltb n 10) [ true ↦ 48 + n | false ↦ 87 + n ]

-- bytes in hex, two digits each
unfoldable pub hex : List ℕ → List ℕ
hex bytes = concat (map (λ b. hex_digit (b / 16 % 16) ∷ᴸ (hex_digit (b % 16) ∷ᴸ []ᴸ)) bytes)
