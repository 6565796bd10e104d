-- Big-endian numbers in a list of bytes (document 01, "A job"): what stands at a place. Assumes nothing.
use Rattle.std.specs.Prelude.{List, ℕ, ◌+◌, ◌*◌, get_or}

-- the number in two bytes at a place, in four and in eight
abbrev pub number2 : List ℕ → ℕ → ℕ
number2 s at = 256 * get_or s at 0 + get_or s (at + 1) 0

abbrev pub number4 : List ℕ → ℕ → ℕ
number4 s at = 65536 * number2 s at + number2 s (at + 2)

abbrev pub number8 : List ℕ → ℕ → ℕ
number8 s at = 4294967296 * number4 s at + number4 s (at + 4)
