-- Names for what reading a text goes by. Assumes nothing.
use Rattle.std.specs.Prelude.{Bool, ◌&&◌, List, [], ◌∷◌, ◌≡◌, ℕ, ◌+◌, ◌/◌, ◌%◌, ◌<◌, ◌≤◌, ltb, length, get_or, drop}
use Rattle.std.proofs.Math.Option.{Option, none, some}
use Rattle.definition.specs.Texts.{between, unit, units_of}

-- bytes begin with the form of a unit
pub record Begins (bytes : List ℕ) (u size : ℕ) : Type 0 where
  pub reads : unit bytes ≡ some (u, drop size bytes)
  pub moves : 0 < size
  pub inside : size ≤ length bytes

-- a byte that follows in a form stands at a place
abbrev pub has_six : List ℕ → ℕ → Bool
has_six bytes at = ltb at (length bytes) && between 0x80 0xbf (get_or bytes at 0)

-- how many units were read
unfoldable pub count_of : Option (List ℕ) → Option ℕ
count_of none = none
count_of (some l) = some (length l)

-- the units of a text, and none of what isn't one
unfoldable pub or_none : Option (List ℕ) → List ℕ
or_none none = []
or_none (some l) = l

abbrev pub held : List ℕ → List ℕ
held text = or_none (units_of text)

-- a unit in two bytes, and in three
abbrev pub in_two : ℕ → List ℕ
in_two n = (0xc0 + n / 64) ∷ (0x80 + n % 64) ∷ []

abbrev pub in_three : ℕ → List ℕ
in_three n = (0xe0 + n / 4096) ∷ (0x80 + n / 64 % 64) ∷ (0x80 + n % 64) ∷ []
