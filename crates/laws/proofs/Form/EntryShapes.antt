-- When an entry fits a shape: what its fields show fills them, and it has nothing else. Assumes nothing.
use mathlib.Core.Bool.{Bool, true, false}
use mathlib.Core.List.{List, [], ◌∷◌}
use mathlib.Core.Path.{◌≡◌}
use Prim.Native.Nat.{ℕ, zero, suc, ◌<◌}
use lib.ListN.{length}
use Rattle.definition.specs.Shapes.{Field, text, bits, byte, to, to_many, Entry}

-- a number that two bytes hold
abbrev pub Short : ℕ → Type 0
Short n = n < 65536

-- a literal and so many references fill the fields exactly
abbrev pub Filled : List Field → List ℕ → ℕ → Type 0
Filled [] literal kids = kids ≡ 0
Filled (text ∷ fields) literal kids = Short (length literal) × Filled fields literal kids
Filled (bits size ∷ fields) literal kids = (length literal ≡ size) × Filled fields literal kids
Filled (byte ∷ fields) literal kids = Filled fields literal kids
Filled (to kind ∷ fields) literal zero = ⊥
Filled (to kind ∷ fields) literal (suc kids) = Filled fields literal kids
Filled (to_many ∷ fields) literal kids = Short kids × Filled fields literal 0

-- fields that show a literal, and fields that show a kind byte
abbrev pub shows_literal : List Field → Bool
shows_literal [] = false
shows_literal (text ∷ fields) = true
shows_literal (bits size ∷ fields) = true
shows_literal (byte ∷ fields) = shows_literal fields
shows_literal (to kind ∷ fields) = shows_literal fields
shows_literal (to_many ∷ fields) = shows_literal fields

abbrev pub shows_byte : List Field → Bool
shows_byte [] = false
shows_byte (text ∷ fields) = shows_byte fields
shows_byte (bits size ∷ fields) = shows_byte fields
shows_byte (byte ∷ fields) = true
shows_byte (to kind ∷ fields) = shows_byte fields
shows_byte (to_many ∷ fields) = shows_byte fields

-- an entry has what a shape shows, whatever its references are, and nothing else
pub record HasShape {R : Type 0} (fields : List Field) (e : Entry (List ℕ) R) : Type 0 where
  pub filled : Filled fields e.literal (length e.kids)
  pub no_literal : shows_literal fields ≡ false → e.literal ≡ []
  pub no_byte_lem : shows_byte fields ≡ false → e.byte ≡ 0
