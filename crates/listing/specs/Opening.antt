-- What the functions that open constants put, by the bytes that they read. Assumes nothing.
use Rattle.std.specs.Prelude.{true, false, List, [], ◌∷◌, ◌++◌, ℕ, zero, suc, ◌+◌, ◌<◌, ◌≤◌, eqb, length, get_or}
use Rattle.std.proofs.Math.Option.{Option, none, some}
use Rattle.definition.specs.Basics.{lookup}
use Rattle.definition.specs.Ascii.{ascii}
use Rattle.jvms.specs.Pool.{Slot, usable, unusable}
use Rattle.writer.specs.Numbers.{number2, number4, number8}
use Rattle.printing.specs.Numbers.{signed, hex_of, float, double}
use Rattle.listing.specs.Listing.{Opening, slot, method, held, reference_kind, arguments}
use Rattle.listing.specs.Views.{or_none, between}

-- what the constant at a slot holds, and nothing where none begins
unfoldable pub held_at : Opening → Option Slot → List ℕ
held_at show none = []
held_at show (some unusable) = []
held_at show (some (usable c)) = held show c

-- a number behind its tag
unfoldable pub numbers : List ℕ → ℕ → List (ℕ × List ℕ)
numbers bytes at =
    (3, signed 2147483648 (number4 bytes at))
    ∷ (4, hex_of 8 (number4 bytes at) ++ 0x20 ∷ float (number4 bytes at))
    ∷ (5, signed 9223372036854775808 (number8 bytes at))
    ∷ (6, hex_of 8 (number4 bytes at) ++ hex_of 8 (number4 bytes (at + 4)) ++ 0x20 ∷ double (number8 bytes at))
    ∷ []

unfoldable pub number_at : List ℕ → ℕ → List ℕ
number_at bytes at = or_none (lookup (get_or bytes at 0) (numbers bytes (at + 1)))

-- the tag of a number, and so many bytes of one are there
abbrev pub Sized : List ℕ → ℕ → Type 0
Sized bytes at = (2 < get_or bytes at 0) × (get_or bytes at 0 < 7) × (at + 5 ≤ length bytes) × (4 < get_or bytes at 0 → at + 9 ≤ length bytes)

-- two references, a dynamic constant and a method handle, by the place of the tag
unfoldable pub two_at_lem : Opening → List ℕ → ℕ → List ℕ
two_at_lem show bytes at = show (slot (number2 bytes (at + 1))) ++ between (get_or bytes at 0) ++ show (slot (number2 bytes (at + 3)))

unfoldable pub dynamic_at : Opening → List ℕ → ℕ → List ℕ
dynamic_at show bytes at = show (slot (number2 bytes (at + 3))) ++ between (get_or bytes at 0) ++ show (method (number2 bytes (at + 1)))

unfoldable pub handle_at : Opening → List ℕ → ℕ → List ℕ
handle_at show bytes at = reference_kind (get_or bytes (at + 1) 0) ++ 0x20 ∷ show (slot (number2 bytes (at + 2)))

-- so many numbers of two bytes
unfoldable pub numbers_at : List ℕ → ℕ → ℕ → List ℕ
numbers_at bytes at zero = []
numbers_at bytes at (suc n) = number2 bytes at ∷ numbers_at bytes (at + 2) n

-- the arguments of the bootstrap method that begins at a place
unfoldable pub arguments_at : Opening → List ℕ → ℕ → List ℕ
arguments_at show bytes at = arguments show (numbers_at bytes (at + 4) (number2 bytes (at + 2)))

-- what stands before an argument, by its index
unfoldable pub comma : ℕ → List ℕ
comma k = elim (eqb k 0) [ true ↦ [] | false ↦ ascii ", " ]
