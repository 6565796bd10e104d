-- Texts as JVMS 4.4.7 has them (document 02, No. 8): the sixteen-bit units of a text, both ways. Assumes nothing.
use Rattle.std.specs.Prelude.{Bool, true, false, ◌&&◌, List, [], ◌∷◌, map, ℕ, zero, suc, ◌+◌, ◌*◌, ◌-◌, ◌/◌, ◌%◌, leb, length}
use Rattle.std.proofs.Math.Option.{Option, none, some}
use Rattle.definition.specs.Basics.{Result, good, bad, ◌>>=◌ as ◌then◌, Refusal, at_record, unless, concat}
use Rattle.definition.specs.Bytes.{Parser, return, fail, ◌>>=◌, one}

unfoldable pub between : ℕ → ℕ → ℕ → Bool
between low high n = leb low n && leb n high

-- a unit's first byte: how many bytes follow it, and its own bits; none: 00, 80 to BF, F0 to FF
unfoldable pub leading : ℕ → Option (ℕ × ℕ)
leading b =
    elim (between 0x01 0x7f b) [
      | true ↦ some (0, b)
      | false ↦ elim (between 0xc0 0xdf b) [ true ↦ some (1, b - 0xc0) | false ↦ elim (between 0xe0 0xef b) [ true ↦ some (2, b - 0xe0) | false ↦ none ] ]
    ]

-- the bytes that follow, each 80 to BF with six bits more
unfoldable pub trailing : ℕ → ℕ → Parser ℕ
trailing zero bits = return bits
trailing (suc more) bits = do
  b ← one
  elim (between 0x80 0xbf b) [ true ↦ trailing more (64 * bits + (b - 0x80)) | false ↦ fail ]

-- one unit
unfoldable pub unit : Parser ℕ
unit = do
  b ← one
  elim (leading b) [ none ↦ fail | some l ↦ trailing l.0 l.1 ]

-- the units of all bytes, of which there are at most so many; none: the bytes are no text
unfoldable pub units : ℕ → List ℕ → Option (List ℕ)
units zero [] = some []
units zero (b ∷ bytes) = none
units (suc most) [] = some []
units (suc most) (b ∷ bytes) =
    elim (unit (b ∷ bytes)) [ none ↦ none | some r ↦ elim (units most r.1) [ none ↦ none | some rest ↦ some (r.0 ∷ rest) ] ]

unfoldable pub units_of : List ℕ → Option (List ℕ)
units_of bytes = units (length bytes) bytes

unfoldable pub is_text : List ℕ → Bool
is_text bytes = elim (units_of bytes) [ none ↦ false | some l ↦ true ]

-- a unit in the form that JVMS 4.4.7 lays down for it: 0001 to 007F in one byte, 0000 and 0080 to 07FF in two, the others in three
unfoldable pub unit_bytes : ℕ → List ℕ
unit_bytes n =
    elim (between 0x0001 0x007f n) [
      | true ↦ n ∷ []
      | false ↦
          elim (leb n 0x07ff) [
            | true ↦ (0xc0 + n / 64) ∷ (0x80 + n % 64) ∷ []
            | false ↦ (0xe0 + n / 4096) ∷ (0x80 + n / 64 % 64) ∷ (0x80 + n % 64) ∷ []
          ]
    ]

unfoldable pub text_of : List ℕ → List ℕ
text_of l = concat (map unit_bytes l)

-- the units of a text into room for so many: 25, then 18
unfoldable pub read_text : ℕ → List ℕ → Result Refusal (List ℕ)
read_text room bytes =
    elim (units_of bytes) [
      | none ↦ bad (record { code = 25; place = 0 })
      | some l ↦ ◌then◌ (at_record 0 (unless (leb (length l) room) 18)) λ _. good l
    ]

-- the text of units into room for so many bytes: 18
unfoldable pub write_text : ℕ → List ℕ → Result Refusal (List ℕ)
write_text room l = ◌then◌ (at_record 0 (unless (leb (length (text_of l)) room) 18)) λ _. good (text_of l)
